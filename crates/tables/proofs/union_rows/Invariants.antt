-- `tables::union_rows` meets its contract: at every turn it holds what the rows named held together, but for those that are left.
use Rattle.tables.proofs.Members.{Uniting}
use Rattle.tables.proofs.union_rows.Given as goal

abbrev pub invariant-loop-left : goal.invariant-loop-left
invariant-loop-left l = Uniting l.t l.rows l.a l.left

abbrev pub decreases-loop-left : goal.decreases-loop-left
decreases-loop-left l = l.left
