-- `passes::below_rows` meets its contract: the loop applies the rules that look at one row, then the rows are chained.
use Rattle.tables.specs.Tables.{row}
use Rattle.tables.proofs.Loops.{Rowing}
use Rattle.passes.specs.Rows.{first_row}
use Rattle.passes.proofs.below_rows.Given as goal

abbrev pub invariant-loop-x : goal.invariant-loop-x
invariant-loop-x l = Rowing (λ k v. first_row v (row l.child k) l.root k l.n.count) l.n.count l.initial.a l.x l.a
