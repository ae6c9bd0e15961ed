-- `tables::label_of` meets its contract: the rows named have no label but for those that are left, and the first label is the answer.
use Rattle.tables.proofs.Members.{Passed}
use Rattle.tables.proofs.Labels.{Unlabelled}
use Rattle.tables.proofs.label_of.Given as goal

abbrev pub invariant-loop-left : goal.invariant-loop-left
invariant-loop-left l = Passed (Unlabelled l.t) l.rows l.left

abbrev pub decreases-loop-left : goal.decreases-loop-left
decreases-loop-left l = l.left
