-- `grouping::two_labels` meets its contract: the rows named have no other label but for those that are left.
use Rattle.tables.proofs.Members.{Passed}
use Rattle.grouping.proofs.Loops.{Only}
use Rattle.grouping.proofs.two_labels.Given as goal

abbrev pub invariant-loop-rest : goal.invariant-loop-rest
invariant-loop-rest l = Passed (Only l.t l.l) l.rows l.rest

abbrev pub decreases-loop-rest : goal.decreases-loop-rest
decreases-loop-rest l = l.rest
