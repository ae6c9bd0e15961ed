-- `grouping::paint` meets its contract: with no label nothing changes; else the rows named are painted but for those that are left.
use Rattle.grouping.proofs.Loops.{Painting}
use Rattle.grouping.proofs.paint.Given as goal

abbrev pub invariant-loop-rest : goal.invariant-loop-rest
invariant-loop-rest l = Painting l.initial.a l.rows l.l l.a l.rest

abbrev pub decreases-loop-rest : goal.decreases-loop-rest
decreases-loop-rest l = l.rest
