-- `settle::unlike` meets its contract: the loop has compared the rows below x.
use Rattle.settle.proofs.Reaching.{Comparing}
use Rattle.settle.proofs.unlike.Given as goal

abbrev pub invariant-loop-x : goal.invariant-loop-x
invariant-loop-x l = Comparing l.t l.u l.x l.any
