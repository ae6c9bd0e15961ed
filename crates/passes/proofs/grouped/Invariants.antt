-- `passes::grouped` meets its contract: at x it has what the rows before x have of others.
use Rattle.passes.proofs.Chain.{Grouping}
use Rattle.passes.proofs.grouped.Given as goal

abbrev pub invariant-loop-x : goal.invariant-loop-x
invariant-loop-x l = Grouping l.same l.x l.a
