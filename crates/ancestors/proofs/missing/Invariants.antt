-- `ancestors::missing` meets its contract: at every turn it holds what is missing in the rows that were passed.
use Rattle.ancestors.proofs.Lacks.{Lacks}
use Rattle.ancestors.proofs.missing.Given as goal

abbrev pub invariant-loop-left : goal.invariant-loop-left
invariant-loop-left l = Lacks l.t l.rows l.of l.a l.left

abbrev pub decreases-loop-left : goal.decreases-loop-left
decreases-loop-left l = l.left
