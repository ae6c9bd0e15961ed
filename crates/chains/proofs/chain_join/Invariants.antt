-- `chains::chain_join` meets its contract: the loop has passed no z with a chain join.
use Rattle.meaning.specs.FixedSearch.{chain_join}
use Rattle.tables.specs.declared.Facts.{Facts}
use Rattle.stages.specs.Found.{with_below}
use Rattle.stages.proofs.Stage.{NoneBefore}
use Rattle.chains.proofs.chain_join.Given as goal

abbrev pub invariant-loop-z : goal.invariant-loop-z
invariant-loop-z l = (f : Facts) → NoneBefore chain_join l.fn.n.count (with_below l.fn.below l.fn.above f) l.z
