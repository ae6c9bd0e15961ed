-- `chains::parent_join` meets its contract: the loop has passed no z with a parent join.
use Rattle.meaning.specs.FixedSearch.{parent_join}
use Rattle.tables.specs.declared.Facts.{Facts}
use Rattle.stages.specs.Found.{with_below}
use Rattle.chains.specs.Rows.{with_parent}
use Rattle.stages.proofs.Stage.{NoneBefore}
use Rattle.chains.proofs.parent_join.Given as goal

abbrev pub invariant-loop-z : goal.invariant-loop-z
invariant-loop-z l = (f : Facts) → NoneBefore parent_join l.fn.n.count (with_parent l.fn.parent (with_below l.fn.below l.fn.above f)) l.z
