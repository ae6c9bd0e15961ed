-- `ancestors::sibling_join` meets its contract: the loop has passed no y with a join of siblings.
use Rattle.meaning.specs.FixedSearch.{sibling_join}
use Rattle.tables.specs.declared.Facts.{Facts}
use Rattle.stages.specs.Found.{with_below}
use Rattle.ancestors.specs.Rows.{with_before}
use Rattle.stages.proofs.Stage.{NoneBefore}
use Rattle.ancestors.proofs.sibling_join.Given as goal

abbrev pub invariant-loop-y : goal.invariant-loop-y
invariant-loop-y l = (f : Facts)
    → NoneBefore sibling_join l.fn.n.count (with_before l.fn.before l.fn.after (with_below l.fn.below l.fn.above f)) l.y
