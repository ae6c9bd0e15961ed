-- `merge::enter_same` meets its contract. The invariant: whatever was pending at the start is pending now, and the variables of x are not yet the
-- same, or x is empty and the children of the document node are the same too. Each round fills a gap of below, so that it ends.
use mathlib.Core.Path.{◌≡◌}
use mathlib.Core.Logic.{◌≢◌}
use mathlib.Core.List.{List}
use Rattle.meaning.specs.Constraint.{Fact}
use Rattle.tables.specs.Rows.{Union}
use Rattle.grouping.specs.Rows.{Gap}
use Rattle.grouping.specs.Grouping.{Pending, lacking}
use Rattle.merge.specs.Merging.{OneElement}
use Rattle.merge.proofs.enter_same.Given as goal

abbrev pub invariant-loop-x : goal.invariant-loop-x
invariant-loop-x l = record {
  pending : (T : List Fact) → Pending l.fn.n.count T l.initial.x l.initial.g → Pending l.fn.n.count T l.x l.g;
  top : l.x ≡ 0 → OneElement l.g;
  apart : l.x ≢ 0 → Gap l.g.below l.x × Union l.g.below l.x l.lower × Union l.g.above l.x l.upper;
}

abbrev pub decreases-loop-x : goal.decreases-loop-x
decreases-loop-x l = lacking l.g.below
