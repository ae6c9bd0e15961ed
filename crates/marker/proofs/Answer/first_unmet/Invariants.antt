-- `marker::Answer::first_unmet` meets its contract: at every position the mark of the rest, told from the front, is
-- the mark of all.
use mathlib.Core.Path.{◌≡◌}
use lib.ListN.{drop}
use Rattle.theory.specs.Check.{mark}
use Rattle.constraints.specs.Judgement.{constraints_in}
use Rattle.answers.specs.Tree.{tree_in, places_in}
use Rattle.marker.proofs.First.{ahead}
use Rattle.marker.proofs.Answer.first_unmet.Given as goal

abbrev pub invariant-loop-position : goal.invariant-loop-position
invariant-loop-position l =
    ahead l.position (mark (tree_in l.self.tree.records.now) (places_in l.self.places.now)
    (drop l.position (constraints_in l.constraints)))
    ≡ mark (tree_in l.self.tree.records.now) (places_in l.self.places.now) (constraints_in l.constraints)
