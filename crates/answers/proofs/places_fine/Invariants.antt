-- `answers::places_fine` meets its contract: at every place the question of the rest is the question of all.
use mathlib.Core.Path.{◌≡◌}
use lib.ListN.{drop}
use Rattle.meaning.specs.Files.{places_fine}
use Rattle.answers.specs.Judgement.{quads_of}
use Rattle.answers.proofs.places_fine.Given as goal

abbrev pub invariant-loop-i : goal.invariant-loop-i
invariant-loop-i l = places_fine l.nodes l.i (drop l.i (quads_of l.places)) ≡ places_fine l.nodes 0 (quads_of l.places)
