-- `answers::nodes_fine` meets its contract: at every node the question of the rest is the question of all.
use mathlib.Core.Path.{◌≡◌}
use lib.ListN.{drop}
use Rattle.meaning.specs.Files.{nodes_fine}
use Rattle.answers.specs.Judgement.{quads_of}
use Rattle.answers.proofs.nodes_fine.Given as goal

abbrev pub invariant-loop-i : goal.invariant-loop-i
invariant-loop-i l = nodes_fine l.i (drop l.i (quads_of l.nodes)) ≡ nodes_fine 0 (quads_of l.nodes)
