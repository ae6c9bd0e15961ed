-- `marker::Tree::ancestor_sets` meets its contract: the sets of the nodes so far are right.
use mathlib.Core.Path.{◌≡◌}
use Prim.Native.Nat.{◌<◌}
use lib.ListN.{length, get_or}
use Rattle.meaning.specs.Tree.{Node}
use Rattle.rowbits.specs.Bit.{bit}
use Rattle.theory.specs.Check.{is_above}
use Rattle.answers.specs.Tree.{tree_in}
use Rattle.marker.proofs.Tree.ancestor_sets.Given as goal

abbrev pub invariant-loop-i : goal.invariant-loop-i
invariant-loop-i l = (length l.above ≡ 64) × ((u v : Node) → v < l.i → bit (get_or l.above v 0) u ≡ is_above
    (tree_in l.self.records.now) u v)
