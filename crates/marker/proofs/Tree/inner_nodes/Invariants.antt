-- `marker::Tree::inner_nodes` meets its contract: the parents of the nodes so far are in the set, and no other node is.
use mathlib.Core.Path.{◌≡◌}
use Rattle.meaning.specs.Tree.{Node}
use Rattle.meaning.specs.Finite.{anyb}
use Rattle.rowbits.specs.Bit.{bit}
use Rattle.theory.specs.Check.{is_parent}
use Rattle.answers.specs.Tree.{tree_in}
use Rattle.marker.proofs.Tree.inner_nodes.Given as goal

abbrev pub invariant-loop-i : goal.invariant-loop-i
invariant-loop-i l = (u : Node) → bit l.inner u ≡ anyb l.i (is_parent (tree_in l.self.records.now) u)
