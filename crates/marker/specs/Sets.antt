-- Sets of nodes as the bits of a number: what the marker computes once of a tree, so that each constraint is one test.
use Rattle.std.specs.Prelude.{◌≡◌, List, ℕ, ◌<◌, get_or}
use Rattle.meaning.specs.Tree.{Node, Tree}
use Rattle.meaning.specs.Finite.{anyb}
use Rattle.rowbits.specs.Bit.{bit}
use Rattle.theory.specs.Check.{is_parent, is_above}

-- of each node the nodes at or above it
abbrev pub AncestorSets : Tree → List ℕ → Type 0
AncestorSets t above = (u v : Node) → v < t.size → bit (get_or above v 0) u ≡ is_above t u v

-- the nodes that have a child
abbrev pub InnerNodes : Tree → ℕ → Type 0
InnerNodes t inner = (u : Node) → bit inner u ≡ anyb t.size (is_parent t u)
