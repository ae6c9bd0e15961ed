-- Elements held by links: of each node its first child, its next sibling and its name; 0 is no node.
use Rattle.std.specs.Prelude.{◌≡◌, List, ℕ, suc, ◌+◌, ◌-◌, ◌*◌, ◌/◌, ◌≤◌, ◌<◌, length, get_or, set}
use Rattle.meaning.specs.Xml.{Forest, no_element, element, name_of, forest_text}
use Rattle.theory.specs.Xml.{forest_from}
use Rattle.lent.specs.Putting.{Put}
use Rattle.answers.specs.Tree.{tree_in}
use Rattle.xmlwriter.specs.declared.links.Links.{Links}

-- what stands under the document node of some node records
abbrev pub forest_in : List ℕ → Forest
forest_in nodes = forest_from (tree_in nodes) (length nodes / 4 - 1) 1 0

-- node records whose parents have smaller numbers
pub record Linkable (nodes : List ℕ) : Type 0 where
  pub some : 1 ≤ length nodes / 4
  pub few : length nodes / 4 ≤ 64
  pub smaller : (v : ℕ) → 0 < v → v < length nodes / 4 → get_or nodes (v * 4 + 2) 0 < v

-- the node is linked before the first child of its parent
pub record Added (links : Links) (node up label : ℕ) (after : Links) : Type 0 where
  pub first : after.first ≡ set links.first up node
  pub next : after.next ≡ set links.next node (get_or links.first up 0)
  pub names : after.names ≡ set links.names node (name_of label)

-- x is the first node of the forest, all whose nodes have numbers of k or above
abbrev pub Linked : Links → ℕ → ℕ → Forest → Type 0
Linked links k x no_element = x ≡ 0
Linked links k x (element l c r) =
    (k ≤ x) × (0 < x) × (x < 64) × (get_or links.names x 0 ≡ name_of l) × Linked links (suc x) (get_or links.first x 0) c
    × Linked links (suc x) (get_or links.next x 0) r

-- v is the first node of a forest whose text has room
pub record Fits (links : Links) (v : ℕ) (text : List ℕ) (at : ℕ) : Type 0 where
  pub forest : Forest
  pub linked : Linked links 1 v forest
  pub room : at + length (forest_text forest) ≤ length text

abbrev pub ForestWritten : Links → ℕ → List ℕ → ℕ → ℕ → List ℕ → Type 0
ForestWritten links v before at end after = (w : Forest) → Linked links 1 v w → Put before at (forest_text w) end after
