-- A tree as the paper has it (source 004, definition 2.1), its root a document node: the nodes are any finite set and bear no numbers. Of its document order ≺ only the order
-- of siblings is kept. When such a tree meets the constraints, and when a tree of docs/FORMAT.md is that tree with its nodes numbered.
use Rattle.std.specs.Prelude.{◌≡◌, ◌≢◌, ◌↔◌, ◌⊎◌, ◌≤◌, ◌<◌}
use mathlib.Core.List.{List, Memᴰ}
use Rattle.meaning.specs.Tree.{Var, Node, Label, SameLabel, Tree, Parent}
use Rattle.meaning.specs.Constraint.{Constraint, is_child, is_below, is_strictly_below, is_same, is_differ, is_root, is_leaf, is_label, is_before}

-- u ◁* v: the reflexive and transitive closure of a relation
pub data Reaches {N : Type 0} (R : N → N → Type 0) (u : N) : N → Type 0 where
  here : Reaches R u u
  down : {v w : N} → R w v → Reaches R u w → Reaches R u v

-- T = (N, ◁, r, λ, ≺)
pub record AnyTree (N : Type 0) : Type 1 where
  -- N is finite: every node has a place in a list (so two nodes can be told apart)
  pub nodes : List N
  pub listed : (v : N) → Memᴰ v nodes
  -- u ◁ v: u is the parent of v
  pub IsParent : N → N → Type 0
  -- ◁ defines a tree with root r: r has no parent, no node has two, and r ◁* every node
  pub root : N
  pub no_parent : (u : N) → ¬ IsParent u root
  pub one_parent : {u v w : N} → IsParent u w → IsParent v w → u ≡ v
  pub reached : (v : N) → Reaches IsParent root v
  -- λ, with numbers for the paper's infinite set Σ of tag names
  pub label : N → Label
  -- r is the document node: blank, with exactly one child
  pub root_blank : label root ≡ 0
  pub element : N
  pub has_element : IsParent root element
  pub one_element : {v : N} → IsParent root v → v ≡ element
  -- u ≺ v: the paper's is a strict total order of all nodes that walks the tree in pre-order. What is used of it is that it is strict, and total among
  -- the children of one node: so this is any order of siblings.
  pub Precedes : N → N → Type 0
  pub precedes_not : (v : N) → ¬ Precedes v v
  pub precedes_chain : {u v w : N} → Precedes u v → Precedes v w → Precedes u w
  pub precedes_total : {p u v : N} → IsParent p u → IsParent p v → u ≢ v → Precedes u v ⊎ Precedes v u

-- u and v have one parent, and u comes first
pub record PrecedesSibling {N : Type 0} (T : AnyTree N) (u v : N) : Type 0 where
  pub above : N
  pub parent_u : T.IsParent above u
  pub parent_v : T.IsParent above v
  pub first : T.Precedes u v

-- docs/FORMAT.md has the labels 0 to 255 only
abbrev pub ByteLabelled : {N : Type 0} → AnyTree N → Type 0
ByteLabelled {N} T = (v : N) → T.label v ≤ 255

-- the nine kinds, as in `Meets`
abbrev pub MeetsAny : {N : Type 0} → AnyTree N → (Var → N) → Constraint → Type 0
MeetsAny T a (is_child x y) = T.IsParent (a x) (a y)
MeetsAny T a (is_below x y) = Reaches T.IsParent (a x) (a y)
MeetsAny T a (is_strictly_below x y) = Reaches T.IsParent (a x) (a y) × (a x ≢ a y)
MeetsAny T a (is_same x y) = a x ≡ a y
MeetsAny T a (is_differ x y) = a x ≢ a y
MeetsAny {N} T a (is_root x) = (u : N) → ¬ T.IsParent u (a x)
MeetsAny {N} T a (is_leaf x) = (v : N) → ¬ T.IsParent (a x) v
MeetsAny T a (is_label x l) = SameLabel (T.label (a x)) l
MeetsAny T a (is_before x y) = PrecedesSibling T (a x) (a y)

-- every constraint is met; every variable is on a node, since N has nothing else
abbrev pub MeetsAllAny : {N : Type 0} → AnyTree N → (Var → N) → List Constraint → Type 0
MeetsAllAny T a cs = (c : Constraint) → Memᴰ c cs → MeetsAny T a c

-- no such tree, of any nodes, meets the constraints under any assignment
abbrev pub NoAnyTree : List Constraint → Type 1
NoAnyTree cs = (N : Type 0) (T : AnyTree N) (a : Var → N) → ¬ MeetsAllAny T a cs

-- t is T with its nodes numbered 0 .. size - 1, one to one, siblings in their order
pub record Numbering {N : Type 0} (T : AnyTree N) (t : Tree) : Type 0 where
  pub number : N → Node
  pub inside : (v : N) → number v < t.size
  pub one_to_one : (u v : N) → number u ≡ number v → u ≡ v
  pub onto : (i : Node) → i < t.size → (v : N) × (number v ≡ i)
  pub same_parents : (u v : N) → T.IsParent u v ↔ Parent t (number u) (number v)
  pub same_labels : (v : N) → t.label (number v) ≡ T.label v
  pub same_order : {p u v : N} → T.IsParent p u → T.IsParent p v → T.Precedes u v ↔ (number u < number v)
