-- What a path selects in a tree: source 004, definition 2.3, for docs/FORMAT.md's trees and for the paper's own.
use Rattle.std.specs.Prelude.{◌≡◌, ◌<◌}
use mathlib.Core.List.{List, Memᴰ}
use Rattle.meaning.specs.Tree.{Node, Label, SameLabel, Tree, IsTree, Parent, Above, EarlierSibling}
use Rattle.meaning.specs.AnyTree.{Reaches, AnyTree, PrecedesSibling}
use Rattle.meaning.specs.Paths.{Axis, to_self, to_child, to_parent, to_descendant, to_ancestor, to_descendant_or_self, to_ancestor_or_self, to_following_sibling, to_preceding_sibling, Test, letter, any, Path, alone, from_root, from_here, Steps, one, more, Step, move, having}

-- the expressions of definition 2.2 that the paths need: ε ↑ ↓ ↑* ↓*, ← and → (long here, since → is a word of antt), the document root, a tag,
-- p₁/p₂ and p₁[p₂]
pub data Expr : Type 0 where
  ε ↑ ↓ ↑* ↓* ⟵ ⟶ document_root : Expr
  tag : Label → Expr
  over filter : Expr → Expr → Expr

-- definition 2.3: (n, n') is in the meaning of p; n and n' are nodes, as is every n''
abbrev pub Denotes : Tree → Expr → Node → Node → Type 0
-- (1) to (7)
Denotes t ε n n' = n ≡ n'
Denotes t ↑ n n' = Parent t n' n
Denotes t ↓ n n' = Parent t n n'
Denotes t ↑* n n' = Above t n' n
Denotes t ↓* n n' = Above t n n'
Denotes t ⟵ n n' = EarlierSibling t n' n
Denotes t ⟶ n n' = EarlierSibling t n n'
-- (8)
Denotes t document_root n n' = n' ≡ 0
-- (9), labels compared with capitals as small letters
Denotes t (tag l) n n' = (n ≡ n') × SameLabel (t.label n) l
-- (10) p₁/p₂
Denotes t (over p₁ p₂) n n' = (n'' : Node) × (n'' < t.size) × Denotes t p₁ n n'' × Denotes t p₂ n'' n'
-- (11) p₁[p₂]
Denotes t (filter p₁ p₂) n n' = Denotes t p₁ n n' × ((n'' : Node) × (n'' < t.size) × Denotes t p₂ n' n'')

-- ---- a path as an expression

-- "↑⁺ ≡ ↑/↑*, ↓⁺ ≡ ↓/↓*"
unfoldable pub axis_expr : Axis → Expr
axis_expr to_self = ε
axis_expr to_child = ↓
axis_expr to_parent = ↑
axis_expr to_descendant = over ↓ ↓*
axis_expr to_ancestor = over ↑ ↑*
axis_expr to_descendant_or_self = ↓*
axis_expr to_ancestor_or_self = ↑*
axis_expr to_following_sibling = ⟶
axis_expr to_preceding_sibling = ⟵

-- "child::a/ancestor::b can be represented in our syntax as ↓/a/↑⁺/b"
unfoldable pub test_expr : Test → Expr → Expr
test_expr (letter b l) e = over e (tag b)
test_expr any e = e

unfoldable mutual
  unfolding axis_expr test_expr

  pub path_expr : Path → Expr
  path_expr alone = document_root
  path_expr (from_root ss) = over document_root (steps_expr ss)
  path_expr (from_here ss) = steps_expr ss

  pub steps_expr : Steps → Expr
  steps_expr (one s) = step_expr s
  steps_expr (more s ss) = over (step_expr s) (steps_expr ss)

  pub step_expr : Step → Expr
  step_expr (move a t) = test_expr t (axis_expr a)
  step_expr (having s p) = filter (step_expr s) (path_expr p)

-- ---- selection

-- a line selects the node v: from some node, which one is all the same where it starts with `/`
pub record Selects (t : Tree) (p : Path) (v : Node) : Type 0 where
  pub start : Node
  pub inside : start < t.size
  pub leads : Denotes t (path_expr p) start v

-- "some tree has a node selected by every line"
pub record SomeTreeSelects (ps : List Path) : Type 0 where
  pub tree : Tree
  pub is_tree : IsTree tree
  pub node : Node
  pub inside : node < tree.size
  pub by_every : (p : Path) → Memᴰ p ps → Selects tree p node

-- ---- the same of a tree of the paper, whose nodes bear no numbers

abbrev pub DenotesAny : {N : Type 0} → AnyTree N → Expr → N → N → Type 0
DenotesAny T ε n n' = n ≡ n'
DenotesAny T ↑ n n' = T.IsParent n' n
DenotesAny T ↓ n n' = T.IsParent n n'
DenotesAny T ↑* n n' = Reaches T.IsParent n' n
DenotesAny T ↓* n n' = Reaches T.IsParent n n'
DenotesAny T ⟵ n n' = PrecedesSibling T n' n
DenotesAny T ⟶ n n' = PrecedesSibling T n n'
DenotesAny T document_root n n' = n' ≡ T.root
DenotesAny T (tag l) n n' = (n ≡ n') × SameLabel (T.label n) l
DenotesAny {N} T (over p₁ p₂) n n' = (n'' : N) × DenotesAny T p₁ n n'' × DenotesAny T p₂ n'' n'
DenotesAny {N} T (filter p₁ p₂) n n' = DenotesAny T p₁ n n' × ((n'' : N) × DenotesAny T p₂ n' n'')

pub record SomeAnyTreeSelects (ps : List Path) : Type 1 where
  pub Nodes : Type 0
  pub tree : AnyTree Nodes
  pub node : Nodes
  pub by_every : (p : Path) → Memᴰ p ps → (start : Nodes) × DenotesAny tree (path_expr p) start node
