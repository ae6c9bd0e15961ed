-- The theorem of PathMeaning for the trees of the paper. What a path selects does not depend on how the nodes are numbered; and a label that is no
-- byte may be made blank, since tests name letters only.
use mathlib.Core.Path.{◌≡◌, refl, sym, ap, ◌∙◌, subst}
use mathlib.Core.Logic.{◌↔◌}
use mathlib.Core.List.{List}
use Prim.Native.Nat.{◌≤◌}
use native.Mathlib.Omega.{arith}
use Rattle.meaning.specs.Tree.{Node, folded, Tree, IsTree}
use Rattle.meaning.specs.Constraint.{CanBeMet, vars}
use Rattle.meaning.specs.AnyTree.{AnyTree, Numbering}
use Rattle.meaning.specs.Paths.{Axis, to_self, to_child, to_parent, to_descendant, to_ancestor, to_descendant_or_self, to_ancestor_or_self, to_following_sibling, to_preceding_sibling, Test, letter, any, Path, alone, from_root, from_here, Steps, one, more, Step, move, having}
use Rattle.meaning.specs.Selection.{Expr, ε, ↑, ↓, ↑*, ↓*, ⟵, ⟶, document_root, tag, over, filter, Denotes, DenotesAny, axis_expr, test_expr, path_expr, steps_expr, step_expr, SomeTreeSelects, SomeAnyTreeSelects}
use Rattle.meaning.specs.PathRecords.{records_of}
use Rattle.meaning.proofs.Trees.{no_parent}
use Rattle.theory.proofs.Numbering.{numbered}
use Rattle.theory.proofs.AnyTree.{number_reaches, number_sibling, parent_numbered, above_numbered, sibling_numbered, byte_same, with_bytes, with_bytes_small, NodeOf, any_tree, any_tree_numbering}
use Rattle.meaning.proofs.PathSheets.{letter_range}
use Rattle.meaning.proofs.PathMeaning.{met_if_selected, selected_if_met}

module _ {N : Type 0} (T : AnyTree N) (t : Tree) (i : IsTree t) (s : Numbering T t) where
  root_first : s.number T.root ≡ 0
  root_first = no_parent t i (s.inside T.root) (λ k p. let w = parent_numbered T t i s p in T.no_parent w.0 w.1)

  first_root : (v : N) → s.number v ≡ 0 → v ≡ T.root
  first_root v e = s.one_to_one v T.root (e ∙ sym root_first)

  denotes_number : (e : Expr) (u v : N) → DenotesAny T e u v → Denotes t e (s.number u) (s.number v)
  denotes_number ε u v d = ap s.number d
  denotes_number ↑ u v d = (s.same_parents v u).0 d
  denotes_number ↓ u v d = (s.same_parents u v).0 d
  denotes_number ↑* u v d = number_reaches T t s d
  denotes_number ↓* u v d = number_reaches T t s d
  denotes_number ⟵ u v d = number_sibling T t s d
  denotes_number ⟶ u v d = number_sibling T t s d
  denotes_number document_root u v d = ap s.number d ∙ root_first
  denotes_number (tag l) u v d = (ap s.number d.0, ap folded (s.same_labels u) ∙ d.1)
  denotes_number (over p q) u v d = (s.number d.0, s.inside d.0, denotes_number p u d.0 d.1, denotes_number q d.0 v d.2)
  denotes_number (filter p q) u v d = (denotes_number p u v d.0, (s.number d.1.0, s.inside d.1.0, denotes_number q v d.1.0 d.1.1))

  number_denotes : (e : Expr) (u v : N) → Denotes t e (s.number u) (s.number v) → DenotesAny T e u v
  number_denotes ε u v d = s.one_to_one u v d
  number_denotes ↑ u v d = (s.same_parents v u).1 d
  number_denotes ↓ u v d = (s.same_parents u v).1 d
  number_denotes ↑* u v d = above_numbered T t i s d u refl v refl
  number_denotes ↓* u v d = above_numbered T t i s d v refl u refl
  number_denotes ⟵ u v d = sibling_numbered T t i s d
  number_denotes ⟶ u v d = sibling_numbered T t i s d
  number_denotes document_root u v d = first_root v d
  number_denotes (tag l) u v d = (s.one_to_one u v d.0, sym (ap folded (s.same_labels u)) ∙ d.1)
  number_denotes (over p q) u v d =
      let w = s.onto d.0 d.1 in (
        w.0,
        number_denotes p u w.0 (subst (Denotes t p (s.number u)) (sym w.1) d.2),
        number_denotes q w.0 v (subst (λ (k : Node). Denotes t q k (s.number v)) (sym w.1) d.3),
      )
  number_denotes (filter p q) u v d =
      let w = s.onto d.1.0 d.1.1 in
      (number_denotes p u v d.0, (w.0, number_denotes q v w.0 (subst (Denotes t q (s.number v)) (sym w.1) d.1.2)))

-- ---- labels that are no bytes: paths name letters only, so blank does as well

-- every tag is a byte
abbrev ByteTags : Expr → Type 0
ByteTags ε = Unit {0}
ByteTags ↑ = Unit {0}
ByteTags ↓ = Unit {0}
ByteTags ↑* = Unit {0}
ByteTags ↓* = Unit {0}
ByteTags ⟵ = Unit {0}
ByteTags ⟶ = Unit {0}
ByteTags document_root = Unit {0}
ByteTags (tag l) = l ≤ 255
ByteTags (over p q) = ByteTags p × ByteTags q
ByteTags (filter p q) = ByteTags p × ByteTags q

axis_tags : (k : Axis) → ByteTags (axis_expr k)
unfolding axis_expr
axis_tags to_self = tt
axis_tags to_child = tt
axis_tags to_parent = tt
axis_tags to_descendant = (tt, tt)
axis_tags to_ancestor = (tt, tt)
axis_tags to_descendant_or_self = tt
axis_tags to_ancestor_or_self = tt
axis_tags to_following_sibling = tt
axis_tags to_preceding_sibling = tt

test_tags : (q : Test) (e : Expr) → ByteTags e → ByteTags (test_expr q e)
unfolding test_expr
test_tags (letter b l) e h = let small : b ≤ 122 = (letter_range b l).1 in (h, omega arith)
test_tags any e h = h

mutual
  unfolding path_expr

  path_tags : (p : Path) → ByteTags (path_expr p)
  path_tags alone = tt
  path_tags (from_root ss) = (tt, steps_tags ss)
  path_tags (from_here ss) = steps_tags ss

  steps_tags : (ss : Steps) → ByteTags (steps_expr ss)
  steps_tags (one s) = step_tags s
  steps_tags (more s ss) = (step_tags s, steps_tags ss)

  step_tags : (s : Step) → ByteTags (step_expr s)
  step_tags (move k q) = test_tags q (axis_expr k) (axis_tags k)
  step_tags (having s p) = (step_tags s, path_tags p)

denotes_bytes : {N : Type 0} (T : AnyTree N) (e : Expr) → ByteTags e → (u v : N) → DenotesAny T e u v → DenotesAny (with_bytes T) e u v
denotes_bytes T ε b u v d = d
denotes_bytes T ↑ b u v d = d
denotes_bytes T ↓ b u v d = d
denotes_bytes T ↑* b u v d = d
denotes_bytes T ↓* b u v d = d
denotes_bytes T ⟵ b u v d = record { above = d.above; parent_u = d.parent_u; parent_v = d.parent_v; first = d.first }
denotes_bytes T ⟶ b u v d = record { above = d.above; parent_u = d.parent_u; parent_v = d.parent_v; first = d.first }
denotes_bytes T document_root b u v d = d
denotes_bytes T (tag l) b u v d = (d.0, byte_same (T.label u) b d.1)
denotes_bytes T (over p q) b u v d = (d.0, denotes_bytes T p b.0 u d.0 d.1, denotes_bytes T q b.1 d.0 v d.2)
denotes_bytes T (filter p q) b u v d = (denotes_bytes T p b.0 u v d.0, (d.1.0, denotes_bytes T q b.1 v d.1.0 d.1.1))

-- ---- the theorem

any_selected : (ps : List Path) → SomeTreeSelects ps → SomeAnyTreeSelects ps
unfolding any_tree_numbering
any_selected ps h =
    let t = h.tree in
    let i = h.is_tree in
    record {
      Nodes = NodeOf t;
      tree = any_tree t i;
      node = (h.node, h.inside);
      by_every = λ p m. let q = h.by_every p m in
          let start : NodeOf t = (q.start, q.inside) in
          (start, number_denotes (any_tree t i) t i (any_tree_numbering t i) (path_expr p) start (h.node, h.inside) q.leads);
    }

some_selected : (ps : List Path) → SomeAnyTreeSelects ps → SomeTreeSelects ps
some_selected ps h =
    let T = with_bytes h.tree in
    let w = numbered T (with_bytes_small h.tree) in
    let s = w.2 in
    record {
      tree = w.0;
      is_tree = w.1;
      node = s.number h.node;
      inside = s.inside h.node;
      by_every = λ p m. let q = h.by_every p m in
          let d = denotes_bytes h.tree (path_expr p) (path_tags p) q.0 h.node q.1 in
          record { start = s.number q.0; inside = s.inside q.0; leads = denotes_number T w.0 w.1 s (path_expr p) q.0 h.node d };
    }

-- "some tree has a node selected by every line": one of docs/FORMAT.md or one of source 004, it is the same
pub selected_iff_any_selected : (ps : List Path) → SomeTreeSelects ps ↔ SomeAnyTreeSelects ps
selected_iff_any_selected ps = (any_selected ps, some_selected ps)

-- "The records written can be met if and only if some tree has a node selected by every line", of the trees of source 004
pub met_iff_any_selected : (ps : List Path) → CanBeMet (vars (records_of ps)) (records_of ps) ↔ SomeAnyTreeSelects ps
met_iff_any_selected ps = (λ m. any_selected ps (selected_if_met ps m), λ h. met_if_selected ps (some_selected ps h))
