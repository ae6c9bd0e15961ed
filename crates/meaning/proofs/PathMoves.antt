-- One move, an axis and a test: its records are met exactly when its expression leads from the node of x to that of y. The axes differ from their
-- records only where "↓⁺ ≡ ↓/↓*": a proper descendant is at or below a child.
use mathlib.Core.Path.{refl, sym, ap, ◌∙◌, subst}
use mathlib.Core.Logic.{◌≢◌, ⊎_elim}
use mathlib.Core.List.Memᴰ
use mathlib.Core.List.{List, [], ◌∷◌, ◌++◌, Memᴰ}
use Prim.Native.Nat.{◌<◌}
use native.Mathlib.Nat.{lt_irrefl}
use native.Mathlib.Omega.{arith}
use Rattle.meaning.specs.Tree.{Var, Node, Label, folded, Assignment, Tree, IsTree, Parent, Above, self, up}
use Rattle.meaning.specs.Constraint.{Constraint, is_label, Meets}
use Rattle.meaning.specs.Paths.{Axis, to_self, to_child, to_parent, to_descendant, to_ancestor, to_descendant_or_self, to_ancestor_or_self, to_following_sibling, to_preceding_sibling, Test, letter, any}
use Rattle.meaning.specs.Selection.{Denotes, axis_expr, test_expr, tag}
use Rattle.meaning.specs.PathRecords.{axis_record, move_records}
use Rattle.meaning.proofs.Trees.{parent_smaller, above_le, above_trans}

module _ (t : Tree) (i : IsTree t) where
  -- a proper descendant of u is at or below a child of u, and has a parent at or below u; and such a node is a proper descendant
  child_between : {u v w : Node} → Parent t w v → Above t u w → (k : Node) × (k < t.size) × Parent t u k × Above t k v
  child_between {v = v} p self = (v, p.inside, p, self)
  child_between p (up q h) = let r = child_between q h in (r.0, r.1, r.2, up p r.3)

  has_child_above : {u v : Node} → Above t u v → u ≢ v → (k : Node) × (k < t.size) × Parent t u k × Above t k v
  has_child_above self n = absurd (n refl)
  has_child_above (up p h) n = child_between p h

  child_above_proper : {u v k : Node} → Parent t u k → Above t k v → Above t u v × (u ≢ v)
  child_above_proper {u} p h = (above_trans t i (up p self) h, λ e. let l = parent_smaller t i p in let m = above_le t i h in lt_irrefl u (omega arith))

  has_parent_below : {u v : Node} → Above t u v → u ≢ v → (k : Node) × (k < t.size) × Parent t k v × Above t u k
  has_parent_below self n = absurd (n refl)
  has_parent_below (up {w = w} p h) n = let l = parent_smaller t i p in let m = p.inside in (w, omega arith, p, h)

  parent_below_proper : {u v k : Node} → Parent t k v → Above t u k → Above t u v × (u ≢ v)
  parent_below_proper {u} p h = (up p h, λ e. let l = parent_smaller t i p in let m = above_le t i h in lt_irrefl u (omega arith))

  module _ (a : Assignment) where
    axis_meets : (k : Axis) (x y : Var) → Denotes t (axis_expr k) (a x) (a y) → Meets t a (axis_record k x y)
    unfolding axis_expr axis_record
    axis_meets to_self x y d = d
    axis_meets to_child x y d = d
    axis_meets to_parent x y d = d
    axis_meets to_descendant x y d = child_above_proper d.2 d.3
    axis_meets to_ancestor x y d = parent_below_proper d.2 d.3
    axis_meets to_descendant_or_self x y d = d
    axis_meets to_ancestor_or_self x y d = d
    axis_meets to_following_sibling x y d = d
    axis_meets to_preceding_sibling x y d = d

    axis_denotes : (k : Axis) (x y : Var) → Meets t a (axis_record k x y) → Denotes t (axis_expr k) (a x) (a y)
    unfolding axis_expr axis_record
    axis_denotes to_self x y m = m
    axis_denotes to_child x y m = m
    axis_denotes to_parent x y m = m
    axis_denotes to_descendant x y m = has_child_above m.0 m.1
    axis_denotes to_ancestor x y m = has_parent_below m.0 m.1
    axis_denotes to_descendant_or_self x y m = m
    axis_denotes to_ancestor_or_self x y m = m
    axis_denotes to_following_sibling x y m = m
    axis_denotes to_preceding_sibling x y m = m

    abbrev pub Met : List Constraint → Type 0
    Met cs = (c : Constraint) → Memᴰ c cs → Meets t a c

    pub met_nil : Met []
    met_nil c m = absurd (Memᴰ.not-nil m)

    pub met_cons : {c : Constraint} {cs : List Constraint} → Meets t a c → Met cs → Met (c ∷ cs)
    met_cons h k c m = ⊎_elim (λ e. subst (Meets t a) (sym e) h) (k c) (Memᴰ.cases_cons m)

    pub met_append : (cs ds : List Constraint) → Met cs → Met ds → Met (cs ++ ds)
    met_append cs ds h k c m = ⊎_elim (h c) (k c) (Memᴰ.append_cases cs m)

    label_denotes : (y : Var) (b : Label) → Meets t a (is_label y b) → Denotes t (tag b) (a y) (a y)
    label_denotes y b h = (refl, cc)

    pub move_meets : (k : Axis) (q : Test) (x y : Var) → Denotes t (test_expr q (axis_expr k)) (a x) (a y) → Met (move_records k q x y)
    unfolding test_expr move_records
    move_meets k (letter b l) x y d =
        let e = d.3.0 in
        met_cons (axis_meets k x y (subst (Denotes t (axis_expr k) (a x)) e d.2))
        (met_cons {c = is_label y b} (ap (λ (v : Node). folded (t.label v)) (sym e) ∙ d.3.1) met_nil)
    move_meets k any x y d = met_cons (axis_meets k x y d) met_nil

    pub move_denotes : (k : Axis) (q : Test) (x y : Var) → a y < t.size → Met (move_records k q x y) → Denotes t (test_expr q (axis_expr k)) (a x) (a y)
    unfolding test_expr move_records
    move_denotes k (letter b l) x y ins m =
        (a y, ins, axis_denotes k x y (m _ (Memᴰ.head refl)), label_denotes y b (m (is_label y b) (Memᴰ.tail (Memᴰ.head refl))))
    move_denotes k any x y ins m = axis_denotes k x y (m _ (Memᴰ.head refl))
