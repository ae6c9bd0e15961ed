-- Every numbered tree is exactly one ordered tree, the computed one, with one element for each node but the document node. A child's own children have
-- larger numbers than it has, so both go on from the next number, and recursion is on how many numbers are left.
use mathlib.Core.Path.{◌≡◌, refl, sym, ap, ◌∙◌, subst}
use mathlib.Core.Logic.{⊎_elim, ◌≢◌}
use Prim.Native.Nat.{ℕ, zero, suc, ◌+◌, ◌-◌, ◌≤◌, ◌<◌, zero-le}
use native.Mathlib.Nat.{not-suc-le-zero, le_refl}
use native.Mathlib.Omega.{arith}
use lib.Dec.{eqb, ltb}
use Rattle.meaning.specs.Finite.{Yes, ◌and◌, neg, sum}
use Rattle.meaning.specs.Tree.{Node, Tree, Parent}
use Rattle.meaning.specs.Xml.{Forest, Element, alone, count, NextChild, Children, IsOrdered}
use Rattle.meaning.proofs.Tests.{clash, yes_case, pick_yes, pick_no, is_eq, eq_yes, self_eq, is_lt, lt_yes, and_left, and_right, and_both}
use Rattle.meaning.proofs.Finite.{split_lt}
use Rattle.meaning.proofs.XmlTrees.{forest_unique, ordered_unique, lower}
use Rattle.theory.specs.Xml.{forest_from, element_of}

-- what is used of a tree
pub record Shape (t : Tree) : Type 0 where
  pub two_nodes : 1 < t.size
  pub one_child : (v : Node) → Parent t 0 v → v ≡ 1
  pub smaller : (v : Node) → 0 < v → v < t.size → t.parent v < v

module _ (t : Tree) (h : Shape t) where
  above : (u v : Node) → Parent t u v → u < v
  above u v p = let a = h.smaller v p.not_first p.inside in let b = p.is in omega arith

  pub from_all : (w : Forest) (u : Node) → Children t u (suc u) w → Children t u 0 w
  from_all w u a = lower t w u 0 (suc u) zero-le (λ v k l p. let q = above u v p in omega arith) a

  next_one : (i : ℕ) (u : Node) → i < t.size → Yes (ltb 0 i and eqb (t.parent i) u) → NextChild t u i i
  next_one i u l y = record {
    from = le_refl _;
    is_child = record { not_first = is_lt (and_left _ y); inside = l; is = is_eq (and_right _ y) };
    none_between = λ w a b p. omega arith;
  }

  pub forest_is : (k i : ℕ) (u : Node) → i + k ≡ t.size → Children t u i (forest_from t k i u)
  unfolding forest_from
  forest_is zero i u e = λ v l p. let a = p.inside in omega arith
  forest_is (suc k) i u e =
      let c = forest_is k (suc i) i (omega arith) in
      let r = forest_is k (suc i) u (omega arith) in
      ⊎_elim
      (λ y. subst (Children t u i) (sym (pick_yes _ _ y)) (i, next_one i u (omega arith) y, refl, from_all (forest_from t k (suc i) i) i c, r))
      (λ z. subst (Children t u i) (sym (pick_no _ _ (λ y. clash y z)))
      (lower t (forest_from t k (suc i) u) u i (suc i) (omega arith) (λ v a b p. not_here z v a b p) r))
      (yes_case (ltb 0 i and eqb (t.parent i) u))
    where
      not_here : Yes (neg (ltb 0 i and eqb (t.parent i) u)) → (v : Node) → i ≤ v → v < suc i → ¬ Parent t u v
      not_here z v a b p =
          let d : v ≡ i = omega arith in
          let q : Parent t u i = subst (Parent t u) d p in
          clash (and_both (lt_yes q.not_first) (eq_yes q.is)) z

  pub ordered_is : IsOrdered t (element_of t)
  unfolding element_of
  ordered_is =
      let two = h.two_nodes in
      let p : t.parent 1 < 1 = h.smaller 1 (omega arith) two in (
        1,
        record {
          from = zero-le;
          is_child = record { not_first = omega arith; inside = two; is = omega arith };
          none_between = λ w a b q. let z = q.not_first in omega arith;
        },
        refl,
        from_all (forest_from t (t.size - 2) 2 1) 1 (forest_is (t.size - 2) 2 1 (omega arith)),
        λ v l q. let e = h.one_child v q in omega arith,
      )

  -- every tree is exactly one ordered tree
  pub ordered_only : (e : Element) → IsOrdered t e → e ≡ element_of t
  ordered_only e a = ordered_unique t e (element_of t) a ordered_is

-- ---- one element for each node but the document node

sum_zero : (i : ℕ) (f : ℕ → ℕ) → ((u : ℕ) → f u ≡ 0) → sum i f ≡ 0
unfolding sum
sum_zero zero f z = refl
sum_zero (suc i) f z = let a = sum_zero i f z in let b = z i in omega arith

sum_same : (i : ℕ) (f g : ℕ → ℕ) → ((u : ℕ) → u < i → g u ≡ f u) → sum i g ≡ sum i f
unfolding sum
sum_same zero f g e = refl
sum_same (suc i) f g e = let a = sum_same i f g (λ u l. e u (omega arith)) in let b = e i (le_refl _) in omega arith

-- one of the numbers summed is larger
sum_more : (i p x : ℕ) (f g : ℕ → ℕ) → p < i → ((u : ℕ) → u < i → u ≢ p → g u ≡ f u) → g p ≡ f p + x → sum i g ≡ sum i f + x
unfolding sum
sum_more zero p x f g l e d = absurd (not-suc-le-zero l)
sum_more (suc i) p x f g l e d = ⊎_elim last (λ q. earlier q (sum_more i p x f g q (λ u m n. e u (omega arith) n) d)) (split_lt l)
  where
    last : p ≡ i → sum i g + g i ≡ sum i f + f i + x
    last q =
        let a = sum_same i f g (λ u m. e u (omega arith) (λ z. omega arith)) in
        let b : g i ≡ f i + x = subst (λ (k : ℕ). g k ≡ f k + x) q d in
        omega arith

    earlier : p < i → sum i g ≡ sum i f + x → sum i g + g i ≡ sum i f + f i + x
    earlier q a =
        let b = e i (le_refl _) (λ z. omega arith) in
        omega arith

module _ (t : Tree) (h : Shape t) where
  -- the k numbers from i on stand below those before i, each below one
  counted : (k i : ℕ) → i + k ≡ t.size → 0 < i → sum i (λ u. count (forest_from t k i u)) ≡ k
  unfolding forest_from
  counted zero i e l = sum_zero i _ (λ u. unfold count in refl)
  counted (suc k) i e l =
      let p = t.parent i in
      let b : p < i = h.smaller i l (omega arith) in
      let f : ℕ → ℕ = λ u. count (forest_from t k (suc i) u) in
      let a = counted k (suc i) (omega arith) (omega arith) in
      let s : sum (suc i) f ≡ sum i f + f i = unfold sum in refl in
      let m =
      sum_more i p (suc (f i)) f (λ u. count (forest_from t (suc k) i u)) b
      (λ u d n. ap count (pick_no _ _ (λ y. n (sym (is_eq (and_right _ y))))))
      (ap count (pick_yes _ _ (and_both (lt_yes l) (self_eq p))) ∙ (unfold count in omega arith)) in
      omega arith

  -- what stands next under the document node is the outermost element alone
  pub outermost_forest : (e : Element) → IsOrdered t e → alone e ≡ forest_from t (t.size - 1) 1 0
  outermost_forest e a =
      let k = t.size - 1 in
      let two = h.two_nodes in
      let w = forest_from t k 1 0 in
      forest_unique t (alone e) w 0 0 a (from_all t h w 0 (forest_is t h k 1 0 (omega arith)))

  pub ordered_count : (e : Element) → IsOrdered t e → suc (count (alone e)) ≡ t.size
  ordered_count e a =
      let k = t.size - 1 in
      let two = h.two_nodes in
      let w = forest_from t k 1 0 in
      let d : alone e ≡ w = outermost_forest e a in
      let c = counted k 1 (omega arith) (omega arith) in
      let s : sum 1 (λ u. count (forest_from t k 1 u)) ≡ 0 + count w = unfold sum in refl in
      let b = ap count d in
      omega arith
