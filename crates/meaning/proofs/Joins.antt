-- Laws of joins: the first is one, and one of its two alternatives holds wherever the facts do.
use mathlib.Core.Path.{◌≡◌, refl, sym, ap, ◌∙◌, subst}
use mathlib.Core.Logic.{◌⊎◌, inl, inr, ⊎_elim}
use mathlib.Core.List.{List, [], ◌∷◌, ◌++◌}
use Prim.Native.Nat.{ℕ, zero, suc, ◌<◌}
use native.Mathlib.Decide.{dec_lt, ℕ_discrete}
use native.Mathlib.Omega.{arith}
use lib.ListN.{length, get_or}
use Rattle.meaning.specs.Tree.{Node, Assignment, Tree, IsTree, Parent, Above}
use Rattle.meaning.specs.Constraint.{Fact, below, differ}
use Rattle.meaning.specs.FixedSearch.{JoinKind, parent_join, chain_join, sibling_join, document_join, join_kinds, kind_number, Join, join, IsJoin, first_alternative, second_alternative, key, Earlier, here, later, FirstJoin}
use Rattle.meaning.proofs.Trees.{above_same, above_child, ancestors_chain, above_sibling, element_above}
use Rattle.meaning.proofs.Holds.{HoldsAll, holds_cons, settled_holds}

-- ---- the first join is one

earlier_total : (s t : List ℕ) → length s ≡ length t → (s ≡ t) ⊎ (Earlier s t ⊎ Earlier t s)
earlier_total [] [] e = inl refl
earlier_total [] (b ∷ t) e = absurd (omega arith)
earlier_total (a ∷ s) [] e = absurd (omega arith)
earlier_total (a ∷ s) (b ∷ t) e = go (dec_lt a b) (dec_lt b a) (earlier_total s t (omega arith))
  where
    go : Dec (a < b) → Dec (b < a) → (s ≡ t) ⊎ (Earlier s t ⊎ Earlier t s) → (a ∷ s ≡ b ∷ t) ⊎ (Earlier (a ∷ s) (b ∷ t) ⊎ Earlier (b ∷ t) (a ∷ s))
    go (yes l) _ w = inr (inl (here l))
    go (no l) (yes k) w = inr (inr (here k))
    go (no l) (no k) (inl q) = inl (let d : a ≡ b = omega arith in cc)
    go (no l) (no k) (inr (inl q)) = let d : a ≡ b = omega arith in inr (inl (later d q))
    go (no l) (no k) (inr (inr q)) = let d : b ≡ a = omega arith in inr (inr (later d q))

-- the kind with a number: each kind stands at its place in the list of kinds
abbrev pub kind_at : ℕ → JoinKind
kind_at i = get_or join_kinds i parent_join

pub kind_at_number : (k : JoinKind) → kind_at (kind_number k) ≡ k
kind_at_number parent_join = refl
kind_at_number chain_join = refl
kind_at_number sibling_join = refl
kind_at_number document_join = refl

pub kind_number_small : (k : JoinKind) → kind_number k < length join_kinds
kind_number_small parent_join = omega arith
kind_number_small chain_join = omega arith
kind_number_small sibling_join = omega arith
kind_number_small document_join = omega arith

pub number_kind_at : (i : ℕ) → i < length join_kinds → kind_number (kind_at i) ≡ i
number_kind_at zero l = refl
number_kind_at (suc zero) l = refl
number_kind_at (suc (suc zero)) l = refl
number_kind_at (suc (suc (suc zero))) l = refl
number_kind_at (suc (suc (suc (suc i)))) l = absurd (omega arith)

key_injective : (j k : Join) → key j ≡ key k → j ≡ k
key_injective (join k u v w) (join l x y z) e =
    let a : kind_number k ≡ kind_number l = cc in
    let b : k ≡ l = sym (kind_at_number k) ∙ ap kind_at a ∙ kind_at_number l in
    cc

key_length : (j : Join) → length (key j) ≡ 4
key_length (join k u v w) = refl

pub first_join_unique : {n : ℕ} {S : List Fact} (j k : Join) → FirstJoin n S j → FirstJoin n S k → j ≡ k
first_join_unique j k p q =
    ⊎_elim (key_injective j k) (λ w. absurd (⊎_elim (q.none_earlier j p.is_join) (p.none_earlier k q.is_join) w))
    (earlier_total (key j) (key k) (key_length j ∙ sym (key_length k)))

-- ---- one of the two alternatives holds

module _ (n : ℕ) (t : Tree) (i : IsTree t) (a : Assignment) (S : List Fact) (m : HoldsAll n t a S) where
  pub alternative_holds : (j : Join) → IsJoin n S j → HoldsAll n t a (first_alternative j ++ S) ⊎ HoldsAll n t a (second_alternative j ++ S)
  alternative_holds (join parent_join z x y) q =
      ⊎_elim
      (λ e. inr (holds_cons {f = below x z} (holds_cons {f = below z x} m (above_same t i (sym e))) (above_same t i e)))
      (λ u. inl (holds_cons {f = below x y} m u))
      (above_child t i (settled_holds n t i a S m q.parent) (settled_holds n t i a S m q.above))
  alternative_holds (join chain_join z x y) q =
      ⊎_elim
      (λ u. inl (holds_cons {f = below x y} m u))
      (λ u. apart u (ℕ_discrete (a x) (a y)))
      (ancestors_chain t i (settled_holds n t i a S m q.above_x) (settled_holds n t i a S m q.above_y))
    where
      -- on one node the first holds
      apart : Above t (a y) (a x) → Dec (a x ≡ a y) → HoldsAll n t a (below x y ∷ S) ⊎ HoldsAll n t a (below y x ∷ differ x y ∷ S)
      apart u (yes e) = inl (holds_cons {f = below x y} m (above_same t i e))
      apart u (no d) = inr (holds_cons {f = below y x} (holds_cons {f = differ x y} m d) u)
  alternative_holds (join sibling_join y b x) q =
      ⊎_elim
      (λ e. inr (holds_cons {f = below b y} (holds_cons {f = below y b} m (above_same t i (sym e))) (above_same t i e)))
      (λ u. inl (holds_cons {f = below b x} m u))
      (⊎_elim
      (λ s. let h = settled_holds n t i a S m s in above_sibling t i h.parent_v h.parent_u above)
      (λ s. let h = settled_holds n t i a S m s in above_sibling t i h.parent_u h.parent_v above)
      q.siblings)
    where
      above : Above t (a b) (a y)
      above = settled_holds n t i a S m q.above
  alternative_holds (join document_join r y w) q =
      let e : a r ≡ 0 = settled_holds n t i a S m q.document in
      let c : Parent t (a r) (a y) = settled_holds n t i a S m q.element in
      let f : a y ≡ 1 = i.one_child (a y) (subst (λ (u : Node). Parent t u (a y)) e c) in
      ⊎_elim
      (λ z. inr (holds_cons {f = below w r} (holds_cons {f = below r w} m (above_same t i (e ∙ sym z))) (above_same t i (z ∙ sym e))))
      (λ u. inl (holds_cons {f = below y w} m (subst (λ (v : Node). Above t v (a w)) (sym f) u)))
      (element_above t i (a w) (m.placed w q.variable))
