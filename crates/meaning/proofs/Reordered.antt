-- Laws of lists in another order: the same length and members, and what a mapped list is reordered to. Lists of records are reordered exactly when
-- every record occurs as often in both.
use mathlib.Core.Path.{◌≡◌, refl, sym, ap, ◌∙◌, subst}
use mathlib.Core.Logic.{◌↔◌, ⊎_elim}
use mathlib.Core.Bool.{Bool, true, false, false≢true}
use mathlib.Core.List.Memᴰ
use mathlib.Core.List.{List, [], ◌∷◌, map, Memᴰ}
use Prim.Native.Nat.{ℕ, suc, ◌+◌, ◌<◌}
use native.Mathlib.Omega.{arith}
use lib.ListN.{length}
use lib.Dec.{eqb}
use Rattle.meaning.specs.Finite.{Yes, ◌and◌, neg, one}
use Rattle.meaning.specs.Files.{Quad}
use Rattle.meaning.specs.Shuffled.{Reordered, nothing, first_kept, exchanged, in_turn}
use Rattle.meaning.proofs.Tests.{yes_case, and_left, and_right, and_both, is_eq, self_eq}
use Rattle.meaning.proofs.Records.{quad_eq}

module _ {A : Type 0} where
  reordered_self : (xs : List A) → Reordered xs xs
  reordered_self [] = nothing
  reordered_self (x ∷ xs) = first_kept (reordered_self xs)

  pub reordered_back : {xs ys : List A} → Reordered xs ys → Reordered ys xs
  reordered_back nothing = nothing
  reordered_back (first_kept p) = first_kept (reordered_back p)
  reordered_back exchanged = exchanged
  reordered_back (in_turn p q) = in_turn (reordered_back q) (reordered_back p)

  pub reordered_length : {xs ys : List A} → Reordered xs ys → length xs ≡ length ys
  reordered_length nothing = refl
  reordered_length (first_kept p) = ap suc (reordered_length p)
  reordered_length exchanged = refl
  reordered_length (in_turn p q) = reordered_length p ∙ reordered_length q

  pub reordered_in : {xs ys : List A} {z : A} → Reordered xs ys → Memᴰ z xs → Memᴰ z ys
  reordered_in nothing m = m
  reordered_in (first_kept p) m = ⊎_elim (λ e. Memᴰ.head e) (λ k. Memᴰ.tail (reordered_in p k)) (Memᴰ.cases_cons m)
  reordered_in exchanged m =
      ⊎_elim (λ e. Memᴰ.tail (Memᴰ.head e))
      (λ k. ⊎_elim (λ e. Memᴰ.head e) (λ l. Memᴰ.tail (Memᴰ.tail l)) (Memᴰ.cases_cons k)) (Memᴰ.cases_cons m)
  reordered_in (in_turn p q) m = reordered_in q (reordered_in p m)

-- ---- a mapped list

pub record Remapped {A B : Type 0} (f : A → B) (xs : List A) (ys : List B) : Type 0 where
  pub list : List A
  pub is_map : ys ≡ map f list
  pub reordered : Reordered xs list

-- it is reordered only to lists that are mapped from a reordered one
pub reordered_map : {A B : Type 0} (f : A → B) {ws ys : List B} → Reordered ws ys → (xs : List A) → ws ≡ map f xs → Remapped f xs ys
reordered_map f nothing [] e = record { list = []; is_map = refl; reordered = nothing }
reordered_map f nothing (x ∷ xs) e = let z : ◌≡◌ {A = ℕ} 0 1 = cc in absurd (omega arith)
reordered_map f (first_kept p) [] e = let z : ◌≡◌ {A = ℕ} 0 1 = cc in absurd (omega arith)
reordered_map f (first_kept {x = w} {xs = ws} {ys = ys} p) (x ∷ xs) e =
    let h : w ≡ f x = cc in
    let r = reordered_map f p xs (cc) in
    let t = r.is_map in
    record { list = x ∷ r.list; is_map = cc; reordered = first_kept r.reordered }
reordered_map f exchanged [] e = let z : ◌≡◌ {A = ℕ} 0 1 = cc in absurd (omega arith)
reordered_map f exchanged (x ∷ []) e = let z : ◌≡◌ {A = ℕ} 0 1 = cc in absurd (omega arith)
reordered_map f (exchanged {x = v} {y = w} {xs = ws}) (x ∷ y ∷ xs) e = record { list = y ∷ x ∷ xs; is_map = cc; reordered = exchanged }
reordered_map f (in_turn p q) xs e =
    let r = reordered_map f p xs e in
    let s = reordered_map f q r.list r.is_map in
    record { list = s.list; is_map = s.is_map; reordered = in_turn r.reordered s.reordered }

-- ---- how often a record occurs

same_quad : Quad → Quad → Bool
same_quad q r = eqb q.first r.first and eqb q.second r.second and eqb q.third r.third and eqb q.fourth r.fourth

same_self : (q : Quad) → Yes (same_quad q q)
unfolding same_quad
same_self q = and_both (self_eq q.first) (and_both (self_eq q.second) (and_both (self_eq q.third) (self_eq q.fourth)))

same_is : (q r : Quad) → Yes (same_quad q r) → q ≡ r
unfolding same_quad
same_is q r t =
    let a : q.first ≡ r.first = is_eq (and_left _ t) in
    let u = and_right (eqb q.first r.first) t in
    let b : q.second ≡ r.second = is_eq (and_left _ u) in
    let v = and_right (eqb q.second r.second) u in
    let c : q.third ≡ r.third = is_eq (and_left _ v) in
    quad_eq a b c (is_eq (and_right (eqb q.third r.third) v))

unfoldable pub occurs : Quad → List Quad → ℕ
unfolding same_quad
occurs q [] = 0
occurs q (r ∷ rs) = one (same_quad q r) + occurs q rs

one_yes : (b : Bool) → Yes b → one b ≡ 1
unfolding one
one_yes b t = ap one t

one_no : (b : Bool) → Yes (neg b) → one b ≡ 0
unfolding one neg
one_no true t = absurd (false≢true t)
one_no false t = refl

reordered_occurs : {xs ys : List Quad} → Reordered xs ys → (q : Quad) → occurs q xs ≡ occurs q ys
unfolding occurs
reordered_occurs nothing q = refl
reordered_occurs (first_kept p) q = let e = reordered_occurs p q in omega arith
reordered_occurs exchanged q = omega arith
reordered_occurs (in_turn p r) q = reordered_occurs p q ∙ reordered_occurs r q

-- a record that occurs is taken out to the front
taken_out : (x : Quad) (ys : List Quad) → 0 < occurs x ys → (zs : List Quad) × Reordered (x ∷ zs) ys
unfolding occurs
taken_out x [] l = absurd (omega arith)
taken_out x (y ∷ ys) l =
    ⊎_elim (λ t. (ys, subst (λ (z : Quad). Reordered (x ∷ ys) (z ∷ ys)) (same_is x y t) (reordered_self (x ∷ ys))))
    (λ f. let e = one_no (same_quad x y) f in let w = taken_out x ys (omega arith) in (y ∷ w.0, in_turn exchanged (first_kept w.1))) (yes_case (same_quad x y))

occurs_none : (ys : List Quad) → ((q : Quad) → occurs q ys ≡ 0) → Reordered [] ys
unfolding occurs
occurs_none [] h = nothing
occurs_none (y ∷ ys) h = let e = h y in let f = one_yes (same_quad y y) (same_self y) in absurd (omega arith)

occurs_reordered : (xs ys : List Quad) → ((q : Quad) → occurs q xs ≡ occurs q ys) → Reordered xs ys
unfolding occurs
occurs_reordered [] ys h = occurs_none ys (λ q. sym (h q))
occurs_reordered (x ∷ xs) ys h =
    let e = h x in
    let f = one_yes (same_quad x x) (same_self x) in
    let w = taken_out x ys (omega arith) in
    let i = occurs_reordered xs w.0 (λ q. let a = h q in let b = reordered_occurs w.1 q in omega arith) in
    in_turn (first_kept i) w.1

pub reordered_iff : (xs ys : List Quad) → Reordered xs ys ↔ ((q : Quad) → occurs q xs ≡ occurs q ys)
reordered_iff xs ys = (λ p q. reordered_occurs p q, occurs_reordered xs ys)
