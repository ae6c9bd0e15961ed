-- The first triple that passes a test, from the triples before it that do not.
use mathlib.Core.Path.{◌≡◌, refl, sym, subst}
use mathlib.Core.Logic.{⊎_elim}
use mathlib.Core.Bool.{Bool, true, false, false≢true}
use mathlib.Core.Option.{Option, none, some}
use Prim.Native.Nat.{ℕ, zero, suc, ◌<◌}
use native.Mathlib.Nat.{le_refl, le_step, not-suc-le-zero}
use Rattle.meaning.specs.Tree.{Var}
use Rattle.meaning.specs.Finite.{Yes}
use Rattle.meaning.specs.FixedSearch.{Join}
use Rattle.meaning.proofs.Finite.{split_lt}
use Rattle.theory.specs.Find.{first, when, or_else}
use Rattle.theory.specs.Search.{first_of}

module _ {A : Type 0} where
  first_is_none : (n : ℕ) (f : ℕ → Option A) → ((k : ℕ) → k < n → f k ≡ none) → first n f ≡ none
  unfolding first or_else
  first_is_none zero f h = refl
  first_is_none (suc n) f h = rw (first_is_none n f (λ k l. h k (le_step l))) (h n (le_refl _))

  first_is_some : (n : ℕ) (f : ℕ → Option A) (r : ℕ) (v : A) → r < n → ((k : ℕ) → k < r → f k ≡ none) → f r ≡ some v → first n f ≡ some v
  unfolding first or_else
  first_is_some zero f r v l h e = absurd (not-suc-le-zero l)
  first_is_some (suc n) f r v l h e =
      ⊎_elim
      (λ q. rw (first_is_none n f (λ k m. h k (subst (λ (j : ℕ). k < j) (sym q) m))) (subst (λ (j : ℕ). f j ≡ some v) q e))
      (λ m. rw (first_is_some n f r v m h e)) (split_lt l)

  when_is_none : (b : Bool) (a : A) → ¬ Yes b → when b a ≡ none
  unfolding when
  when_is_none true a h = absurd (h refl)
  when_is_none false a h = refl

  when_is_some : (b : Bool) (a : A) → Yes b → when b a ≡ some a
  unfolding when
  when_is_some true a h = refl
  when_is_some false a h = absurd (false≢true h)

module _ (n : ℕ) (p : Var → Var → Var → Bool) (j : Var → Var → Var → Join) where
  none_at_z_x : (z x : Var) → ((y : Var) → y < n → ¬ Yes (p z x y)) → first n (λ y. when (p z x y) (j z x y)) ≡ none
  none_at_z_x z x h = first_is_none n _ (λ y hy. when_is_none _ _ (h y hy))

  none_at_z : (z : Var) → ((x y : Var) → x < n → y < n → ¬ Yes (p z x y)) → first n (λ x. first n (λ y. when (p z x y) (j z x y))) ≡ none
  none_at_z z h = first_is_none n _ (λ x hx. none_at_z_x z x (λ y. h x y hx))

  pub first_of_is_none : ((z x y : Var) → z < n → x < n → y < n → ¬ Yes (p z x y)) → first_of n p j ≡ none
  unfolding first_of
  first_of_is_none h = first_is_none n _ (λ z hz. none_at_z z (λ x y. h z x y hz))

  pub first_of_is_some : (z x y : Var) → z < n → x < n → y < n → Yes (p z x y)
      → ((k i l : Var) → k < z → i < n → l < n → ¬ Yes (p k i l))
      → ((i l : Var) → i < x → l < n → ¬ Yes (p z i l))
      → ((l : Var) → l < y → ¬ Yes (p z x l))
      → first_of n p j ≡ some (j z x y)
  unfolding first_of
  first_of_is_some z x y hz hx hy t before-z before-x before-y =
      first_is_some n _ z _ hz (λ k l. none_at_z k (λ i m. before-z k i m l))
      (first_is_some n _ x _ hx (λ i l. none_at_z_x z i (λ m. before-x i m l))
      (first_is_some n _ y _ hy (λ l m. when_is_none _ _ (before-y l m)) (when_is_some _ _ t)))
