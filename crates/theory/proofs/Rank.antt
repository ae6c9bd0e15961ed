-- The rank of a number: how many smaller numbers have a property that can be decided. The ranks of those that have it leave no gap.
use mathlib.Core.Path.{◌≡◌, refl, ap}
use mathlib.Core.Logic.{⊎_elim}
use Prim.Native.Nat.{ℕ, zero, suc, ◌≤◌, ◌<◌}
use native.Mathlib.Nat.{le_refl, le_of_eq, le_step, not-suc-le-zero, eq-or-lt_of_le}
use native.Mathlib.Decide.{dec_lt}
use native.Mathlib.Omega.{arith}

-- one more if it holds
more : {A : Type 0} → Dec A → ℕ → ℕ
more (yes h) k = suc k
more (no h) k = k

more_least : {A : Type 0} (d : Dec A) (k : ℕ) → k ≤ more d k
unfolding more
more_least (yes h) k = le_step (le_refl _)
more_least (no h) k = le_refl _

more_holds : {A : Type 0} (d : Dec A) (k : ℕ) → A → more d k ≡ suc k
unfolding more
more_holds (yes h) k a = refl
more_holds (no h) k a = absurd (h a)

module _ (P : ℕ → Type 0) (dec : (k : ℕ) → Dec (P k)) where
  pub rank : ℕ → ℕ
  rank zero = 0
  rank (suc k) = more (dec k) (rank k)

  rank_le : (j m : ℕ) → j ≤ m → rank j ≤ rank m
  unfolding rank
  rank_le j zero l = let e : j ≡ 0 = omega arith in le_of_eq (ap rank e)
  rank_le j (suc m) l =
      ⊎_elim
      (λ e. le_of_eq (ap rank e))
      (λ h. let a : rank j ≤ rank m = rank_le j m (omega arith) in let b = more_least (dec m) (rank m) in omega arith)
      (eq-or-lt_of_le l)

  pub rank_smaller : (j m : ℕ) → P j → j < m → rank j < rank m
  unfolding rank
  rank_smaller j m p l = let a : rank (suc j) ≤ rank m = rank_le (suc j) m l in let b : rank (suc j) ≡ suc (rank j) = more_holds (dec j) (rank j) p in omega arith

  -- each number below the rank of m is the rank of a number that has the property
  pub rank_onto : (m i : ℕ) → i < rank m → (k : ℕ) × P k × (rank k ≡ i)
  unfolding rank more
  rank_onto zero i l = absurd (not-suc-le-zero l)
  rank_onto (suc m) i l = go (dec_lt i (rank m)) (dec m) l (rank_onto m i)
    where
      go : Dec (i < rank m) → (d : Dec (P m)) → i < more d (rank m) → (i < rank m → (k : ℕ) × P k × (rank k ≡ i)) → (k : ℕ) × P k × (rank k ≡ i)
      go (yes h) d l r = r h
      go (no h) (yes p) l r = (m, p, omega arith)
      go (no h) (no p) l r = absurd (h l)
