-- The loop over x that joins: what each row that was passed holds, and which rows are as they were.
use mathlib.Core.Path.{◌≡◌, refl, sym, ◌∙◌, subst}
use mathlib.Core.Logic.{◌≢◌, ◌⊎◌, inl, inr, ⊎_elim}
use mathlib.Core.Bool.{Bool, false, ◌||◌, not, false≢true}
use mathlib.Core.List.{List}
use Prim.Native.Nat.{ℕ, ◌+◌, ◌<◌, ◌≤◌}
use native.Mathlib.Nat.{not-suc-le-zero, le_refl}
use native.Mathlib.Decide.{ℕ_discrete}
use native.Mathlib.Omega.{arith}
use lib.Dec.{eqb}
use lib.ListN.{set, length, length-set}
use lib.Bits.{bit_or, bit_and}
use borrow.Author.Tests.{not-false}
use Rattle.meaning.specs.Finite.{Yes}
use Rattle.meaning.proofs.Tests.{is_eq}
use Rattle.rowbits.specs.Bit.{bit}
use Rattle.tables.specs.Tables.{row}
use Rattle.tables.specs.Rows.{Up, Union}
use Rattle.tables.proofs.Bits.{or_case, or_l, or_r, in_both, both_in, up_or, up_self, up_trans}
use Rattle.tables.proofs.Tested.{or_yes, or_no, not_eq}
use Rattle.sharing.proofs.Passing.{same_row, other_row}
use Rattle.passes.specs.Rows.{Joins, by_leaf, by_child, by_root, JoinedOf}

-- the contract so far, and the rows that are as they were
module _ (t above : List ℕ) (leaf roots : ℕ) (children parents : List ℕ) where
  pub record Joining (x : ℕ) (a : List ℕ) (more : Bool) : Type 0 where
    pub long : length a ≡ 16
    pub rest : (k : ℕ) → x ≤ k → row a k ≡ row t k
    pub joined : JoinedOf x t above leaf roots children parents (record { more = more; below = a })

  pub joining_none : length t ≡ 16 → Joining 0 t false
  joining_none h = record {
    long = h;
    rest = λ k l. refl;
    joined = record { up = λ k. up_self _; from = λ k y u. inl u; to = λ k y l. absurd (not-suc-le-zero l); still = λ e k. refl; moved = λ e. absurd (false≢true e) };
  }

  pub joining_more : (x : ℕ) (a : List ℕ) (more : Bool) (v k : ℕ) → x < 16 → Joining x a more → Union parents (row children x) v → Union children (bit_and (row parents x) roots) k
      → let b = bit_or (bit_or (row a x) (bit_and (row above x) leaf)) (bit_or v k) in Joining (x + 1) (set a x b) (more || not (eqb (row a x) b))
  joining_more x a more v k h w u o = record {
    long = length-set a x b ∙ w.long;
    rest = λ k i. other_row a x b k (λ e. omega arith) ∙ w.rest k (omega arith);
    joined = record {
      up = at (λ k r. Up (row t k) r) up (λ k n. w.joined.up k);
      from = at (λ k r. (y : ℕ) → Yes (bit r y) → Yes (bit (row t k) y) ⊎ ((k < x + 1) × Joins above leaf roots children parents k y)) from
          (λ k n y i. ⊎_elim inl (λ q. inr (omega (arith, q.0), q.1)) (w.joined.from k y i));
      to = λ k y l. at (λ k r. k < x + 1 → Joins above leaf roots children parents k y → Yes (bit r y)) (λ l. to y) (λ k n l. w.joined.to k y (omega arith)) k l;
      still = λ e k. let q = or_no more (not (eqb (row a x) b)) e in
          at (λ k r. r ≡ row t k) (sym (is_eq (not-false _ q.1)) ∙ was) (λ k n. w.joined.still q.0 k) k;
      moved = λ e. ⊎_elim
          (λ m. let o = w.joined.moved m in (o.0, omega (arith, o.1), subst (λ (i : ℕ). row t o.0 < i) (sym (other_row a x b o.0 (λ i. omega (arith, o.1)))) o.2))
          (λ m. let n = not_eq (row a x) b m in let l = up.most in (x, omega arith, subst (λ (i : ℕ). row t x < i) (sym (same_row a x b h w.long)) (omega (arith, was))))
          (or_yes more (not (eqb (row a x) b)) e);
    };
  }
    where
      b : ℕ
      b = bit_or (bit_or (row a x) (bit_and (row above x) leaf)) (bit_or v k)

      was : row a x ≡ row t x
      was = w.rest x (le_refl _)

      -- what holds of the new row and of the old ones
      at : (P : ℕ → ℕ → Type 0) → P x b → ((k : ℕ) → k ≢ x → P k (row a k)) → (k : ℕ) → P k (row (set a x b) k)
      at P p q k = go (ℕ_discrete k x)
        where
          go : Dec (k ≡ x) → P k (row (set a x b) k)
          go (yes e) = subst (λ (j : ℕ). P j (row (set a x b) j)) (sym e) (subst (P x) (sym (same_row a x b h w.long)) p)
          go (no n) = subst (P k) (sym (other_row a x b k n)) (q k n)

      up : Up (row t x) b
      up = subst (λ (i : ℕ). Up i b) was (up_trans (up_or _ _) (up_or _ _))

      from : (y : ℕ) → Yes (bit b y) → Yes (bit (row t x) y) ⊎ ((x < x + 1) × Joins above leaf roots children parents x y)
      from y i = ⊎_elim
          (λ j. ⊎_elim (λ q. inl (subst (λ (i : ℕ). Yes (bit i y)) was q)) (λ q. let p = in_both (row above x) leaf y q in inr (omega arith, by_leaf p.0 p.1)) (or_case (row a x) (bit_and (row above x) leaf) y j))
          (λ j. inr (omega arith, others y (or_case v k y j))) (or_case (bit_or (row a x) (bit_and (row above x) leaf)) (bit_or v k) y i)
        where
          others : (y : ℕ) → Yes (bit v y) ⊎ Yes (bit k y) → Joins above leaf roots children parents x y
          others y (inl j) = let q = u.from y j in by_child q.0 q.1 q.2
          others y (inr j) = let q = o.from y j in let p = in_both (row parents x) roots q.0 q.1 in by_root q.0 p.0 p.1 q.2

      to : (y : ℕ) → Joins above leaf roots children parents x y → Yes (bit b y)
      to y (by_leaf p q) = or_l (bit_or (row a x) (bit_and (row above x) leaf)) (bit_or v k) y (or_r (row a x) (bit_and (row above x) leaf) y (both_in (row above x) leaf y p q))
      to y (by_child z p q) = or_r (bit_or (row a x) (bit_and (row above x) leaf)) (bit_or v k) y (or_l v k y (u.to z y p q))
      to y (by_root z p q r) = or_r (bit_or (row a x) (bit_and (row above x) leaf)) (bit_or v k) y (or_r v k y (o.to z y (both_in (row parents x) roots z p q) r))

  pub joining_all : {n x : ℕ} {a : List ℕ} {more : Bool} → x ≤ n → n ≤ x → Joining x a more → JoinedOf n t above leaf roots children parents (record { more = more; below = a })
  joining_all {a = a} {more = more} l m w = subst (λ (i : ℕ). JoinedOf i t above leaf roots children parents (record { more = more; below = a })) (omega arith) w.joined
