-- What the rows named say of each other: whether one of them lacks one, what one row of them holds, and what two rows hold together.
use mathlib.Core.Path.{◌≡◌, refl, sym, ◌∙◌, subst}
use mathlib.Core.Logic.{◌≢◌, ⊎_elim}
use mathlib.Core.List.{List}
use Prim.Native.Nat.{ℕ, ◌^◌, ◌<◌}
use native.Mathlib.Omega.{arith}
use lib.Bits.{bit_or, bit_and, bit_xor, and_le_l, or_lt}
use Rattle.meaning.specs.Finite.{Yes}
use Rattle.meaning.proofs.Tests.{yes_case, clash}
use Rattle.rowbits.specs.Bit.{bit}
use Rattle.tables.specs.Tables.{row}
use Rattle.tables.specs.Rows.{without, Lowest, Union}
use Rattle.tables.proofs.Bits.{none_in, or_case, or_l, or_r, one_is, one_has, one_small, in_both, both_in, some_in, in_row, without_out}
use Rattle.tables.proofs.Members.{lowest_in}
use Rattle.siblings.proofs.Loops.{all_in}
use Rattle.merge.specs.Rows.{Chained, Alike, WithGap}

-- ---- whether one of them lacks one

-- one of the rows named is not in v
one_out : (rows v : ℕ) → rows < 65536 → without rows v ≢ 0 → (j : ℕ) × Yes (bit rows j) × (¬ Yes (bit v j))
unfolding without
one_out rows v small z =
    let s : bit_and rows (bit_xor v 65535) < 65536 = let l = and_le_l rows (bit_xor v 65535) in omega arith in
    let w = some_in _ s z in
    let o = without_out rows v w.0 (in_row _ w.0 s w.1) w.1 in
    (w.0, o.0, o.1)

has_gap : (t : List ℕ) (rows i j : ℕ) → Yes (bit rows i) → Yes (bit rows j) → ¬ Yes (bit (row t i) j) → WithGap t rows rows
has_gap t rows i j u v m = record {
  none = λ e. none_in i (subst (λ (k : ℕ). Yes (bit k i)) e u);
  some = λ _. (refl, record { at = i; lacks = j; at_in = u; lacks_in = v; missing = m });
}

pub none_apart : (t : List ℕ) (rows : ℕ) → rows ≡ 0 → WithGap t rows 0
none_apart t rows z = record { none = λ _ i j u v. none_in i (subst (λ (k : ℕ). Yes (bit k i)) z u); some = λ n. absurd (n refl) }

-- the lowest has all of them in its row and in its column, or not
module _ (t s : List ℕ) (rows x : ℕ) (small : rows < 65536) (some : rows ≢ 0) (low : Lowest rows x) (c : Chained t s) where
  x_in : Yes (bit rows x)
  x_in = low.this (lowest_in rows x small some low)

  turned : (i : ℕ) → Yes (bit rows i) → bit (row s x) i ≡ bit (row t i) x
  turned i u = c.columns i x (in_row rows i small u) (lowest_in rows x small some low)

  pub not_apart : without rows (bit_and (row t x) (row s x)) ≡ 0 → WithGap t rows 0
  not_apart z = record { none = λ _ i j u v. c.chain i x j (sym (turned i u) ∙ (both i u).1) (both j v).0; some = λ n. absurd (n refl) }
    where
      both : (i : ℕ) → Yes (bit rows i) → Yes (bit (row t x) i) × Yes (bit (row s x) i)
      both i u = in_both (row t x) (row s x) i (all_in rows _ small z i u)

  pub is_apart : without rows (bit_and (row t x) (row s x)) ≢ 0 → WithGap t rows rows
  is_apart z =
      let w = one_out rows _ small z in
      ⊎_elim (λ y. has_gap t rows w.0 x w.1 x_in (λ q. w.2 (both_in (row t x) (row s x) w.0 y (turned w.0 w.1 ∙ q))))
      (λ y. has_gap t rows x w.0 x_in w.1 (λ q. clash q y)) (yes_case (bit (row t x) w.0))

-- one row is the union of rows that hold the same
pub one_union : (t : List ℕ) (rows x : ℕ) → rows < 65536 → rows ≢ 0 → Lowest rows x → row t x < 65536 → Alike t rows → Union t rows (row t x)
one_union t rows x small some low s a =
    let h = low.this (lowest_in rows x small some low) in
    record { small = s; from = λ j u. (x, h, u); to = λ i j u v. a i x j u h v }

pub none_union : (t : List ℕ) (rows : ℕ) → rows ≡ 0 → Union t rows 0
none_union t rows z = record { small = omega arith; from = λ j u. none_in j u; to = λ i j u v. none_in i (subst (λ (k : ℕ). Yes (bit k i)) z u) }

-- ---- two rows

pub two_case : (Q : ℕ → Type 0) (a b : ℕ) → Q a → Q b → (i : ℕ) → Yes (bit (bit_or (2 ^ a) (2 ^ b)) i) → Q i
two_case Q a b p q i u =
    ⊎_elim (λ y. subst Q (sym (one_is a i y)) p) (λ y. subst Q (sym (one_is b i y)) q) (or_case (2 ^ a) (2 ^ b) i u)

module _ (t : List ℕ) (a b : ℕ) (ha : a < 16) (hb : b < 16) where
  abbrev two : ℕ
  two = bit_or (2 ^ a) (2 ^ b)

  a_in : Yes (bit two a)
  a_in = or_l (2 ^ a) (2 ^ b) a (one_has a)

  b_in : Yes (bit two b)
  b_in = or_r (2 ^ a) (2 ^ b) b (one_has b)

  pub is_union_two : row t a < 65536 → row t b < 65536 → Union t two (bit_or (row t a) (row t b))
  is_union_two sa sb = record {
    small = or_lt 16 (row t a) (row t b) sa sb;
    from = λ j u. ⊎_elim (λ y. (a, a_in, y)) (λ y. (b, b_in, y)) (or_case (row t a) (row t b) j u);
    to = λ i j u. two_case (λ k. Yes (bit (row t k) j) → Yes (bit (bit_or (row t a) (row t b)) j)) a b (or_l (row t a) (row t b) j) (or_r (row t a) (row t b) j) i u;
  }

  two_small : two < 65536
  two_small = or_lt 16 (2 ^ a) (2 ^ b) (one_small a ha) (one_small b hb)

  pub not_apart_two : without two (bit_and (row t a) (row t b)) ≡ 0 → WithGap t two 0
  not_apart_two z = record {
    none = λ _ i j u v. let h = in_both (row t a) (row t b) j (all_in two _ two_small z j v) in two_case (λ k. Yes (bit (row t k) j)) a b h.0 h.1 i u;
    some = λ n. absurd (n refl);
  }

  pub is_apart_two : without two (bit_and (row t a) (row t b)) ≢ 0 → WithGap t two two
  is_apart_two z =
      let w = one_out two _ two_small z in
      ⊎_elim (λ y. has_gap t two b w.0 b_in w.1 (λ q. w.2 (both_in (row t a) (row t b) w.0 y q))) (λ y. has_gap t two a w.0 a_in w.1 (λ q. clash q y))
      (yes_case (bit (row t a) w.0))
