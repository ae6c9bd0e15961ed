-- The bits of a row: of a union, of a meet, of one number, of the row with one number more, and bounds.
use mathlib.Core.Path.{◌≡◌, refl, sym, ap, ◌∙◌}
use mathlib.Core.Logic.{◌⊎◌, inl, inr, ⊎_elim}
use mathlib.Core.Bool.{Bool, true, false, ◌||◌, ◌&&◌}
use Prim.Native.Nat.{ℕ, zero, suc, ◌+◌, ◌-◌, ◌*◌, ◌/◌, ◌%◌, ◌^◌, ◌<◌, ◌≤◌, min, max}
use native.Mathlib.Nat.{mod-lt, zero-lt-suc, div-eq_of_lt, pow-suc, div_self, mul-add-mod_self_right, eq-or-lt_of_le, one-mul, mod-eq_of_lt}
use native.Mathlib.Omega.{arith}
use lib.Dec.{eqb, ltb}
use lib.Bits.{bit_or, bit_and, or_shr, and_shr, or_step, and_step, or_lt}
use lib.Pow.{pow_pos, pow-lt, pow-add, shl-shr}
use borrow.Author.Tests.{eq-eqb, ne_eqb, ltb-true, ltb-false}
use Rattle.rowbits.specs.Bit.{bit, with_bit}

-- a digit below 2 is 0 or 1
digit : (n : ℕ) → n < 2 → (n ≡ 0) ⊎ (n ≡ 1)
digit zero h = inl refl
digit (suc zero) h = inr refl
digit (suc (suc n)) h = absurd (omega arith)

-- what holds of every two digits
digits2 : (P : ℕ → ℕ → Type 0) → P 0 0 → P 0 1 → P 1 0 → P 1 1 → (x y : ℕ) → P (x % 2) (y % 2)
digits2 P a b c d x y =
    ⊎_elim (λ (e : x % 2 ≡ 0). ⊎_elim (λ (f : y % 2 ≡ 0). rw (e, f) a) (λ (f : y % 2 ≡ 1). rw (e, f) b) (digit (y % 2) (mod-lt y (zero-lt-suc 1))))
    (λ (e : x % 2 ≡ 1). ⊎_elim (λ (f : y % 2 ≡ 0). rw (e, f) c) (λ (f : y % 2 ≡ 1). rw (e, f) d) (digit (y % 2) (mod-lt y (zero-lt-suc 1))))
    (digit (x % 2) (mod-lt x (zero-lt-suc 1)))

pub bit_bit_or : (a b i : ℕ) → bit (bit_or a b) i ≡ (bit a i || bit b i)
unfolding bit
bit_bit_or a b i =
    rw (or_shr a b i, or_step (a / 2 ^ i) (b / 2 ^ i), mul-add-mod_self_right)
    (digits2 (λ p q. eqb (max p q % 2) 1 ≡ (eqb p 1 || eqb q 1)) refl refl refl refl (a / 2 ^ i) (b / 2 ^ i))

pub bit_bit_and : (a b i : ℕ) → bit (bit_and a b) i ≡ (bit a i && bit b i)
unfolding bit
bit_bit_and a b i =
    rw (and_shr a b i, and_step (a / 2 ^ i) (b / 2 ^ i), mul-add-mod_self_right)
    (digits2 (λ p q. eqb (min p q % 2) 1 ≡ (eqb p 1 && eqb q 1)) refl refl refl refl (a / 2 ^ i) (b / 2 ^ i))

-- bit i of 2 ^ j: above, at and below j
power_above : (i j : ℕ) → j < i → 2 ^ j / 2 ^ i % 2 ≡ 0
power_above i j h = rw (div-eq_of_lt (pow-lt h))

power_gap : (d i : ℕ) → 2 ^ (suc d + i) / 2 ^ i % 2 ≡ 0
power_gap d i = rw (pow-add 2 (suc d) i, shl-shr (2 ^ suc d) i, pow-suc 2 d) (omega arith)

power_below : (i j : ℕ) → i < j → 2 ^ j / 2 ^ i % 2 ≡ 0
power_below i j h =
    let e : suc (j - suc i) + i ≡ j = omega arith in
    rw e at (power_gap (j - suc i) i)

lt_or_le : (i j : ℕ) → (i < j) ⊎ (j ≤ i)
lt_or_le i j = go (ltb i j) refl
  where
    go : (b : Bool) → ltb i j ≡ b → (i < j) ⊎ (j ≤ i)
    go true e = inl (ltb-true i j e)
    go false e = inr (ltb-false i j e)

pub bit_one : (j i : ℕ) → bit (2 ^ j) i ≡ eqb i j
unfolding bit
bit_one j i = ⊎_elim below above (lt_or_le i j)
  where
    below : i < j → eqb (2 ^ j / 2 ^ i % 2) 1 ≡ eqb i j
    below l = rw (power_below i j l) (sym (ne_eqb i j (λ e. omega arith)))

    above : j ≤ i → eqb (2 ^ j / 2 ^ i % 2) 1 ≡ eqb i j
    above le = ⊎_elim
        (λ (e : j ≡ i). rw (e, div_self (pow_pos i)) (sym (eq-eqb i i refl)))
        (λ (l : j < i). rw (power_above i j l) (sym (ne_eqb i j (λ e. omega arith))))
        (eq-or-lt_of_le le)

-- a row with j more
pub bit_with : (a j i : ℕ) → bit (with_bit a j) i ≡ (bit a i || eqb i j)
unfolding with_bit
bit_with a j i = bit_bit_or a (2 ^ j) i ∙ ap (λ (b : Bool). bit a i || b) (bit_one j i)

pub bit_none : (i : ℕ) → bit 0 i ≡ false
unfolding bit
bit_none i = rw (div-eq_of_lt (pow_pos i))

pub with_lt : (k a j : ℕ) → a < 2 ^ k → j < k → with_bit a j < 2 ^ k
unfolding with_bit
with_lt k a j h l = or_lt k a (2 ^ j) h (pow-lt l)

-- what the code computes: a shifted one
pub shifted_one : (w j : ℕ) → j < w → (1 * 2 ^ j) % 2 ^ w ≡ 2 ^ j
shifted_one w j l = rw (one-mul (2 ^ j), mod-eq_of_lt (pow-lt l))
