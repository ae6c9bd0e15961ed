-- Rows as numbers: with every bit of another a row is no less.
use mathlib.Core.Path.{◌≡◌, refl, sym, subst}
use Prim.Native.Nat.{ℕ, zero, suc, ◌/◌, ◌%◌, ◌^◌, ◌<◌, ◌≤◌}
use native.Mathlib.Decide.{ℕ_discrete}
use native.Mathlib.Omega.{arith}
use Rattle.meaning.specs.Finite.{Yes}
use Rattle.rowbits.specs.Bit.{bit}
use Rattle.tables.proofs.Bits.{bit_half, half, digit_in, in_digit}

pub bits_le : (k a b : ℕ) → a < 2 ^ k → ((i : ℕ) → Yes (bit a i) → Yes (bit b i)) → a ≤ b
bits_le zero a b h s = let e : 2 ^ 0 ≡ 1 = refl in omega arith
bits_le (suc k) a b h s =
    let d : a / 2 ≤ b / 2 = bits_le k (a / 2) (b / 2) (half k a h) (λ i u. subst Yes (sym (bit_half b i)) (s (suc i) (subst Yes (bit_half a i) u))) in
    last d (ℕ_discrete (a % 2) 1)
  where
    last : a / 2 ≤ b / 2 → Dec (a % 2 ≡ 1) → a ≤ b
    last d (yes e) = let f = in_digit b (s 0 (digit_in a e)) in omega arith
    last d (no e) = omega arith
