-- The product of a label and its change: it fits, and is not 0 where another label than the one that stands is given.
use mathlib.Core.Path.{◌≡◌, sym, ap, ◌∙◌}
use mathlib.Core.Logic.{◌≢◌}
use mathlib.Core.Bool.{not}
use Prim.Native.Nat.{ℕ, ◌*◌, ◌≤◌, ◌<◌}
use native.Mathlib.Nat.{mul-pos, mul-le-mul, mul-zero, zero-mul}
use native.Mathlib.Omega.{arith}
use lib.Dec.{eqb}
use lib.Bits.{bit_xor, xor_lt, xor_self}
use Rattle.meaning.specs.Finite.{Yes}
use Rattle.meaning.proofs.Tests.{clash, and_left, and_right, and_both, no_neg, is_eq, eq_yes, yes_eq}
use Rattle.tables.proofs.Bits.{xor_zero}
use Rattle.tables.proofs.Tested.{not_eq, eq_not}
use Rattle.seed.specs.Seeds.{second_label}

module _ (a b : ℕ) where
  pub change_small : a < 256 → b < 256 → bit_xor a b < 256
  change_small h l = xor_lt 8 a b h l

  pub product_small : a < 256 → b < 256 → a * bit_xor a b < 65536
  product_small h l =
      let c = change_small h l in
      let m : a * bit_xor a b ≤ 255 * 255 = mul-le-mul {n₂ = 255} {m₂ = 255} (omega arith) (omega arith) in
      omega arith

  pub product_is : not (eqb (a * bit_xor a b) 0) ≡ second_label a b
  unfolding second_label
  product_is = yes_eq _ _ to from
    where
      to : Yes (not (eqb (a * bit_xor a b) 0)) → Yes (second_label a b)
      to u =
          let n = not_eq (a * bit_xor a b) 0 u in
          and_both (no_neg (λ v. n (ap (λ (k : ℕ). k * bit_xor a b) (is_eq v) ∙ zero-mul _)))
          (no_neg (λ v. n (ap (λ (k : ℕ). a * k) (ap (λ (k : ℕ). bit_xor a k) (sym (is_eq v)) ∙ xor_self a) ∙ mul-zero _)))

      from : Yes (second_label a b) → Yes (not (eqb (a * bit_xor a b) 0))
      from u =
          let n : a ≢ 0 = λ z. clash (eq_yes z) (and_left _ u) in
          let d : bit_xor a b ≢ 0 = λ z. clash (eq_yes (xor_zero a b z)) (and_right _ u) in
          eq_not (a * bit_xor a b) 0 (λ z. let p : 0 < a * bit_xor a b = mul-pos (omega arith) (omega arith) in omega arith)
