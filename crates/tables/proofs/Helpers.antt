-- What the code of the helpers computes is what their definitions say.
use mathlib.Core.Path.{◌≡◌, refl, sym}
use mathlib.Core.Bool.{Bool, true, false, ◌&&◌, ◌||◌, not}
use Prim.Native.Nat.{ℕ, ◌-◌, ◌*◌, ◌%◌, ◌^◌, ◌<◌, ◌≤◌}
use native.Mathlib.Nat.{one-mul, mod-eq_of_lt}
use native.Mathlib.Omega.{arith}
use lib.Pow.{pow_mono, pow_pos}
use lib.Bits.{or_zero_r}
use mir.Val.{Fits}
use mir.Syntax.{w16, w64}
use Rattle.meaning.specs.Finite.{◌and◌, ◌or◌, neg, pick}
use Rattle.tables.specs.Rows.{gained}

pub and_is : (a b : Bool) → (a && b) ≡ (a and b)
unfolding ◌and◌
and_is true b = refl
and_is false b = refl

pub not_is : (a : Bool) → not a ≡ neg a
unfolding neg
not_is true = refl
not_is false = refl

pub or_is : (a b : Bool) → (a || b) ≡ (a or b)
unfolding ◌or◌
or_is true b = refl
or_is false b = refl

pub gain_off : (t : Bool) (row more : ℕ) → t ≡ false → row ≡ gained t row more
unfolding gained pick
gain_off t row more e = rw e (sym (or_zero_r row))

pub pick_on : (t : Bool) (a b : ℕ) → t ≡ true → a ≡ pick t a b
unfolding pick
pick_on t a b e = rw e

pub pick_off : (t : Bool) (a b : ℕ) → t ≡ false → b ≡ pick t a b
unfolding pick
pick_off t a b e = rw e

pub power32 : (n : ℕ) → n ≤ 16 → (1 * 2 ^ n) % 4294967296 ≡ 2 ^ n
power32 n h =
    let m : 2 ^ n ≤ 2 ^ 16 = pow_mono {i = n} {j = 16} h in
    rw (one-mul (2 ^ n)) (mod-eq_of_lt (omega arith))

pub all_positive : (n : ℕ) → n ≤ 16 → 1 ≤ (1 * 2 ^ n) % 4294967296
all_positive n h = rw (power32 n h) (pow_pos n)

pub all_fits : (n : ℕ) → n ≤ 16 → Fits w16 ((1 * 2 ^ n) % 4294967296 - 1)
all_fits n h =
    let m : 2 ^ n ≤ 2 ^ 16 = pow_mono {i = n} {j = 16} h in
    let p : 1 ≤ 2 ^ n = pow_pos n in
    rw (power32 n h) (record { fits = omega arith })

pub doubled : (z : ℕ) → z < 16 → Fits w64 (z * 2)
doubled z h = record { fits = omega arith }
