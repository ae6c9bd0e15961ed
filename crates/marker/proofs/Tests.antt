-- The meaning's connectives and the code's.
use mathlib.Core.Path.{◌≡◌, refl}
use mathlib.Core.Bool.{Bool, true, false, not}
use Rattle.meaning.specs.Finite.{neg, ◌and◌}

pub not_neg : (b : Bool) → not b ≡ neg b
unfolding neg
not_neg true = refl
not_neg false = refl

pub and_not_true : (a b : Bool) → not b ≡ true → a ≡ a and neg b
unfolding neg ◌and◌
and_not_true true false e = refl
and_not_true false false e = refl
and_not_true a true e = cc

pub and_not_false : (a b : Bool) → not b ≡ false → false ≡ a and neg b
unfolding neg ◌and◌
and_not_false true true e = refl
and_not_false false true e = refl
and_not_false a false e = cc
