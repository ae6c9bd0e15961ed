-- What the code's tests say, passed or failed.
use mathlib.Core.Path.{◌≡◌, refl, sym, ◌∙◌}
use mathlib.Core.Logic.{◌≢◌, ◌⊎◌, inl, inr}
use mathlib.Core.Bool.{Bool, true, false, ◌||◌, ◌&&◌, not, false≢true}
use Prim.Native.Nat.{ℕ}
use lib.Dec.{eqb}
use Rattle.meaning.specs.Finite.{Yes}
use Rattle.meaning.proofs.Tests.{clash, no_neg, is_eq, eq_yes}
use Rattle.tables.proofs.Helpers.{not_is}

pub or_yes : (a b : Bool) → Yes (a || b) → Yes a ⊎ Yes b
or_yes true b t = inl refl
or_yes false b t = inr t

pub or_no : (a b : Bool) → (a || b) ≡ false → (a ≡ false) × (b ≡ false)
or_no true b e = absurd (false≢true (sym e))
or_no false b e = (refl, e)

pub and_yes : (a b : Bool) → Yes (a && b) → Yes a × Yes b
and_yes true b t = (refl, t)
and_yes false b t = absurd (false≢true t)

pub yes_and : (a b : Bool) → Yes a → Yes b → Yes (a && b)
yes_and true b s t = t
yes_and false b s t = s

pub not_eq : (a b : ℕ) → Yes (not (eqb a b)) → a ≢ b
not_eq a b t e = clash (eq_yes e) (sym (not_is (eqb a b)) ∙ t)

pub eq_not : (a b : ℕ) → a ≢ b → Yes (not (eqb a b))
eq_not a b n = not_is (eqb a b) ∙ no_neg (λ t. n (is_eq t))
