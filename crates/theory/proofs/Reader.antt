-- Words at the front of the bytes left.
use mathlib.Core.Path.{◌≡◌, refl, ap, ◌∙◌}
use mathlib.Core.Bool.{false≢true}
use mathlib.Core.List.{List, [], ◌∷◌, ◌++◌}
use Prim.Native.Nat.{ℕ, suc}
use native.Mathlib.Omega.{arith}
use lib.ListN.{length, drop}
use lib.Dec.{eqb}
use Rattle.meaning.specs.Finite.{Yes}
use Rattle.meaning.proofs.Tests.{is_eq, self_eq, and_left, and_right, and_both}
use Rattle.theory.specs.Reader.{front}

pub front_is : (bs w : List ℕ) → Yes (front bs w) → bs ≡ w ++ drop (length w) bs
unfolding front
front_is bs [] h = refl
front_is [] (b ∷ w) h = absurd (false≢true h)
front_is (a ∷ bs) (b ∷ w) h =
    let e : a ≡ b = is_eq (and_left _ h) in
    let d = front_is bs w (and_right _ h) in
    ap (λ (k : ℕ). k ∷ bs) e ∙ ap (λ (r : List ℕ). b ∷ r) d

pub front_self : (w q : List ℕ) → Yes (front (w ++ q) w)
unfolding front
front_self [] q = refl
front_self (b ∷ w) q = and_both (self_eq b) (front_self w q)

pub no_bytes : (bs : List ℕ) → Yes (eqb (length bs) 0) → bs ≡ []
no_bytes [] y = refl
no_bytes (b ∷ bs) y = absurd (let h : suc (length bs) ≡ 0 = is_eq y in omega arith)
