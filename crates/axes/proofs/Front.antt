-- A word at the front: one byte more, a byte that differs, the end, and too few bytes. Assumes nothing.
use mathlib.Core.Path.{◌≡◌, refl, ◌∙◌}
use mathlib.Core.Bool.{Bool, true, false}
use Rattle.meaning.specs.Finite.{◌and◌}
use mathlib.Core.List.{List, [], ◌∷◌}
use Prim.Native.Nat.{ℕ, ◌+◌, ◌<◌, ◌≤◌}
use native.Mathlib.Nat.{not-suc-le-zero, le_of_suc-le-suc}
use native.Mathlib.Numerals.{add-one}
use native.Mathlib.Omega.{arith}
use lib.ListN.{length, drop, get_or, length-drop}
use lib.Seq.{drop-cons}
use lib.Dec.{eqb}
use borrow.Author.Tests.{eq-eqb, ne_eqb}
use Rattle.theory.specs.Reader.{front}

and_false : (b : Bool) → (b and false) ≡ false
unfolding ◌and◌
and_false true = refl
and_false false = refl

pub front_short : (s w : List ℕ) → length s < length w → front s w ≡ false
unfolding front ◌and◌
front_short s [] h = absurd (not-suc-le-zero h)
front_short [] (b ∷ w) h = refl
front_short (a ∷ s) (b ∷ w) h = rw (front_short s w (le_of_suc-le-suc h)) (and_false (eqb a b))

module _ (s w : List ℕ) (m i : ℕ) (hs : m < length s) (hw : i < length w) where
  pub front_more : get_or s m 0 ≡ get_or w i 0 → front (drop (m + 1) s) (drop (i + 1) w) ≡ front (drop m s) (drop i w)
  unfolding front ◌and◌
  front_more e = rw (drop-cons s m 0 hs, drop-cons w i 0 hw, eq-eqb _ _ e, add-one m, add-one i)

  pub front_miss : (get_or s m 0 ≡ get_or w i 0 → ⊥) → front (drop m s) (drop i w) ≡ false
  unfolding front ◌and◌
  front_miss e = rw (drop-cons s m 0 hs, drop-cons w i 0 hw, ne_eqb _ _ e)

front_nil : (a b : List ℕ) → length b ≡ 0 → front a b ≡ true
unfolding front ◌and◌
front_nil a [] e = refl
front_nil a (x ∷ b) e = absurd (omega arith)

pub front_end : (s w : List ℕ) (i : ℕ) → length w ≤ i → front s (drop i w) ≡ true
front_end s w i h = front_nil s (drop i w) (length-drop i w ∙ omega arith)
