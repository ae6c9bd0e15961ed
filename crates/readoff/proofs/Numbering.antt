-- The numbering by what is put in front, and that it is the one of the definition.
use mathlib.Core.Path.{◌≡◌, refl, fun_ext}
use mathlib.Core.Bool.{Bool, true, false}
use Prim.Native.Nat.{ℕ, ◌≤◌, ◌<◌}
use native.Mathlib.Omega.{arith}
use lib.ListN.{length}
use Rattle.meaning.specs.Finite.{one}
use Rattle.meaning.specs.ReadOff.{FactSet, layer, element, node_at}
use Rattle.ordering.specs.Numbering.{element_of, numbered}

pub one_most : (b : Bool) → one b ≤ 1
unfolding one
one_most true = omega arith
one_most false = omega arith

pub numbered_later : (e i j : ℕ) → i < j → numbered e i < numbered e j
unfolding numbered
numbered_later e i j l = omega arith

pub numbered_most : (b : Bool) (i : ℕ) → i ≤ 16 → numbered (one b) i ≤ 18
unfolding numbered
numbered_most b i l = omega (arith, one_most b)

pub numbered_fits : (b : Bool) (i : ℕ) → i ≤ 16 → numbered (one b) i < 256
unfolding numbered
numbered_fits b i l = omega (arith, one_most b)

module _ (n : ℕ) (h : FactSet) where
  pub element_is : element_of (length (layer n h 0)) ≡ element n h
  unfolding element_of element
  element_is = refl

  pub numbered_is : numbered (element n h) ≡ node_at n h
  unfolding numbered node_at
  numbered_is = fun_ext (λ i. refl)
