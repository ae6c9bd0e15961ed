-- Laws of labels whose capitals count as small letters, and what the label of a given fact is: 1 to 255, and no capital.
use mathlib.Core.Path.{◌≡◌, refl}
use mathlib.Core.Bool.{true, false}
use mathlib.Core.Logic.{◌↔◌}
use Prim.Native.Nat.{◌+◌, ◌≤◌}
use native.Mathlib.Omega.{arith}
use lib.Dec.{leb}
use Rattle.meaning.specs.Finite.{Yes, ◌and◌}
use Rattle.meaning.specs.Tree.{Label, is_capital, folded, SameLabel}
use Rattle.meaning.proofs.Tests.{and_left, and_right, and_both, pick_yes, pick_no, pick_either, is_le, le_yes}

-- ---- at the limits, by computing: a limit that is changed shows as its number

below_A : is_capital 64 ≡ false
unfolding is_capital ◌and◌
below_A = refl

from_A : is_capital 65 ≡ true
unfolding is_capital ◌and◌
from_A = refl

to_Z : is_capital 90 ≡ true
unfolding is_capital ◌and◌
to_Z = refl

above_Z : is_capital 91 ≡ false
unfolding is_capital ◌and◌
above_Z = refl

-- ---- capitals

pub range_capital : (l : Label) → 65 ≤ l → l ≤ 90 → Yes (is_capital l)
unfolding is_capital
range_capital l a b = and_both (le_yes a) (le_yes b)

pub capital_range : (l : Label) → Yes (is_capital l) → (65 ≤ l) × (l ≤ 90)
unfolding is_capital
capital_range l y = (is_le (and_left (leb l 90) y), is_le (and_right (leb 65 l) y))

pub folded_capital : (l : Label) → Yes (is_capital l) → folded l ≡ l + 32
unfolding folded
folded_capital l y = pick_yes _ _ y

pub folded_other : (l : Label) → ¬ Yes (is_capital l) → folded l ≡ l
unfolding folded
folded_other l n = pick_no _ _ n

-- what it has of a capital and of any other label
pub folded_either : (P : Label → Type 0) (l : Label) → (Yes (is_capital l) → P (l + 32)) → (¬ Yes (is_capital l) → P l) → P (folded l)
unfolding folded
folded_either P l f g = pick_either P (is_capital l) (l + 32) l f g

pub folded_small : (l : Label) → ¬ Yes (is_capital (folded l))
folded_small l = folded_either (λ k. ¬ Yes (is_capital k)) l
    (λ y z. let a = (capital_range l y).0 in let b = (capital_range (l + 32) z).1 in omega arith)
    (λ n. n)

pub folded_twice : (l : Label) → folded (folded l) ≡ folded l
folded_twice l = folded_other (folded l) (folded_small l)

pub folded_least : (l : Label) → l ≤ folded l
folded_least l = folded_either (λ k. l ≤ k) l (λ y. omega arith) (λ n. omega arith)

pub folded_most : (l : Label) → l ≤ 255 → folded l ≤ 255
folded_most l h = folded_either (λ k. k ≤ 255) l (λ y. let a = (capital_range l y).1 in omega arith) (λ n. h)

pub folded_blank : folded 0 ≡ 0
folded_blank = folded_other 0 (λ y. let a = (capital_range 0 y).0 in omega arith)

-- ---- labels as they are compared

-- "Labels 65 to 90 equal their small letters 97 to 122"
pub capital_same : (l : Label) → 65 ≤ l → l ≤ 90 → SameLabel l (l + 32)
capital_same l a b =
    let f = folded_capital l (range_capital l a b) in
    let g = folded_other (l + 32) (λ y. let c = (capital_range (l + 32) y).1 in omega arith) in
    cc

-- labels none of which is a capital are compared as they stand
pub same_label_kept : (l m : Label) → ¬ Yes (is_capital l) → ¬ Yes (is_capital m) → SameLabel l m ↔ (l ≡ m)
same_label_kept l m a b =
    let f = folded_other l a in
    let g = folded_other m b in
    (λ e. cc, λ e. cc)

-- ---- labels of given facts

pub record FactLabel (l : Label) : Type 0 where
  pub some : 1 ≤ l
  pub byte : l ≤ 255
  pub small : ¬ Yes (is_capital l)

pub fact_label : (l : Label) → (1 ≤ l) × (l ≤ 255) → FactLabel (folded l)
fact_label l b = record { some = let a = folded_least l in let c = b.0 in omega arith; byte = folded_most l b.1; small = folded_small l }
