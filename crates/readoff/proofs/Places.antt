-- Places in the order: there are no more than groups, and that of a variable's group is that of the lowest in it.
use mathlib.Core.Path.{◌≡◌, refl, sym, ◌∙◌}
use mathlib.Core.Bool.{Bool, true, false}
use mathlib.Core.List.{List, [], ◌∷◌, Memᴰ}
use Prim.Native.Nat.{ℕ, suc, ◌≤◌, ◌<◌, zero-le, suc-le-suc}
use native.Mathlib.Nat.{le_refl}
use native.Mathlib.Omega.{arith}
use lib.Bits.{bit_and}
use lib.Dec.{eqb}
use lib.ListN.{length}
use Rattle.meaning.specs.Finite.{Yes, pick, position}
use Rattle.rowbits.specs.Bit.{bit}
use Rattle.tables.specs.Tables.{row}
use Rattle.ordering.specs.declared.Order.{Order}
use Rattle.tables.specs.Rows.{Lowest}
use Rattle.ordering.specs.Listing.{Placed}
use Rattle.ordering.specs.Groups.{groups}
use Rattle.readoff.specs.Nodes.{Led}
use Rattle.ordering.proofs.Listing.{count_is}

position_most : (p : ℕ → Bool) (xs : List ℕ) → position p xs ≤ length xs
unfolding position pick
position_most p [] = le_refl _
position_most p (x ∷ xs) = go (p x) (position_most p xs)
  where
    go : (b : Bool) → position p xs ≤ length xs → pick b 0 (suc (position p xs)) ≤ suc (length xs)
    go true h = zero-le
    go false h = suc-le-suc h

pub position_eq : (p q : ℕ → Bool) (xs : List ℕ) → ((x : ℕ) → Memᴰ x xs → p x ≡ q x) → position p xs ≡ position q xs
unfolding position
position_eq p q [] h = refl
position_eq p q (x ∷ xs) h = rw (h x (Memᴰ.head refl), position_eq p q xs (λ y m. h y (Memᴰ.tail m)))

pub place_most : (p : ℕ → Bool) (o : Order) → position p (groups o) ≤ 16
place_most p o = let c = o.few in omega (arith, position_most p (groups o), count_is o)

-- the place of the lowest of a group is that of the first that is in the group
pub place_led : (t u : List ℕ) (root n : ℕ) (gs ps : List ℕ) → Led t u root n gs → Placed gs ps → (x k : ℕ) → x < n → ¬ Yes (bit root x) → Lowest (bit_and (row u x) (row t x)) k
    → row ps k ≡ position (bit (bit_and (row u x) (row t x))) gs
place_led t u root n gs ps w p x k l under low = let c = w x k l under low in p k c.0 ∙ position_eq (λ y. eqb y k) (bit (bit_and (row u x) (row t x))) gs (λ g m. sym (c.1 g m))
