-- The groups in the order of their nodes, as a list.
use Rattle.std.specs.Prelude.{◌≡◌, ◌≢◌, Bool, ℕ, zero, suc, ◌<◌, eqb, length, take}
use mathlib.Core.List.{List, [], ◌++◌, map, Memᴰ}
use Rattle.std.specs.Int.Bits.{bit_and}
use Rattle.meaning.specs.Finite.{Yes, arranged, picked, position}
use Rattle.rowbits.specs.Bit.{bit}
use Rattle.tables.specs.Tables.{row}
use Rattle.ids.specs.declared.Var.{Var}

-- the numbers of the first `len` variables
unfoldable pub numbers : List Var → ℕ → List ℕ
numbers vs len = map (λ (v : Var). v.0) (take len vs)

abbrev pub AreVariables : List ℕ → Type 0
AreVariables gs = (g : ℕ) → Memᴰ g gs → g < 16

-- by the rows of `after` w goes before g
abbrev pub precedes : List ℕ → ℕ → ℕ → Bool
precedes after w g = bit (row after g) w

pub record Strict (after : List ℕ) : Type 0 where
  pub not_self : (v : ℕ) → ¬ Yes (precedes after v v)
  pub chains : (u v w : ℕ) → Yes (precedes after u v) → Yes (precedes after v w) → Yes (precedes after u w)

-- x is the lowest member of a row that none of its members goes before
pub record Earliest (after : List ℕ) (r x : ℕ) : Type 0 where
  pub member : Yes (bit r x)
  pub free : bit_and r (row after x) ≡ 0
  pub first : (i : ℕ) → i < x → Yes (bit r i) → bit_and r (row after i) ≢ 0

-- the members of a row, the next always the lowest that none of those left goes before
unfoldable pub in_line : List ℕ → ℕ → List ℕ
in_line after r = let gs = picked 16 (bit r) in arranged (precedes after) (length gs) gs

-- the members of the first d rows, row by row
unfoldable pub listed : List ℕ → List ℕ → ℕ → List ℕ
listed after t zero = []
listed after t (suc d) = listed after t d ++ in_line after (row t d)

-- a table of the place of each group in a list
abbrev pub Placed : List ℕ → List ℕ → Type 0
Placed gs t = (g : ℕ) → Memᴰ g gs → row t g ≡ position (λ y. eqb y g) gs
