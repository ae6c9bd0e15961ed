-- What the rows of the tables say of groups: which variables are over one, which are the lowest of their group, and how deep one is.
-- t is the table `below` and u its columns, `above`; the variables in `root` are on the document node, and no group.
use Rattle.std.specs.Prelude.{◌≡◌, Bool, List, ℕ, ◌-◌, ◌^◌, ◌<◌, eqb}
use Rattle.std.specs.Int.Bits.{bit_and}
use Rattle.std.specs.Int.Count.{ones}
use Rattle.meaning.specs.Finite.{◌and◌, neg}
use Rattle.rowbits.specs.Bit.{bit}
use Rattle.tables.specs.Rows.{without}
use Rattle.tables.specs.Tables.{row}

-- the numbers below k that pass a test, as a row
pub record Gathered (k : ℕ) (p : ℕ → Bool) (r : ℕ) : Type 0 where
  pub small : r < 2 ^ k
  pub each : (y : ℕ) → y < k → bit r y ≡ p y

-- the variables below n that are over one with these two rows
unfoldable pub over_row : ℕ → ℕ → ℕ → ℕ
over_row n up down = bit_and (without up down) (2 ^ n - 1)

module _ (t u : List ℕ) where
  -- no smaller variable is the same
  unfoldable pub is_low : ℕ → Bool
  is_low x = eqb (bit_and (bit_and (row u x) (row t x)) (2 ^ x - 1)) 0

  -- x stands for its group, which is not root
  unfoldable pub is_lowest : ℕ → ℕ → Bool
  is_lowest root x = neg (bit root x) and is_low x

  -- how many of the lowest variables are over x
  unfoldable pub deep : ℕ → ℕ → ℕ → ℕ
  deep n lows x = ones (bit_and (over_row n (row u x) (row t x)) lows)

  unfoldable pub in_layer : ℕ → ℕ → ℕ → ℕ → Bool
  in_layer n lows d x = bit lows x and eqb (deep n lows x) d

  -- the row of each depth has the lowest variables that deep
  abbrev pub AreLayers : ℕ → ℕ → List ℕ → Type 0
  AreLayers n lows rows = (d : ℕ) → d < 17 → Gathered n (in_layer n lows d) (row rows d)

  -- w is among these, which are over one variable, and over none of them
  unfoldable pub near : ℕ → ℕ → Bool
  near above w = bit above w and eqb (bit_and above (without (row t w) (row u w))) 0
