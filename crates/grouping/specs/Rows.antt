-- What the helpers on rows compute: a gap among the rows named by a row, their labels, and what is spread over rows.
use Rattle.std.specs.Prelude.{◌≡◌, ◌≢◌, ◌⊎◌, Bool, true, false, List, ℕ}
use Rattle.meaning.specs.Finite.{Yes, pick}
use Rattle.rowbits.specs.Bit.{bit}
use Rattle.tables.specs.Tables.{row}

-- one of the rows named lacks one of them
pub record Gap (t : List ℕ) (rows : ℕ) : Type 0 where
  pub at : ℕ
  pub lacks : ℕ
  pub at_in : Yes (bit rows at)
  pub lacks_in : Yes (bit rows lacks)
  pub missing : ¬ Yes (bit (row t at) lacks)

-- one of the rows named has another label than l
pub record TwoLabels (t : List ℕ) (rows l : ℕ) (r : Bool) : Type 0 where
  pub two : r ≡ true → (i : ℕ) × Yes (bit rows i) × (row t i ≢ 0) × (row t i ≢ l)
  pub one : r ≡ false → (i : ℕ) → Yes (bit rows i) → row t i ≢ 0 → row t i ≡ l

pub record Painted (t : List ℕ) (rows l : ℕ) (r : List ℕ) : Type 0 where
  pub paints : (i : ℕ) → row r i ≡ pick (bit rows i) l (row t i)

abbrev pub In : ℕ → ℕ → Type 0
In row x = Yes (bit row x)

-- the rows of the group with `along`, and the rows of `across` with the group
pub record Spread (t : List ℕ) (group along across : ℕ) (r : List ℕ) : Type 0 where
  pub out : (i j : ℕ) → In (row r i) j → In (row t i) j ⊎ (In group i × In along j) ⊎ (In across i × In group j)
  pub keeps : (i j : ℕ) → In (row t i) j → In (row r i) j
  pub rows : (i j : ℕ) → In group i → In along j → In (row r i) j
  pub columns : (i j : ℕ) → In across i → In group j → In (row r i) j
