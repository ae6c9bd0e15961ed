-- What the helpers on rows compute: the rows named by a row, where there is a gap among them, and what has to become the same next.
use Rattle.std.specs.Prelude.{◌≡◌, ◌≢◌, ◌⊎◌, List, ℕ}
use Rattle.meaning.specs.Finite.{Yes}
use Rattle.rowbits.specs.Bit.{bit}
use Rattle.tables.specs.Tables.{row, Columns}
use Rattle.tables.specs.Rows.{Union}
use Rattle.grouping.specs.Rows.{Gap}

-- the rows named where there is such a gap, else none
pub record WithGap (t : List ℕ) (rows r : ℕ) : Type 0 where
  pub none : r ≡ 0 → (i j : ℕ) → Yes (bit rows i) → Yes (bit rows j) → Yes (bit (row t i) j)
  pub some : r ≢ 0 → (r ≡ rows) × Gap t rows

-- t chains, and u has its columns
pub record Chained (t u : List ℕ) : Type 0 where
  pub chain : (i j k : ℕ) → Yes (bit (row t i) j) → Yes (bit (row t j) k) → Yes (bit (row t i) k)
  pub columns : Columns t u

-- the rows named where there is a gap, if below chains and above has its columns
abbrev pub GapOf : (below above : List ℕ) (rows r : ℕ) → Type 0
GapOf below above rows r = Chained below above → WithGap below rows r

-- the rows named hold the same
abbrev pub Alike : List ℕ → ℕ → Type 0
Alike t rows = (i k j : ℕ) → Yes (bit rows i) → Yes (bit rows k) → Yes (bit (row t i) j) → Yes (bit (row t k) j)

-- what has to become the same next, if moreover all roots have the same children: the parents, if they are not; else the children of the roots,
-- if these are not
abbrev pub NextOf : (below above child : List ℕ) (root parents r : ℕ) → Type 0
NextOf below above child root parents r = Chained below above → Alike child root → (WithGap below parents r × (r ≢ 0)) ⊎ ((u : ℕ) × WithGap below parents 0 × Union child root u × WithGap below u r)
