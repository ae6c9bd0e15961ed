-- Two groups of variables that are the same, kept apart in the rows of differ.
use Rattle.std.specs.Prelude.{List, ℕ}
use Rattle.std.specs.Int.Bits.{bit_and}
use Rattle.tables.specs.Tables.{row}
use Rattle.tables.specs.Rows.{RaisedAlike}

-- the variables that are the same as x
abbrev pub group : List ℕ → List ℕ → ℕ → ℕ
group below above x = bit_and (row below x) (row above x)

-- the rows of the one group gain the other, and the other way round; variables that are the same are known by their row of below
pub record PartedOf (t below above : List ℕ) (a b : ℕ) (r : List ℕ) : Type 0 where
  pub half : List ℕ
  pub there : RaisedAlike t below (row below a) (group below above b) half
  pub back : RaisedAlike half below (row below b) (group below above a) r
