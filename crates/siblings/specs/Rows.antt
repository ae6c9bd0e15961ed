-- What the rows of two tables lead to from a group.
use Rattle.std.specs.Prelude.{List, ℕ, ◌<◌}
use Rattle.tables.specs.Tables.{row}
use Rattle.grouping.specs.Rows.{In}

-- what a chain of rows of two tables leads to from a group
pub data Kin (before after : List ℕ) (group : ℕ) : ℕ → Type 0 where
  own : {i : ℕ} → In group i → Kin before after group i
  to_later : {i j : ℕ} → Kin before after group i → In (row before i) j → Kin before after group j
  to_earlier : {i j : ℕ} → Kin before after group i → In (row after i) j → Kin before after group j

pub record Family (before after : List ℕ) (group r : ℕ) : Type 0 where
  pub small : r < 65536
  pub from : (i : ℕ) → In r i → Kin before after group i
  pub owns : (i : ℕ) → In group i → In r i
  pub later : (i j : ℕ) → In r i → In (row before i) j → In r j
  pub earlier : (i j : ℕ) → In r i → In (row after i) j → In r j
