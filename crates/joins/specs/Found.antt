-- What the answer says of the tables: the first join of all.
use Rattle.std.specs.Prelude.{◌≡◌, List, ℕ}
use Rattle.meaning.specs.Constraint.{Fact}
use Rattle.theory.specs.Search.{first_join}
use Rattle.tables.specs.Tables.{has, Ready}
use Rattle.tables.specs.declared.Facts.{Facts}
use Rattle.stages.specs.Found.{Found, join_of}

-- the first join of all
abbrev pub FoundOf : ℕ → Facts → Found → Type 0
FoundOf n f r = (S : List Fact) → Ready n S f → join_of r ≡ first_join n (has f)
