-- What settling answers: None for a clash, or tables that decide the settled set.
use Rattle.std.specs.Prelude.{List, ℕ, MatchOption, Option}
use Rattle.meaning.specs.Constraint.{Fact}
use Rattle.tables.specs.Tables.{Seeded, Ready}
use Rattle.tables.specs.declared.Facts.{Facts}
use Rattle.passes.specs.Steps.{Clashes}

-- f has these tables, whatever S it is to settle from
abbrev pub Settles : ℕ → Facts → Facts → Type 0
Settles n f g = (S : List Fact) → Seeded n S f → Ready n S g

abbrev pub SettledOf : ℕ → Facts → Option Facts → Type 0
SettledOf n f r = MatchOption r (Clashes n f) (Settles n f)
