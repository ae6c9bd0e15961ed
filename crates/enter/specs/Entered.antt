-- What is entered, and what entering it answers: a clash, or tables that decide the settled set of these facts more.
use Rattle.std.specs.Prelude.{Bool, true, false, List, [], ◌∷◌, ◌++◌, ℕ, Option, None, Some}
use Rattle.meaning.specs.Constraint.{Fact, below, differ}
use Rattle.meaning.specs.Settled.{Clash}
use Rattle.meaning.specs.Finite.{Yes}
use Rattle.tables.specs.Tables.{has, Ready}
use Rattle.tables.specs.declared.Facts.{Facts}

-- below(a, b), and with `apart` that they differ
abbrev pub entering : ℕ → ℕ → Bool → List Fact
entering a b false = below a b ∷ []
entering a b true = below a b ∷ differ b a ∷ []

-- both are above one variable, and b is not above a: as in a chain join
pub record Forked (f : Facts) (a b : ℕ) : Type 0 where
  pub under : ℕ
  pub above_a : Yes (has f (below a under))
  pub above_b : Yes (has f (below b under))
  pub not_above : ¬ Yes (has f (below b a))

-- the facts A entered: they and S have a clash, or the tables now decide them and S
abbrev pub EnteredOf : ℕ → Facts → List Fact → Option Facts → Type 0
EnteredOf n f A None = (S : List Fact) → Ready n S f → Clash n (A ++ S)
EnteredOf n f A (Some g) = (S : List Fact) → Ready n S f → Ready n (A ++ S) g
