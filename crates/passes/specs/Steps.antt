-- What a step of settling makes of the tables, with the group of rules of the pass. The rules of siblings are computed table by table (settle/specs/Siblings).
use Rattle.std.specs.Prelude.{◌≡◌, false, List, ℕ, ◌+◌, ◌≤◌, MatchOption, Option}
use Rattle.meaning.specs.Tree.{Var}
use Rattle.meaning.specs.Constraint.{Fact, child, below, differ, root}
use Rattle.meaning.specs.Settled.{Clash}
use Rattle.meaning.specs.Closed.{Sharing}
use Rattle.meaning.specs.Finite.{Yes, sum, pick}
use Rattle.tables.specs.Tables.{row, has, Columns, Seeded}
use Rattle.tables.specs.declared.Facts.{Facts}
use Rattle.tables.specs.Free.{Bare}
use Rattle.passes.specs.declared.Stepped.{Stepped}

-- the rows that steps add to, summed as numbers
unfoldable pub weight : Facts → ℕ
weight f = sum 16 (row f.below) + sum 16 (row f.child) + sum 16 (row f.before)

-- What a step makes of f, for every S that f is to settle from: again tables to settle S from. With no more to add
-- they have G, the step's group of rules; else they have grown.
pub record StepOf (G : Facts → Type 0) (n : ℕ) (f : Facts) (r : Stepped) : Type 0 where
  pub seeded : (S : List Fact) → Seeded n S f → Seeded n S r.facts
  pub closed : r.more ≡ false → (S : List Fact) → Seeded n S f → G r.facts
  pub grown : weight f + pick r.more 1 0 ≤ weight r.facts

-- f has a clash, whatever S it is to settle from
abbrev pub Clashes : ℕ → Facts → Type 0
Clashes n f = (S : List Fact) → Seeded n S f → Clash n S

-- a step: None is a clash
abbrev pub SteppedOf : (Facts → Type 0) → ℕ → Facts → Option Stepped → Type 0
SteppedOf G n f r = MatchOption r (Clashes n f) (StepOf G n f)

-- the group of a pass: the rules of sharing and those of one parent and one element; nothing differs from itself, and `above` is right
pub record PassRules (n : ℕ) (f : Facts) : Type 0 where
  pub sharing : Sharing n (λ φ. Yes (has f φ))
  pub one_parent : (x y z : Var) → Yes (has f (child x z)) → Yes (has f (child y z)) → Yes (has f (below x y))
  pub one_element : (x y z : Var) → Yes (has f (root x)) → Yes (has f (child x y)) → Yes (has f (child x z)) → Yes (has f (below y z))
  pub apart : (x : Var) → ¬ Yes (has f (differ x x))
  pub ancestors : Columns f.below f.above

-- and where neither leaf nor label is on the document node
pub record BareRules (n : ℕ) (f : Facts) : Type 0 where
  pub passed : PassRules n f
  pub bare : Bare (λ φ. Yes (has f φ))
