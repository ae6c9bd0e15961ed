-- What a round and what the whole does to tables in which some variables have yet to become the same.
use Rattle.std.specs.Prelude.{◌≡◌, ◌≢◌, List, ◌∷◌, ℕ, ◌<◌, Option, None, Some}
use Rattle.meaning.specs.Tree.{Var}
use Rattle.meaning.specs.Constraint.{Fact, child, below, root}
use Rattle.meaning.specs.Settled.{Settled, Clash}
use Rattle.tables.specs.Tables.{Ready}
use Rattle.tables.specs.declared.Facts.{Facts}
use Rattle.grouping.specs.declared.Round.{Round}
use Rattle.grouping.specs.Rows.{Gap}
use Rattle.grouping.specs.Grouping.{Held, Pending, lacking}

-- two children of the document node are the same, which is owed where nothing waits
abbrev pub OneElement : Facts → Type 0
OneElement f = (x y z : Var) → Held f (root x) → Held f (child x y) → Held f (child x z) → Held f (below y z)

-- the variables of x became the same, and what is missing now are those of r.next
pub record Going (f : Facts) (x : ℕ) (r : Round) : Type 0 where
  pub goes_on : (n : ℕ) (T : List Fact) → Pending n T x f → Pending n T r.next r.facts
  pub falls : Gap f.below x → lacking r.facts.below < lacking f.below
  pub gap : (n : ℕ) (T : List Fact) → Pending n T x f → r.next ≢ 0 → Gap r.facts.below r.next
  pub top : (n : ℕ) (T : List Fact) → Pending n T x f → r.next ≡ 0 → OneElement r.facts

-- the given facts have a clash, or the variables of x became the same
abbrev pub RoundOf : Facts → ℕ → Option Round → Type 0
RoundOf f x None = (n : ℕ) (T : List Fact) → Pending n T x f → Clash n T
RoundOf f x (Some r) = Going f x r

-- settled tables of some S, where below(b,a) follows from below(a,b)
abbrev pub Joining : ℕ → Facts → Var → Var → Type 0
Joining n f a b = (S : List Fact) × Ready n S f × Settled n (below a b ∷ S) (below b a)

-- below(a,b) entered, where below(b,a) follows from it: below(b,a) is settled already, or a leaf is at or above a
abbrev pub MergedOf : ℕ → Facts → Var → Var → Option Facts → Type 0
MergedOf n f a b None = (S : List Fact) → Ready n S f → Settled n (below a b ∷ S) (below b a) → Clash n (below a b ∷ S)
MergedOf n f a b (Some g) = (S : List Fact) → Ready n S f → Settled n (below a b ∷ S) (below b a) → Ready n (below a b ∷ S) g
