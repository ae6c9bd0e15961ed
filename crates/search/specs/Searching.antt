-- What a line of the search starts from, and what it reports of the fixed search.
use Rattle.std.specs.Prelude.{◌≡◌, Bool, false, ℕ, ◌+◌, ◌≤◌, ◌<◌, Option, Some, None, MatchOption}
use mathlib.Core.List.{List, ◌++◌, Memᴰ}
use Rattle.std.proofs.Math.Option.{none, some}
use Rattle.meaning.specs.Constraint.{Fact, below}
use Rattle.meaning.specs.Settled.{Clash}
use Rattle.meaning.specs.Finite.{Yes}
use Rattle.meaning.specs.FixedSearch.{Join, first_alternative, second_alternative, Outcome, in_none, in_tree}
use Rattle.meaning.specs.Closed.{Inside}
use Rattle.theory.specs.Search.{first_join, search}
use Rattle.tables.specs.Tables.{has, showing, Ready}
use Rattle.tables.specs.declared.Facts.{Facts}
use Rattle.enter.specs.Entered.{entering, Forked}
use Rattle.search.specs.declared.Below.{Below}
use Rattle.search.specs.declared.Split.{Split}
use Rattle.search.specs.declared.Shown.{Shown}
use Rattle.search.specs.declared.End.{End}
use Rattle.search.specs.declared.End.TheVariants as end
use Rattle.search.specs.declared.Searched.{Searched}

-- ---- one step

abbrev pub fact : Below → Fact
fact p = below p.upper.0 p.lower.0

pub record PairInside (n : ℕ) (p : Below) : Type 0 where
  pub upper : p.upper.0 < n
  pub lower : p.lower.0 < n

-- p, and with `apart` that its variables differ
abbrev pub facts : Below → Bool → List Fact
facts p = entering p.upper.0 p.lower.0

-- entering these into the settled set of S is entering the facts A, of which p is one
pub record Enters (n : ℕ) (S : List Fact) (p : Below) (apart : Bool) (A : List Fact) : Type 0 where
  pub one : Memᴰ (fact p) A
  pub ready : {g : Facts} → Ready n (facts p apart ++ S) g → Ready n (A ++ S) g
  pub clash : Clash n (facts p apart ++ S) → Clash n (A ++ S)

-- p enters the first alternative of the first join, and q the second, with `apart`
pub record Alternatives (n : ℕ) (S : List Fact) (f : Facts) (p q : Below) (apart : Bool) : Type 0 where
  pub join : Join
  pub is_first : first_join n (has f) ≡ some join
  pub first : Enters n S p false (first_alternative join)
  pub second : Enters n S q apart (second_alternative join)

-- no join is left, or what the two alternatives of the first join enter
abbrev pub StepOf : ℕ → Facts → Option Split → Type 0
StepOf n f None = (S : List Fact) → Ready n S f → first_join n (has f) ≡ none
StepOf n f (Some s) =
    PairInside n s.first × PairInside n s.second × (Yes s.apart → Forked f s.second.upper.0 s.second.lower.0)
    × ((S : List Fact) → Ready n S f → Alternatives n S f s.first s.second s.apart)

-- ---- a line

abbrev pub tables_of : (child parent below above differ before after label : List ℕ) (root leaf : ℕ) → Facts
tables_of c p b a d e s l r f = record { child = c; parent = p; below = b; above = a; differ = d; before = e; after = s; root = r; label = l; leaf = f }

-- tables that were settled for S: they decide its settled set, or S has a clash
pub record Line (n : ℕ) (S : List Fact) (s : Option Facts) : Type 0 where
  pub inside : Inside n S
  pub settled : MatchOption s (Clash n S) (Ready n S)

-- an end without a tree, after c alternatives in all
abbrev pub without_tree : End → ℕ → Searched
without_tree e c = record { count = c; end = e }

-- the rows that s shows are those of tables that decide the settled set of R
abbrev pub TreeRows : ℕ → List Fact → Shown → Type 0
TreeRows n R s = (g : Facts) × Ready n R (showing s.below s.above s.after s.label s.root g)

-- r reports a search that ends in o after entering c alternatives in all
pub record Reports (A n : ℕ) (o : Outcome) (c : ℕ) (r : Searched) : Type 0 where
  pub spent : A < c → r ≡ without_tree end.Spent A
  pub none : c ≤ A → o ≡ in_none → r ≡ without_tree end.None c
  pub tree : c ≤ A → {R : List Fact} → o ≡ in_tree R → (s : Shown) × (r.end ≡ end.Tree s) × (r.count ≡ c) × TreeRows n R s

-- the report of a search of S, with k alternatives entered before
abbrev pub Report : ℕ → ℕ → ℕ → List Fact → Searched → Type 0
Report A n k S r = Reports A n (search n S).outcome (k + (search n S).count) r

abbrev pub LineOf : ℕ → ℕ → Facts → ℕ → Searched → Type 0
LineOf A n f k r = (S : List Fact) → Ready n S f → Report A n k S r

abbrev pub SearchedOf : ℕ → ℕ → Option Facts → ℕ → Searched → Type 0
SearchedOf A n s k r = (S : List Fact) → Line n S s → Report A n k S r
