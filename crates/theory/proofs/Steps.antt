-- One step of the fixed search, as a machine goes: what the search of S is, from whether S has a clash, from its first join, and from
-- the searches of the two alternatives.
use mathlib.Core.Path.{◌≡◌, subst}
use mathlib.Core.List.{List, ◌++◌}
use mathlib.Core.Option.{none, some}
use Prim.Native.Nat.{ℕ, ◌+◌}
use Rattle.meaning.specs.Constraint.{Fact}
use Rattle.meaning.specs.Settled.{Clash}
use Rattle.meaning.specs.FixedSearch.{Join, first_alternative, second_alternative, FirstJoin, Outcome, in_none, in_tree, Ends, clashed, solved, in_first, in_second}
use Rattle.meaning.specs.ReadOff.{FactSet, Decides}
use Rattle.meaning.specs.Closed.{Inside}
use Rattle.theory.specs.Search.{first_join, search}
use Rattle.theory.proofs.Absent.{Adds, first_adds, second_adds}
use Rattle.theory.proofs.Ends.{ends_unique}
use Rattle.theory.proofs.Search.{search_ends, no_join_left, first_join_found}

-- how the fixed search of S ends
pub record EndsAs (n : ℕ) (S : List Fact) (o : Outcome) (c : ℕ) : Type 0 where
  pub outcome : (search n S).outcome ≡ o
  pub count : (search n S).count ≡ c

as_ends : (n : ℕ) (S : List Fact) → Inside n S → {o : Outcome} {c : ℕ} → EndsAs n S o c → Ends n S o c
as_ends n S ins {c = c} w =
    subst (λ (q : Outcome). Ends n S q c) w.outcome (subst (λ (k : ℕ). Ends n S (search n S).outcome k) w.count (search_ends n S ins))

module _ (n : ℕ) (S : List Fact) (ins : Inside n S) where
  pub ends_as : {o : Outcome} {c : ℕ} → Ends n S o c → EndsAs n S o c
  ends_as e = let w = ends_unique n (search_ends n S ins) e in record { outcome = w.0; count = w.1 }

  pub search_clash : Clash n S → EndsAs n S in_none 0
  search_clash c = ends_as (clashed c)

  module _ (free : ¬ Clash n S) (h : FactSet) (d : Decides n S h) where
    pub search_solved : first_join n h ≡ none → EndsAs n S (in_tree S) 0
    search_solved e = ends_as (solved free (no_join_left n S ins h d e))

    module _ (j : Join) (e : first_join n h ≡ some j) where
      first_is : FirstJoin n S j
      first_is = first_join_found n S ins h d j e

      pub adds_first : Adds n S (first_alternative j)
      adds_first = first_adds n S ins j first_is.is_join

      pub adds_second : Adds n S (second_alternative j)
      adds_second = second_adds n S ins j first_is.is_join

      pub search_first : {R : List Fact} {c : ℕ} → EndsAs n (first_alternative j ++ S) (in_tree R) c → EndsAs n S (in_tree R) (1 + c)
      search_first w = ends_as (in_first j free first_is (as_ends n _ adds_first.inside w))

      pub search_second : {o : Outcome} {c k : ℕ} → EndsAs n (first_alternative j ++ S) in_none c → EndsAs n (second_alternative j ++ S) o k → EndsAs n S o (2 + c + k)
      search_second w v = ends_as (in_second j free first_is (as_ends n _ adds_first.inside w) (as_ends n _ adds_second.inside v))
