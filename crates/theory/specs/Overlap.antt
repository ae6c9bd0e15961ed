-- The rules of before (docs/FORMAT.md, "The chain join's overlap"), by which the second alternative of a chain join admitted both variables on one node,
-- as the first does, and what is owed beside them (proofs/Overlap.antt). Nothing that runs cites them.
use Rattle.std.specs.Prelude.{◌≡◌, List, [], ◌∷◌, ℕ, ◌≤◌}
use Rattle.meaning.specs.Constraint.{Constraint, Fact, below, facts_of}
use Rattle.meaning.specs.FixedSearch.{parent_join, chain_join, sibling_join, document_join, Join, join, second_alternative, Outcome}
use Rattle.meaning.specs.Demand.{Answer, a_tree, a_none, a_spent, count_of, Answers, Demand3}
use Rattle.theory.specs.Search.{EndsBy, search_by}
use Rattle.theory.specs.Solve.{answer}

-- "below(x,y), then below(y,x)"
abbrev pub second_before : Join → List Fact
second_before (join parent_join z x y) = second_alternative (join parent_join z x y)
second_before (join chain_join z x y) = below y x ∷ []
second_before (join sibling_join y a x) = second_alternative (join sibling_join y a x)
second_before (join document_join r y w) = second_alternative (join document_join r y w)

-- what was answered under the allowance A by the rules of before
pub record AnsweredBefore (A n : ℕ) (cs : List Constraint) (was : Answer) : Type 0 where
  pub outcome : Outcome
  pub count : ℕ
  pub ends : EndsBy second_before n (facts_of cs) outcome count
  pub answers : Answers A n outcome count was

-- the same, computed
unfoldable pub solve_before : ℕ → ℕ → List Constraint → Answer
solve_before A n cs = answer A n (search_by second_before n (facts_of cs))

-- "under one allowance a tree stays that tree, a none stays none and no count rises": of what it was and what it is
pub record Stays (was is : Answer) : Type 0 where
  pub tree : {c : ℕ} {bs : List ℕ} → was ≡ a_tree c bs → (d : ℕ) × (is ≡ a_tree d bs)
  pub none : {c : ℕ} → was ≡ a_none c → (d : ℕ) × (is ≡ a_none d)
  pub no_more : count_of is ≤ count_of was

-- the same verdict, with the same bytes
abbrev pub SameVerdict : Answer → Answer → Type 0
SameVerdict (a_tree c bs) (a_tree d ds) = bs ≡ ds
SameVerdict (a_none c) (a_none d) = Unit {0}
SameVerdict (a_spent c) (a_spent d) = Unit {0}
SameVerdict (a_tree c bs) (a_none d) = ⊥
SameVerdict (a_tree c bs) (a_spent d) = ⊥
SameVerdict (a_none c) (a_tree d ds) = ⊥
SameVerdict (a_none c) (a_spent d) = ⊥
SameVerdict (a_spent c) (a_tree d ds) = ⊥
SameVerdict (a_spent c) (a_none d) = ⊥

-- What is owed, of any answers that the rules of before gave and that demand 3 promises.
pub record Overlap (n : ℕ) (cs : List Constraint) : Type 0 where
  pub stays : {A : ℕ} {was is : Answer} → AnsweredBefore A n cs was → Demand3 A n cs is → Stays was is
  -- a verdict where it was spent is the one that the rules of before came to under a larger allowance B
  pub sooner : {A B : ℕ} {was is : Answer} → AnsweredBefore B n cs was → ¬ (was ≡ a_spent B) → Demand3 A n cs is → ¬ (is ≡ a_spent A) → SameVerdict was is
