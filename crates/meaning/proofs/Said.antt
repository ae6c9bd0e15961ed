-- What the solver's answers say of the constraints: none that they cannot be met, a tree that they can. So none, where it is not spent, is said
-- exactly of constraints that cannot be met.
use mathlib.Core.Path.{◌≡◌, refl, sym, ap, ◌∙◌, subst}
use mathlib.Core.Logic.{◌↔◌}
use mathlib.Core.List.{List}
use Prim.Native.Nat.{ℕ, ◌≤◌}
use native.Mathlib.Nat.{le_refl}
use native.Mathlib.Decide.{dec_le}
use native.Mathlib.Omega.{arith}
use lib.ListN.{length}
use Rattle.meaning.specs.Constraint.{Constraint, CanBeMet, vars}
use Rattle.meaning.specs.FixedSearch.{Outcome, in_none, in_tree}
use Rattle.meaning.specs.ReadOff.{tree_of}
use Rattle.meaning.specs.Demand.{Answer, a_tree, a_none, a_spent, count_of, FixedSearch, Demand3}
use Rattle.meaning.specs.Files.{accepted, judge, assigned}
use Rattle.meaning.specs.Results.{Solved, solver_answers}
use Rattle.meaning.specs.Promises.{Answered, SolverPromise}
use Rattle.meaning.specs.Shuffled.{SaysNone, SaysSpent}

-- ---- demand 3

-- the fixed search ends in none exactly when the constraints cannot be met
pub none_cannot : {n c : ℕ} {cs : List Constraint} {o : Outcome} → FixedSearch n cs o c → (o ≡ in_none) ↔ (¬ CanBeMet n cs)
none_cannot f = (
  λ e w. f.none_iff.0 e w.tree w.is_tree w.assignment w.meets,
  λ g. f.none_iff.1 (λ t i a m. g (record { tree = t; is_tree = i; assignment = a; meets = m })),
)

module _ {A n : ℕ} {cs : List Constraint} {r : Answer} (d : Demand3 A n cs r) where
  -- none is answered only where the search ends in none
  pub none_ends : {c : ℕ} → r ≡ a_none c → d.outcome ≡ in_none
  none_ends q = go (dec_le d.count A)
    where
      by : d.count ≤ A → (o : Outcome) → d.outcome ≡ o → d.outcome ≡ in_none
      by l in_none e = e
      by l (in_tree R) e = absurd (let w = d.search.decided e in let h = d.answers.tree l e w.0 w.1 in let z : ◌≡◌ {A = ℕ} 0 1 = cc in omega arith)

      go : Dec (d.count ≤ A) → d.outcome ≡ in_none
      go (yes l) = by l d.outcome refl
      go (no l) = absurd (let h = d.answers.spent_iff.0 (omega arith) in let z : ◌≡◌ {A = ℕ} 0 1 = cc in omega arith)

  -- the count that is told is within the allowance
  pub count_within : count_of r ≤ A
  count_within = go (dec_le d.count A)
    where
      counted : {q : Answer} → r ≡ q → count_of q ≤ A → count_of r ≤ A
      counted e l = subst (λ (a : Answer). count_of a ≤ A) (sym e) l

      by : d.count ≤ A → (o : Outcome) → d.outcome ≡ o → count_of r ≤ A
      by l in_none e = counted (d.answers.none l e) l
      by l (in_tree R) e = let w = d.search.decided e in counted (d.answers.tree l e w.0 w.1) l

      go : Dec (d.count ≤ A) → count_of r ≤ A
      go (yes l) = by l d.outcome refl
      go (no l) = counted (d.answers.spent_iff.0 (omega arith)) (le_refl A)

  none_due : ¬ (r ≡ a_spent A) → ¬ CanBeMet n cs → r ≡ a_none d.count
  none_due spent g = go (dec_le d.count A)
    where
      go : Dec (d.count ≤ A) → r ≡ a_none d.count
      go (yes l) = d.answers.none l ((none_cannot d.search).1 g)
      go (no l) = absurd (spent (d.answers.spent_iff.0 (omega arith)))

-- ---- the promise, of an accepted file

module _ {A : ℕ} {file buffer after : List ℕ} {r : Solved} {cs : List Constraint} (p : SolverPromise A file buffer r after) (e : judge file ≡ accepted cs) where
  -- an answer is given only where question 7 is passed
  pub answered : {a : Answer} → r ≡ solver_answers a → (136 ≤ length buffer) × Answered A (vars cs) cs a
  answered {a} q = go (dec_le 136 (length buffer))
    where
      go : Dec (136 ≤ length buffer) → (136 ≤ length buffer) × Answered A (vars cs) cs a
      go (no l) = absurd (let s = p.short_buffer e (omega arith) in let z : ◌≡◌ {A = ℕ} 0 1 = cc in omega arith)
      go (yes l) = let w = p.answers e l in let s : w.0 ≡ a = (let h = w.1 in cc) in (l, subst (Answered A (vars cs) cs) s w.2)

  pub said_none : SaysNone r → ¬ CanBeMet (vars cs) cs
  said_none q = let d = (answered q.1).1.demand_3 in (none_cannot d.search).0 (none_ends d refl)

  -- the answer file is one that the marker says met of
  pub said_tree : {c : ℕ} {bs : List ℕ} → r ≡ solver_answers (a_tree c bs) → CanBeMet (vars cs) cs
  said_tree q =
      let f = (answered q).1.good_file refl in
      record {
        tree = tree_of f.tree_nodes;
        is_tree = f.right.is_tree;
        assignment = assigned f.tree_places;
        meets = f.right.met_iff.0 refl;
      }

  pub says_none : ¬ SaysSpent r → 136 ≤ length buffer → ¬ CanBeMet (vars cs) cs → SaysNone r
  says_none f l g =
      let w = p.answers e l in
      let d = w.2.demand_3 in
      (d.count, w.1 ∙ ap solver_answers (none_due d (λ s. f (A, w.1 ∙ ap solver_answers s)) g))
