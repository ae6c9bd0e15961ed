-- The number that C is told of each verdict of the solver.
use mathlib.Core.Path.{◌≡◌, sym, ap, ◌∙◌}
use mathlib.Core.List.{List}
use Prim.Native.Nat.{ℕ}
use Rattle.meaning.specs.Demand.{a_tree, a_none, a_spent}
use Rattle.meaning.specs.Results.{Solved, solver_refuses, solver_answers, told, solved_number}
use Rattle.theory.specs.Programs.{solver}
use Rattle.questions.specs.Number.{number as question_number}
use Rattle.solver.specs.Solving.{VerdictOf, SolverOf}
use Rattle.solver.specs.declared.Verdict.{Verdict}
use Rattle.solver.specs.declared.Verdict.TheVariants.{Tree, None, Spent, Refused}
use Rattle.capi.specs.Solves.{Solves}

-- verdict, middle and low of each
unfoldable pub number : Verdict → ℕ
number (Tree bytes count) = told 0 bytes count
number (None count) = told 1 0 count
number (Spent count) = told 2 0 count
number (Refused q) = told 3 0 (question_number q)

number_is : (s : Solved) (r : Verdict) → VerdictOf s r → number r ≡ solved_number s
unfolding number solved_number
number_is (solver_answers (a_tree c bs)) r v = ap number v
number_is (solver_answers (a_none c)) r v = ap number v
number_is (solver_answers (a_spent c)) r v = ap number v
number_is (solver_refuses q) r v = ap number v.1 ∙ ap (told 3 0) v.2

module _ (A : ℕ) (file buffer : List ℕ) (r : Verdict) (after : List ℕ) (w : SolverOf A file buffer r after) where
  pub solves : {v : Verdict} → r ≡ v → (m : ℕ) → m ≡ number v → Solves A file buffer m after
  solves e m d = record {
    number = d ∙ ap number (sym e) ∙ number_is (solver A file buffer) r w.verdict;
    wrote = w.wrote;
    promise = w.promise;
  }
