-- What the solver answers of records over n variables, docs/FORMAT.md's numbers and values for each case of its verdict, and what it promises
-- of any bytes.
use Rattle.std.specs.Prelude.{◌≡◌, List, ℕ, ◌≤◌, length, Ok}
use Rattle.meaning.specs.Demand.{Answer, a_tree, a_none, a_spent}
use Rattle.meaning.specs.Results.{Solved, solver_refuses, solver_answers, written}
use Rattle.meaning.specs.Promises.{SolverPromise}
use Rattle.theory.specs.Programs.{solver}
use Rattle.constraints.specs.Judgement.{judgement}
use Rattle.questions.specs.declared.Question.{Question}
use Rattle.questions.specs.Number.{number}
use Rattle.solver.specs.declared.Decided.{Decided}
use Rattle.solver.specs.declared.Decided.TheVariants as decided
use Rattle.solver.specs.declared.Verdict.{Verdict}
use Rattle.solver.specs.declared.Verdict.TheVariants.{Tree, None, Spent, Refused}

-- the file is accepted, and n variables, no more than 16, are enough for its records
pub record Covers (n : ℕ) (file : List ℕ) : Type 0 where
  pub own : ℕ
  pub accepted : judgement file ≡ Ok own
  pub enough : own ≤ n
  pub few : n ≤ 16

unfoldable pub decided_as : Answer → Decided
decided_as (a_tree count bytes) = decided.Tree count
decided_as (a_none count) = decided.None count
decided_as (a_spent count) = decided.Spent count

-- r is the verdict of what the solver answers: of a tree how many bytes, of a refusal the question with its number
abbrev pub VerdictOf : Solved → Verdict → Type 0
VerdictOf (solver_answers (a_tree count bytes)) r = r ≡ Tree (length bytes) count
VerdictOf (solver_answers (a_none count)) r = r ≡ None count
VerdictOf (solver_answers (a_spent count)) r = r ≡ Spent count
VerdictOf (solver_refuses q) r = (question : Question) × (r ≡ Refused question) × (number question ≡ q)

-- r is the verdict of an answer, and `after` the buffer that it leaves
pub record AnswerOf (a : Answer) (r : Verdict) (buffer after : List ℕ) : Type 0 where
  pub verdict : VerdictOf (solver_answers a) r
  pub wrote : after ≡ written (solver_answers a) buffer

pub record SolverOf (A : ℕ) (file buffer : List ℕ) (r : Verdict) (after : List ℕ) : Type 0 where
  -- the full result, and every byte of the buffer
  pub verdict : VerdictOf (solver A file buffer) r
  pub wrote : after ≡ written (solver A file buffer) buffer
  -- which is what the demands ask, sentence by sentence
  pub promise : SolverPromise A file buffer (solver A file buffer) after
