-- The text of a verdict of the code.
use Rattle.std.specs.Prelude.{List, ℕ}
use Rattle.meaning.specs.Demand.{a_tree, a_none, a_spent}
use Rattle.meaning.specs.Results.{solver_refuses, solver_answers}
use Rattle.meaning.specs.Text.{solved_text, marked_text}
use Rattle.questions.specs.Number.{number}
use Rattle.marker.specs.Verdict.{marked_of}
use Rattle.marker.specs.declared.Verdict.{Verdict as MarkerVerdict}
use Rattle.solver.specs.declared.Verdict.{Verdict}
use Rattle.solver.specs.declared.Verdict.TheVariants.{Tree, None, Spent, Refused}

-- a verdict with the bytes of its answer file, if it is a tree's
unfoldable pub solver_text : Verdict → List ℕ → List ℕ
solver_text (Tree bytes count) answer = solved_text (solver_answers (a_tree count answer))
solver_text (None count) answer = solved_text (solver_answers (a_none count))
solver_text (Spent count) answer = solved_text (solver_answers (a_spent count))
solver_text (Refused question) answer = solved_text (solver_refuses (number question))

unfoldable pub bytes_of : Verdict → ℕ
bytes_of (Tree bytes count) = bytes
bytes_of (None count) = 0
bytes_of (Spent count) = 0
bytes_of (Refused question) = 0

abbrev pub marker_text : MarkerVerdict → List ℕ
marker_text v = marked_text (marked_of v)
