-- The questions in order, then the answer.
use mathlib.Core.Path.{sym}
use native.Mathlib.Omega.{arith}
use Rattle.solver.proofs.Answers.{refuses_file, refuses_buffer, covers, answers_file}
use Rattle.solver.proofs.solve.Goals as goal

pub returns-then-answer-lt136 : goal.returns-then-answer-lt136
returns-then-answer-lt136 c =
    refuses_buffer _ c.args.constraints.now _ (λ i. (c.type_inv.constraints i).fits) _ (sym c.in-Ok.ensures) (omega arith)

pub solve_over-requires : goal.solve_over-requires
solve_over-requires c =
    (covers c.args.constraints.now (λ i. (c.type_inv.constraints i).fits) _ (sym c.in-Ok.ensures), omega arith)

pub returns-else-answer-lt136 : goal.returns-else-answer-lt136
returns-else-answer-lt136 c =
    answers_file _ c.args.constraints.now _ (λ i. (c.type_inv.constraints i).fits) _ (sym c.in-Ok.ensures) (omega arith) _ _
    c.solve_over.ensures

pub returns-in-Err : goal.returns-in-Err
returns-in-Err c =
    refuses_file _ c.args.constraints.now _ (λ i. (c.type_inv.constraints i).fits) _ (sym c.in-Err.ensures)
