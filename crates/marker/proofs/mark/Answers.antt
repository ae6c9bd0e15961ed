-- `marker::mark` meets its contract: the equation is that of the answer's part, and the promise is the theory's of the meaning's marker.
use mathlib.Core.Path.{sym}
use native.Mathlib.Omega.{arith}
use Rattle.theory.proofs.Promises.{marker_promise}
use Rattle.marker.proofs.Answered.{file_refused}
use Rattle.theory.proofs.ConstraintFile.{bytes}
use Rattle.marker.specs.Verdict.{marked_of}
use Rattle.marker.proofs.mark.Goals as goal

pub returns-in-Err : goal.returns-in-Err
unfolding marked_of
returns-in-Err c =
    let e = sym (file_refused c.args.constraints.now c.args.answer.now (sym c.in-Err.ensures)) in
    record { is = e; promise = rw e (marker_promise _ _ (bytes _ (λ i. omega (arith, c.type_inv.answer i)))) }

pub mark_answer-requires : goal.mark_answer-requires
mark_answer-requires c = sym c.in-Ok.ensures

pub returns-in-Ok : goal.returns-in-Ok
returns-in-Ok c = record {
  is = c.mark_answer.ensures;
  promise = rw c.mark_answer.ensures (marker_promise _ _ (bytes _ (λ i. omega (arith, c.type_inv.answer i))));
}
