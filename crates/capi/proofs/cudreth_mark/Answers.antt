-- `capi::cudreth_mark` meets its contract: verdict by verdict, with the promise of `marker::mark`. The sum fits, since a position is below 256 and a kind at most 8.
use mathlib.Core.Path.{◌≡◌, sym, ap, subst, ◌∙◌}
use mathlib.Core.List.{List}
use Prim.Native.Nat.{ℕ}
use native.Mathlib.Omega.{arith}
use Rattle.marker.proofs.Position.{position_small, kind_small}
use Rattle.theory.proofs.ConstraintFile.{bytes}
use Rattle.marker.specs.Verdict.{marked_of}
use Rattle.meaning.specs.Results.{Marked, told, marked_number}
use Rattle.meaning.specs.Promises.{MarkerPromise}
use Rattle.theory.specs.Programs.{marker}
use Rattle.capi.specs.Grades.{Grades}
use Rattle.capi.proofs.cudreth_mark.Goals as goal

-- a marker's answer that is the definition's, and keeps the promise
grades : {file answer : List ℕ} {m : Marked} {r : ℕ} → m ≡ marker file answer → MarkerPromise file answer m → r ≡ marked_number m → Grades file answer r
grades {file} {answer} e p d = record { number = d ∙ ap marked_number e; promise = subst (MarkerPromise file answer) e p }

pub overflow_cast-number : goal.overflow_cast-number
overflow_cast-number c = omega (arith, c.number.ensures, kind_small c.in-Unmet.kind)

pub overflow_cast-position : goal.overflow_cast-position
unfolding marked_of
overflow_cast-position c =
    let file = c.args.constraints.now in
    let small = position_small file c.args.answer.now (bytes file (λ i. omega (arith, c.type_inv.constraints i)))
    (sym c.mark-verdict.ensures.is ∙ ap marked_of c.in-Unmet.is) in
    omega (arith, small)

pub returns-in-Met : goal.returns-in-Met
unfolding marked_number marked_of
returns-in-Met c = grades c.mark-verdict.ensures.is c.mark-verdict.ensures.promise (rw c.in-Met.is c.packed.ensures)

pub returns-in-Unmet : goal.returns-in-Unmet
unfolding marked_number marked_of
returns-in-Unmet c =
    let w = c.mark-verdict.ensures in grades w.is w.promise (rw (c.in-Unmet.is, ← c.number.ensures) c.packed-in-Unmet.ensures)

pub returns-in-Refused : goal.returns-in-Refused
unfolding marked_number marked_of
returns-in-Refused c = let w = c.mark-verdict.ensures in grades w.is w.promise (rw c.in-Refused.is c.refused.ensures)
