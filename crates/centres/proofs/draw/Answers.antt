-- `draw`: after the loop the question is that of the claims of all, and each way to end is one of three.
use mathlib.Core.Path.{◌∙◌}
use Rattle.std.proofs.Common.{◌<◌, ◌≤◌, ℕ, length, Fits, w32, arith, rules}
use Rattle.centres.proofs.Claims.{one_on}
use Rattle.centres.proofs.Asked.{ends_long, ends_missing, own_found, own_missing, asked, ends_refused, granted_cap, ends_granted}
use Rattle.centres.proofs.draw.Goals as goal
use Rattle.std.proofs.lemmas.Result.{err_from_is_err_and}

fits_32 : (m k : ℕ) → Fits w32 k → m ≤ k → Fits w32 m
fits_32 m k f l = omega (arith, f, l)

pub returns : goal.returns
returns c =
    let o = own_found _ _ _ c.get.ensures.lookup c.copied.ensures c.ok_or.ensures.value c.in_ok-own.was in
    let a = asked _ _ _ _ o c.loop-c.invariant c.ranges.total.fits c.if-centres-gt-MOST.false c.loop-c-test.false in
    ends_granted _ _ _ _ o (c.in_ok-question.ensures ∙ a)

pub returns-then-centres-gt-MOST : goal.returns-then-centres-gt-MOST
returns-then-centres-gt-MOST c = let h : 8 < length c.args.centres.now = omega arith in ends_long _ _ _ _ h

pub loop-c-preserved : goal.loop-c-preserved
loop-c-preserved c =
    let w = c.with_claim-claims.ensures in
    one_on c.loop-c.invariant c.loop-c-test.true w.sum w.small

pub returns-in_err-own : goal.returns-in_err-own
returns-in_err-own c =
    let m = own_missing _ _ _ c.get.ensures.lookup c.copied.ensures c.ok_or.ensures.value c.in_err-own.was in
    let p = err_from_is_err_and c.from_residual.result c.from_residual.ensures.1 in
    rw p.1 (rw p.2 (rw m.1 (ends_missing _ _ _ _ m.0)))

pub returns-in_err-question : goal.returns-in_err-question
returns-in_err-question c =
    let p = err_from_is_err_and c.from_residual-in_err-question.result c.from_residual-in_err-question.ensures.1 in
    let o = own_found _ _ _ c.get.ensures.lookup c.copied.ensures c.ok_or.ensures.value c.in_ok-own.was in
    let a = asked _ _ _ _ o c.loop-c.invariant c.ranges.total.fits c.if-centres-gt-MOST.false c.loop-c-test.false in
    rw p.1 (rw p.2 (ends_refused _ _ _ _ (c.in_err-question.ensures ∙ a)))

pub overflow_add-centres : goal.overflow_add-centres
overflow_add-centres c =
    let o = own_found _ _ _ c.get.ensures.lookup c.copied.ensures c.ok_or.ensures.value c.in_ok-own.was in
    let a = asked _ _ _ _ o c.loop-c.invariant c.ranges.total.fits c.if-centres-gt-MOST.false c.loop-c-test.false in
    fits_32 _ _ (search rules) (granted_cap _ _ _ _ o (c.in_ok-question.ensures ∙ a))
