use Rattle.std.proofs.Common.{rules, sym, ap, ◌∙◌, length, arith, lit<}
use Rattle.meaning.specs.Paths.{is_small}
use Rattle.sheet.specs.Bytes.{plain}
use Rattle.steps.proofs.Returns.{begins, past, path_here, path_alone, path_root, steps_bad, steps_one, steps_more, step_not, step_is, brackets_none, brackets_bad, brackets_open, brackets_more}
use Rattle.steps.proofs.+brackets_path_step_steps.Goals as goal

pub brackets-returns-in_err-rest-clause-brackets_read : goal.brackets-returns-in_err-rest-clause-brackets_read
brackets-returns-in_err-rest-clause-brackets_read t c =
    let l = c.loop-left in
    let s = l.left.now in
    let e = begins s 91 c.in-91.len_at_least (search rules) in
    let n = plain c.path.new.sheet in
    rw c.from_residual.ensures (l.invariant.1 _ n (brackets_bad s c.args.y
    (plain l.sheet) _ e n c.in_err-rest.ensures.path_read))

pub brackets-returns-in_default-rest-clause-brackets_read : goal.brackets-returns-in_default-rest-clause-brackets_read
brackets-returns-in_default-rest-clause-brackets_read t c =
    let l = c.loop-left in
    let s = l.left.now in
    let e = begins s 91 c.in-91.len_at_least (search rules) in
    let n = plain c.path.new.sheet in
    let r = c.in_ok-rest in
    l.invariant.1 _ n
    (brackets_open s c.args.y (plain l.sheet) _ e r.rest.now n r.ensures.path_read
    (past r.rest.now 93 (lit< tt) (λ h d. search rules)))

pub brackets-loop-left-preserved : goal.brackets-loop-left-preserved
brackets-loop-left-preserved t c =
    let l = c.loop-left in
    let s = l.left.now in
    let e = begins s 91 c.in-91.len_at_least (search rules) in
    let n = plain c.path.new.sheet in
    let r = c.in_ok-rest in
    let d = begins r.rest.now 93 c.in-93.len_at_least (search rules) in
    let z = ap length e in
    let w = ap length d in (
      omega (arith, z, w, r.ensures.shorter, l.invariant.0),
      λ q m h. l.invariant.1 q m
          (brackets_more s c.args.y (plain l.sheet) _ e r.rest.now n r.ensures.path_read _ q m d r.ensures.shorter h),
    )

pub brackets-returns-clause-brackets_read : goal.brackets-returns-clause-brackets_read
brackets-returns-clause-brackets_read t c =
    let l = c.loop-left in
    let s = l.left.now in
    l.invariant.1 _ _ (brackets_none s c.args.y (plain l.sheet) (past s 91 (lit< tt) (λ h d. search rules)))

pub path-returns-in_default-clause-path_read : goal.path-returns-in_default-clause-path_read
path-returns-in_default-clause-path_read t c =
    let a = c.args in
    path_here a.s.now a.x (plain a.sheet.now) _ (plain c.steps.new.sheet)
    (past a.s.now 47 (lit< tt) (λ h d. search rules)) c.steps.ensures.steps_read

pub path-returns-then-is_small-clause-path_read : goal.path-returns-then-is_small-clause-path_read
path-returns-then-is_small-clause-path_read t c =
    let a = c.args in
    let e = begins a.s.now 47 c.in-47.len_at_least (search rules) in
    let w = c.rooted-root in
    let n = sym (ap is_small c.byte_at.ensures) ∙ sym c.if-is_small.ensures in
    let q = c.steps-then-is_small in
    path_root a.s.now a.x (plain a.sheet.now) _ e a.sheet.now.some (plain w.new.self) w.ensures.wrote _ w.result
    (plain q.new.sheet) w.ensures.value n
    q.ensures.steps_read

pub path-returns-clause-path_read : goal.path-returns-clause-path_read
path-returns-clause-path_read t c =
    let a = c.args in
    let e = begins a.s.now 47 c.in-47.len_at_least (search rules) in
    let w = c.rooted-root in
    let n = sym (ap is_small c.byte_at.ensures) ∙ sym c.if-is_small.ensures in
    path_alone a.s.now a.x (plain a.sheet.now) _ e a.sheet.now.some (plain w.new.self) w.ensures.wrote n

pub step-returns-in_err-axis-clause-step_read : goal.step-returns-in_err-axis-clause-step_read
step-returns-in_err-axis-clause-step_read t c =
    let a = c.args in
    let b = plain a.sheet.now in
    rw c.from_residual.ensures (step_not a.s.now a.x a.y b b c.in_err-axis.ensures.value)

pub step-returns-clause-step_read : goal.step-returns-clause-step_read
step-returns-clause-step_read t c =
    let a = c.args in
    let m = c.in_ok-axis in
    let p = c.put_move in
    let q = c.brackets in
    step_is a.s.now a.x a.y (plain a.sheet.now) m.axis m.test m.rest m.ensures.value m.ensures.shorter
    (plain p.new.self) _ (plain q.new.sheet)
    p.ensures q.ensures.brackets_read

pub steps-returns-in_err-rest-clause-steps_read : goal.steps-returns-in_err-rest-clause-steps_read
steps-returns-in_err-rest-clause-steps_read t c =
    let l = c.loop-rest in
    let n = c.number-y in
    let q = plain c.step.new.sheet in
    rw c.from_residual.ensures (l.invariant.1 _ q
    (steps_bad l.left.now l.from (plain l.sheet) (plain n.new.self) n.ensures.wrote n.result n.ensures.value q
    c.in_err-rest.ensures.step_read))

pub steps-returns-in_default-clause-steps_read : goal.steps-returns-in_default-clause-steps_read
steps-returns-in_default-clause-steps_read t c =
    let l = c.loop-rest in
    let n = c.number-y in
    let q = plain c.step.new.sheet in
    let r = c.in_ok-rest in
    l.invariant.1 _ q
    (steps_one l.left.now l.from (plain l.sheet) (plain n.new.self) n.ensures.wrote n.result n.ensures.value r.rest.now
    q r.ensures.step_read
    (past r.rest.now 47 (lit< tt) (λ h d. search rules)))

pub steps-loop-rest-preserved : goal.steps-loop-rest-preserved
steps-loop-rest-preserved t c =
    let l = c.loop-rest in
    let n = c.number-y in
    let q = plain c.step.new.sheet in
    let r = c.in_ok-rest in
    let d = begins r.rest.now 47 c.in-47.len_at_least (search rules) in
    let w = ap length d in (
      omega (arith, w, r.ensures.shorter, l.invariant.0),
      λ a m h. l.invariant.1 a m
          (steps_more l.left.now l.from (plain l.sheet) (plain n.new.self) n.ensures.wrote n.result n.ensures.value
          r.rest.now q r.ensures.step_read
          _ a m d r.ensures.shorter h),
    )
