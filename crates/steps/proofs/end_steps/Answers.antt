use Rattle.std.proofs.Common.{rules, refl, ap, length, arith, lit<}
use Rattle.sheet.specs.Bytes.{plain}
use Rattle.theory.specs.PathReader.{goes_on}
use Rattle.steps.proofs.Returns.{begins, past}
use Rattle.steps.proofs.EndReturns.{end_not, end_bad, end_one, end_more}
use Rattle.steps.proofs.end_steps.Goals as goal

pub returns-in_err-axis-clause-end_read : goal.returns-in_err-axis-clause-end_read
returns-in_err-axis-clause-end_read c =
    let l = c.loop-axis in
    let b = plain l.sheet in
    rw c.from_residual.ensures (l.invariant.1 _ b (end_not l.left.now l.from b b c.in_err-axis.ensures.value))

pub returns-in_err-rest-clause-end_read : goal.returns-in_err-rest-clause-end_read
returns-in_err-rest-clause-end_read c =
    let l = c.loop-axis in
    let m = c.in_ok-axis in
    let n = c.end_number-y in
    let p = c.put_move in
    let q = plain c.brackets.new.sheet in
    rw c.from_residual-in_err-rest.ensures (l.invariant.1 _ q
    (end_bad l.left.now l.from (plain l.sheet) m.axis m.test m.tested m.ensures.value m.ensures.shorter n.result
    (plain n.new.sheet) (plain p.new.self)
    p.ensures q c.in_err-rest.ensures.brackets_read (goes_on 0 m.tested.now) n.ensures.value n.ensures.wrote))

pub returns-in_default-clause-end_read : goal.returns-in_default-clause-end_read
returns-in_default-clause-end_read c =
    let l = c.loop-axis in
    let m = c.in_ok-axis in
    let n = c.end_number-y in
    let p = c.put_move in
    let q = plain c.brackets.new.sheet in
    let r = c.in_ok-rest in
    l.invariant.1 _ q
    (end_one l.left.now l.from (plain l.sheet) m.axis m.test m.tested m.ensures.value m.ensures.shorter n.result
    (plain n.new.sheet) (plain p.new.self)
    p.ensures q r.rest.now r.ensures.brackets_read (goes_on 0 m.tested.now) refl n.ensures.value n.ensures.wrote
    (past r.rest.now 47 (lit< tt) (λ h d. search rules)))

pub loop-axis-preserved : goal.loop-axis-preserved
loop-axis-preserved c =
    let l = c.loop-axis in
    let m = c.in_ok-axis in
    let n = c.end_number-y in
    let p = c.put_move in
    let q = plain c.brackets.new.sheet in
    let r = c.in_ok-rest in
    let d = begins r.rest.now 47 c.in-47.len_at_least (search rules) in
    let w = ap length d in (
      omega (arith, w, r.ensures.no_longer, m.ensures.shorter, l.invariant.0),
      λ a t h. l.invariant.1 a t
          (end_more l.left.now l.from (plain l.sheet) m.axis m.test m.tested m.ensures.value m.ensures.shorter n.result
          (plain n.new.sheet) (plain p.new.self)
          p.ensures q r.rest.now r.ensures.brackets_read (goes_on 0 m.tested.now) refl n.ensures.value n.ensures.wrote
          _ a t d r.ensures.no_longer h),
    )
