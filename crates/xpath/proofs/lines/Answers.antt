use Rattle.std.proofs.Common.{rules, sym, ◌∙◌, Ok, Err, ◌+◌, ◌-◌, arith, lit<}
use Rattle.std.proofs.lemmas.Bool.{false≢true}
use Rattle.meaning.proofs.Tests.{is_eq, eq_yes}
use Rattle.questions.specs.declared.Question.TheVariants.{PathsForm}
use Rattle.sheet.specs.Bytes.{plain}
use Rattle.steps.proofs.Returns.{begins, past}
use Rattle.xpath.proofs.LineReturns.{lines_end, lines_over, lines_none, lines_open, lines_more}
use Rattle.xpath.proofs.lines.Goals as goal

pub returns-then-is_empty : goal.returns-then-is_empty
returns-then-is_empty c =
    let l = c.loop in
    let b = plain l.sheet in
    l.invariant.1 (Ok tt) b (lines_end l.left.now b (c.args.n - l.counter) (is_eq (sym c.if-is_empty.ensures)))

pub returns-in_default : goal.returns-in_default
returns-in_default c =
    let l = c.loop in
    let n = plain c.line.new.sheet in
    let j = c.loop-test.true in
    l.invariant.1 (Err PathsForm) n
    (lines_none l.left.now (plain l.sheet) (λ h. false≢true (c.if-is_empty.ensures ∙ eq_yes h)) n
    c.in_default.ensures.line_read (c.args.n - l.counter) (omega (arith, j)))

pub returns-in_default-rest : goal.returns-in_default-rest
returns-in_default-rest c =
    let l = c.loop in
    let n = plain c.line.new.sheet in
    let j = c.loop-test.true in
    let q = c.in-Some in
    let k = c.in_default-rest.len_below in
    l.invariant.1 (Err PathsForm) n
    (lines_open l.left.now (plain l.sheet) (λ h. false≢true (c.if-is_empty.ensures ∙ eq_yes h)) q.rest.now n
    q.ensures.line_read
    (past q.rest.now 10 (lit< tt) (λ h d. omega (arith, h, k))) (c.args.n - l.counter) (omega (arith, j)))

pub returns-in_default-rest-2 : goal.returns-in_default-rest-2
returns-in_default-rest-2 c =
    let l = c.loop in
    let n = plain c.line.new.sheet in
    let j = c.loop-test.true in
    let q = c.in-Some in
    l.invariant.1 (Err PathsForm) n
    (lines_open l.left.now (plain l.sheet) (λ h. false≢true (c.if-is_empty.ensures ∙ eq_yes h)) q.rest.now n
    q.ensures.line_read
    (past q.rest.now 10 (lit< tt) (λ h d. search rules)) (c.args.n - l.counter) (omega (arith, j)))

pub loop-preserved : goal.loop-preserved
loop-preserved c =
    let l = c.loop in
    let n = plain c.line.new.sheet in
    let j = c.loop-test.true in
    let q = c.in-Some in
    let d = begins q.rest.now 10 c.in-10.len_at_least (search rules) in (
      omega (arith, j),
      λ r t h. l.invariant.1 r t
          (lines_more l.left.now (plain l.sheet) (λ h. false≢true (c.if-is_empty.ensures ∙ eq_yes h)) q.rest.now n
          q.ensures.line_read
          (c.args.n - l.counter) (c.args.n - (l.counter + 1)) (omega (arith, j)) _ r t d h),
    )

pub returns-then-is_empty-2 : goal.returns-then-is_empty-2
returns-then-is_empty-2 c =
    let l = c.loop in
    let b = plain l.sheet in
    l.invariant.1 (Ok tt) b (lines_end l.left.now b (c.args.n - l.counter) (is_eq (sym c.if-is_empty-2.ensures)))

pub returns-else-is_empty-2 : goal.returns-else-is_empty-2
returns-else-is_empty-2 c =
    let l = c.loop in
    let b = plain l.sheet in
    let j = c.loop-test.false in
    l.invariant.1 (Err PathsForm) b
    (lines_over l.left.now b (λ h. false≢true (c.if-is_empty-2.ensures ∙ eq_yes h)) (c.args.n - l.counter)
    (omega (arith, j)))
