use Rattle.std.proofs.Common.{◌≡◌, sym, ◌∙◌, length, arith}
use Rattle.std.proofs.lemmas.Result.{err_from_is_err_and}
use Rattle.std.proofs.lemmas.Bool.{false≢true}
use Rattle.meaning.proofs.Tests.{is_eq, eq_yes}
use Rattle.sheet.specs.Bytes.{plain}
use Rattle.xpath.proofs.Answering.{short_answer, long_answer, empty_answer, bad_answer, many_answer, written_answer}
use Rattle.xpath.proofs.read.Goals.{then-is_empty-via-then-is_empty, then-is_empty-via-else-is_empty+then-text-gt-TEXT}
use Rattle.xpath.proofs.read.Goals as goal

pub returns-then-records-lt-BUFFER : goal.returns-then-records-lt-BUFFER
returns-then-records-lt-BUFFER c =
    let a = c.args in
    let h = short_answer a.text.now a.records.now (omega (arith, c.if-records-lt-BUFFER.true)) in
    record { answer_of = h.0; wrote = h.1 }

pub returns-then-is_empty : goal.returns-then-is_empty
returns-then-is_empty c =
    let a = c.args in
    let l = c.if-records-lt-BUFFER.false in
    elim c.then-is_empty.branch [
      | then-is_empty-via-then-is_empty w ↦
          let h = empty_answer a.text.now a.records.now l (is_eq (sym c.is_empty.ensures ∙ w.if-is_empty.true)) in
          record { answer_of = h.0; wrote = h.1 }
      | then-is_empty-via-else-is_empty+then-text-gt-TEXT w ↦
          let h = long_answer a.text.now a.records.now l w.if-text-gt-TEXT.true in
          record { answer_of = h.0; wrote = h.1 }
    ]

pub returns-in_err-lines : goal.returns-in_err-lines
returns-in_err-lines c =
    let a = c.args in
    let l = c.if-records-lt-BUFFER.false in
    let some = λ (h : length a.text.now ≡ 0). false≢true (c.if-is_empty.ensures ∙ eq_yes h) in
    let e = c.in_err-lines in
    let h = bad_answer a.text.now a.records.now l c.if-text-gt-TEXT.false some
    (plain c.new-sheet.result) c.new-sheet.ensures (plain c.lines.new.sheet) e.field-0.0 e.ensures in
    let p = err_from_is_err_and c.from_residual.result c.from_residual.ensures.1 in
    record { answer_of = rw (p.1, p.2) h.0; wrote = h.1 }

pub returns-then-variables-gt-VARIABLES : goal.returns-then-variables-gt-VARIABLES
returns-then-variables-gt-VARIABLES c =
    let a = c.args in
    let l = c.if-records-lt-BUFFER.false in
    let some = λ (h : length a.text.now ≡ 0). false≢true (c.if-is_empty.ensures ∙ eq_yes h) in
    let m = c.if-variables-gt-VARIABLES.true in
    let n = c.variables.ensures in
    let h = many_answer a.text.now a.records.now l c.if-text-gt-TEXT.false some
    (plain c.new-sheet.result) c.new-sheet.ensures (plain c.lines.new.sheet) c.in_ok-lines.ensures
    (omega (arith, m, n)) in
    record { answer_of = h.0; wrote = h.1 }

pub returns : goal.returns
returns c =
    let a = c.args in
    let l = c.if-records-lt-BUFFER.false in
    let some = λ (h : length a.text.now ≡ 0). false≢true (c.if-is_empty.ensures ∙ eq_yes h) in
    let m = c.if-variables-gt-VARIABLES.false in
    let n = c.variables.ensures in
    let h = written_answer a.text.now a.records.now l c.if-text-gt-TEXT.false some
    (plain c.new-sheet.result) c.new-sheet.ensures (plain c.lines.new.sheet) c.in_ok-lines.ensures
    (omega (arith, m, n)) c.bytes.ensures c.put.ensures in
    record { answer_of = h.0; wrote = h.1 }
