use mathlib.Core.Path.{sym, ◌∙◌}
use borrow.Author.Tests.{lt-leb, le-leb, ne_eqb, eqb-true, eqb-false}
use Rattle.meaning.specs.Files.{judge}
use Rattle.meaning.specs.Finite.{pick}
use Rattle.meaning.specs.OnePass.{kept_of}
use Rattle.constraints.proofs.OnePass.{none_read, no_records, file_empty, file_read, some_records, refused_record, record_read, all_read}
use Rattle.constraints.specs.Judgement.{judgement_of, judgement}
use Rattle.constraints.proofs.judge.Goals as goal

pub returns-then-file-gt1024 : goal.returns-then-file-gt1024
unfolding judgement judgement_of kept_of judge pick
returns-then-file-gt1024 c = rw (lt-leb _ _ c.if-file-gt1024.true)

pub returns-then-not-is_empty : goal.returns-then-not-is_empty
unfolding judgement judgement_of kept_of judge pick
returns-then-not-is_empty c = rw (
  le-leb _ _ c.if-file-gt1024.false,
  ne_eqb _ _
      (λ e. eqb-false _ _ (sym c.is_empty.ensures ∙ c.if-not-is_empty.true) (c.as_chunks.ensures.back_len ∙ e)),
)

pub returns-then-is_empty : goal.returns-then-is_empty
returns-then-is_empty c =
    let q = c.as_chunks.ensures in
    let e = eqb-true _ _ (sym c.is_empty-2.ensures ∙ c.if-is_empty.true) in
    let w = eqb-true _ _ (sym c.is_empty.ensures ∙ c.if-not-is_empty.false) in
    sym (no_records _ (file_empty _ q.front_len q.back_len e w))

pub loop-kind-init : goal.loop-kind-init
loop-kind-init c = none_read _

pub returns-then-not-passes : goal.returns-then-not-passes
returns-then-not-passes c =
    let q = c.as_chunks.ensures in
    let w = sym q.back_len ∙ eqb-true _ _ (sym c.is_empty.ensures ∙ c.if-not-is_empty.false) in
    sym (refused_record _ _ c.if-file-gt1024.false w q.front q.front_len _ c.loop-kind-test.true
    c.loop-kind.invariant c.question.ensures)

pub loop-kind-preserved : goal.loop-kind-preserved
loop-kind-preserved c =
    let q = c.as_chunks.ensures in
    let w = sym q.back_len ∙ eqb-true _ _ (sym c.is_empty.ensures ∙ c.if-not-is_empty.false) in
    rw (c.max-highest.ensures, c.max.ensures)
    (record_read _ _ c.if-file-gt1024.false w q.front q.front_len _ c.loop-kind-test.true c.loop-kind.invariant
    (sym c.passes.ensures ∙ c.if-not-passes.false))

pub returns : goal.returns
returns c =
    let q = c.as_chunks.ensures in
    let l = c.loop-kind in
    let w = eqb-true _ _ (sym c.is_empty.ensures ∙ c.if-not-is_empty.false) in
    let some = some_records _ q.front_len (eqb-false _ _ (sym c.is_empty-2.ensures ∙ c.if-is_empty.false)) in
    sym (all_read _ _ _ (file_read _ l.kind-index q.front_len q.back_len c.loop-kind-test.false w) some l.invariant)
