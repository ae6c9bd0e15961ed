-- `answers::shorten` meets its contract: what is kept gets the same answer_judgement, whatever follows (proofs/Shorter.antt), and no byte behind it is
-- stored.
use mathlib.Core.Path.{refl, sym, ap, ◌∙◌}
use native.Mathlib.Omega.{arith}
use lib.Seq.{take-length}
use lib.ListN.{length-set}
use borrow.Author.Rules.{rules}
use Rattle.answers.proofs.Shorter.{is_shortened, stored, stored_behind, short_kept, part_kept}
use Rattle.answers.specs.Shorter.{kind_of_all}
use Rattle.answers.proofs.Steps.{quads_are}
use Rattle.answers.proofs.shorten.Goals as goal

pub returns-then-answer-ne0 : goal.returns-then-answer-ne0
returns-then-answer-ne0 c = (search rules, take-length _ ∙ sym (part_kept _ c.if-answer-ne0.true), refl)

pub returns-then-answer-lt328 : goal.returns-then-answer-lt328
returns-then-answer-lt328 c = (search rules, take-length _ ∙ sym (short_kept _ c.if-answer-lt328.true), refl)

pub bounds-answer-325 : goal.bounds-answer-325
bounds-answer-325 c = simp length-set (omega arith)

pub bounds-answer-326 : goal.bounds-answer-326
bounds-answer-326 c = simp length-set (omega arith)

pub bounds-answer-327 : goal.bounds-answer-327
bounds-answer-327 c = simp length-set (omega arith)

pub returns : goal.returns
returns c =
    let m = c.if-answer-ne0.false in
    let h = c.if-answer-lt328.false in
    let bytes = c.args.answer.now in (
      simp length-set (omega arith),
      rw (
        is_shortened _ m h,
        ← (c.kind_of_all-kind.ensures
            ∙ ap kind_of_all (quads_are _ _ c.as_chunks.ensures.front)),
      ) (stored bytes m h c.kind_of_all-kind.result),
      stored_behind bytes c.kind_of_all-kind.result,
    )
