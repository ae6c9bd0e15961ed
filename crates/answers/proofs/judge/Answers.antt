-- `answers::judge` meets its contract: each test that refuses is the next question in the code's terms (proofs/Questions.antt).
use mathlib.Core.Path.{◌≡◌, sym, ap, ◌∙◌}
use mathlib.Core.Bool.{Bool}
use mathlib.Core.List.{List}
use Prim.Native.Nat.{ℕ, ◌+◌, ◌-◌}
use native.Mathlib.Omega.{arith}
use Rattle.std.specs.Prelude.{Result, Ok, Err}
use Rattle.std.specs.Result.{IsErrAnd}
use Rattle.questions.specs.declared.Question.{Question}
use Rattle.questions.specs.Number.{numbered}
use Rattle.meaning.specs.Files.{Quad, places_fine}
use borrow.Author.Tests.{eqb-true, eqb-false}
use Rattle.answers.proofs.Questions.{refused_8, refused_9, stopped, passed, accepted, miscounted, misplaced}
use Rattle.answers.proofs.Steps.{counted, front_is, back_is, ordered}
use Rattle.answers.specs.Judgement.{judged_as, nodes_checked, answer_judgement}
use Rattle.answers.proofs.judge.Goals.{then-places-variables-via-then-places-variables, then-places-variables-via-else-places-variables+then-not-places_fine}
use Rattle.answers.proofs.judge.Goals as goal

left_over : {p r : ℕ} (m k : ℕ) → p + k ≡ r → r ≡ m → p ≡ m - k
left_over m k e f = omega arith

places_told : {j k : ℕ} {ps qs : List Quad} {b o : Bool} → j ≡ k → ps ≡ qs → b ≡ places_fine j 0 ps → b ≡ o
    → places_fine k 0 qs ≡ o
places_told e f g h = sym (g ∙ rw (e, f)) ∙ h

pub returns-then-not-is_empty : goal.returns-then-not-is_empty
unfolding answer_judgement judged_as
returns-then-not-is_empty c =
    rw (refused_8 c.args.variables c.args.answer.now (λ e. eqb-false _ _ (sym c.is_empty.ensures
    ∙ c.if-not-is_empty.true) (c.as_chunks.ensures.back_len ∙ e)))

pub returns-then-not-all_places : goal.returns-then-not-all_places
unfolding answer_judgement judged_as
returns-then-not-all_places c =
    let q = c.as_chunks.ensures in
    let w = sym q.back_len ∙ eqb-true _ _ (sym c.is_empty.ensures ∙ c.if-not-is_empty.false) in
    let p = ordered _ _ q.front _ c.split_at.ensures.back c.all_places.ensures in
    rw (refused_9 c.args.variables _ w _ (counted _ _ q.front c.count_nodes.ensures.is) (p ∙ c.if-not-all_places.true))

-- what `?` hands on is the same question
handed_on : (r : Result ℕ Question) (q : Question) → IsErrAnd r (λ y. y ≡ q) → r ≡ Err q
handed_on (Ok n) q h = absurd h
handed_on (Err y) q h = ap (λ (k : Question). Err k) h

pub returns-in_err-count : goal.returns-in_err-count
unfolding answer_judgement
returns-in_err-count c =
    let q = c.as_chunks.ensures in
    let w = sym q.back_len ∙ eqb-true _ _ (sym c.is_empty.ensures ∙ c.if-not-is_empty.false) in
    let p = ordered _ _ q.front _ c.split_at.ensures.back c.all_places.ensures ∙ c.if-not-all_places.false in
    let r = handed_on _ c.in_err-count.field-0.0 c.from_residual.ensures.1 in
    ap numbered r ∙ sym (stopped c.args.variables _ w _ (counted _ _ q.front c.count_nodes.ensures.is) p
    (ap nodes_checked (sym (front_is _ _ q.front _ c.split_at.ensures.front)) ∙ sym c.in_err-count.ensures))

pub returns-then-places-variables : goal.returns-then-places-variables
unfolding answer_judgement judged_as
returns-then-places-variables c =
    let q = c.as_chunks.ensures in
    let w = sym q.back_len ∙ eqb-true _ _ (sym c.is_empty.ensures ∙ c.if-not-is_empty.false) in
    let p = ordered _ _ q.front _ c.split_at.ensures.back c.all_places.ensures ∙ c.if-not-all_places.false in
    let h = passed c.args.variables _ w _ (counted _ _ q.front c.count_nodes.ensures.is) p
    (ap nodes_checked (sym (front_is _ _ q.front _ c.split_at.ensures.front)) ∙ sym c.in_ok-count.ensures) in
    let l = left_over _ _ c.split_at.ensures.back_len q.front_len in
    elim c.then-places-variables.branch [
      | then-places-variables-via-then-places-variables w ↦ rw
          (h.1, miscounted _ _ _ (λ e. w.if-places-variables.true (l ∙ e)))
      | then-places-variables-via-else-places-variables+then-not-places_fine w ↦
          rw (
            h.1,
            misplaced c.args.variables _ _ (sym l ∙ w.if-places-variables.false)
                (places_told h.0 (back_is _ _ q.front _ c.split_at.ensures.back) w.places_fine.ensures
                w.if-not-places_fine.true),
          )
    ]

pub returns : goal.returns
unfolding answer_judgement
returns c =
    let q = c.as_chunks.ensures in
    let w = sym q.back_len ∙ eqb-true _ _ (sym c.is_empty.ensures ∙ c.if-not-is_empty.false) in
    let p = ordered _ _ q.front _ c.split_at.ensures.back c.all_places.ensures ∙ c.if-not-all_places.false in
    let k = counted _ _ q.front c.count_nodes.ensures.is in
    let h = passed c.args.variables _ w _ k p
    (ap nodes_checked (sym (front_is _ _ q.front _ c.split_at.ensures.front)) ∙ sym c.in_ok-count.ensures) in
    let l = left_over _ _ c.split_at.ensures.back_len q.front_len in
    let f = places_told h.0 (back_is _ _ q.front _ c.split_at.ensures.back) c.places_fine.ensures
    c.if-not-places_fine.false in
    ap Ok h.0 ∙ sym (ap judged_as h.1 ∙ accepted c.args.variables _ w _ k p (sym l ∙ c.if-places-variables.false) f)
