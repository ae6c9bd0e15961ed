use mathlib.Core.Path.{sym, ap, ◌∙◌}
use Prim.Native.Nat.{ℕ}
use native.Mathlib.Omega.{arith}
use Rattle.meaning.specs.Marking.{unmet}
use Rattle.meaning.specs.Results.{marker_answers}
use Rattle.constraints.proofs.Records.{found, ended, no_more}
use Rattle.marker.proofs.First.{ahead_none, marked_end, marked_met, marked_unmet, names_variable, record_kind}
use Rattle.marker.specs.Verdict.{marked_of}
use Rattle.marker.proofs.Answer.first_unmet.Goals as goal

pub loop-position-init : goal.loop-position-init
loop-position-init c = ahead_none _

pub returns-in_default : goal.returns-in_default
unfolding marked_of
returns-in_default c = let l = c.loop-position in
    ap marker_answers (sym (marked_end _ _ _ _ (ended _ _ c.requires.is_accepted _ (omega arith)
    (sym c.record_at.ensures ∙ c.in_default.is))) ∙ l.invariant)

pub is_met-requires : goal.is_met-requires
is_met-requires c =
    let s = found _ _ c.requires.is_accepted _ _ (sym c.record_at.ensures ∙ c.in-Some.is) in
    record { placed = λ x h. c.requires.placed x (names_variable _ c.loop-position.position _ s x h) }

pub returns-then-not-is_met : goal.returns-then-not-is_met
unfolding marked_of
returns-then-not-is_met c =
    let l = c.loop-position in
    let s = found _ _ c.requires.is_accepted _ _ (sym c.record_at.ensures ∙ c.in-Some.is) in
    ap (λ (k : ℕ). marker_answers (unmet l.position k)) (record_kind c.in-Some.constraint)
    ∙ ap marker_answers (sym (marked_unmet _ _ _ _ _ s (sym c.is_met.ensures ∙ c.if-not-is_met.true)) ∙ l.invariant)

pub loop-position-preserved : goal.loop-position-preserved
loop-position-preserved c =
    let s = found _ _ c.requires.is_accepted _ _ (sym c.record_at.ensures ∙ c.in-Some.is) in
    sym (marked_met _ _ _ _ _ s (sym c.is_met.ensures ∙ c.if-not-is_met.false)) ∙ c.loop-position.invariant

pub returns : goal.returns
unfolding marked_of
returns c = let l = c.loop-position in
    ap marker_answers (sym (marked_end _ _ _ _ (no_more _ _ c.requires.is_accepted l.position (omega arith)))
    ∙ l.invariant)
