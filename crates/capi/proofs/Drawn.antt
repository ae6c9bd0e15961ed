-- The number of a draw's answer: what C is told, and that 0 is a grant and nothing else is.
use mathlib.Core.Path.{◌≡◌, refl, sym, ap, ◌∙◌, subst}
use mathlib.Core.Logic.{◌↔◌}
use mathlib.Core.List.{List}
use Prim.Native.Nat.{ℕ}
use native.Mathlib.Omega.{arith}
use Rattle.meaning.specs.declared.Centre.{Centre}
use Rattle.meaning.specs.Results.{told}
use Rattle.meaning.specs.Centres.{drawn_number, list_after, NoQuestion, DrawPromise, draw_granted, draw_refused}
use Rattle.meaning.specs.Centres as meant
use Rattle.theory.specs.Centres.{drawing}
use Rattle.theory.proofs.Centres.{drawing_keeps, shared_machine}
use Rattle.std.specs.Prelude.{Result}
use Rattle.questions.specs.declared.Question.{Question}
use Rattle.questions.specs.Number.{numbered}
use Rattle.centres.specs.Answers.{answer_of}
use Rattle.capi.specs.Draws.{DrawsFrom, drawn_as}

number_is : (r : meant.Drawn) → drawn_as (answer_of r) ≡ drawn_number r
unfolding drawn_as answer_of drawn_number
number_is draw_granted = refl
number_is (draw_refused q) = refl

-- what `draw` says and its number are what C is told
pub draws_from : (total : ℕ) (cs : List Centre) (i amount : ℕ) (d : Result (Unit {0}) Question) {after : List Centre} {k : ℕ}
    → (numbered d ≡ answer_of (drawing total cs i amount)) × (after ≡ list_after (drawing total cs i amount) cs i amount)
    → k ≡ drawn_as (numbered d) → DrawsFrom total cs i amount k after
draws_from total cs i amount d said e = record {
  number = e ∙ (ap drawn_as said.0 ∙ number_is (drawing total cs i amount));
  list = said.1;
  promise = subst (DrawPromise total cs i amount (drawing total cs i amount)) (sym said.1) drawing_keeps;
}

zero_granted : (r : meant.Drawn) → drawn_number r ≡ 0 → r ≡ draw_granted
unfolding drawn_number told
zero_granted draw_granted e = refl
zero_granted (draw_refused q) e = absurd (omega (arith, e))

pub told_granted : {total : ℕ} {cs after : List Centre} {i amount k : ℕ} → DrawsFrom total cs i amount k after → (k ≡ 0) ↔ NoQuestion total cs i amount
unfolding drawn_number told
told_granted d = let iff = shared_machine.granted_exactly d.promise
    in ((λ z. iff.0 (zero_granted _ (sym d.number ∙ z))), λ q. d.number ∙ ap drawn_number (iff.1 q))
