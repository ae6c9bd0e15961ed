-- Few bytes fit their place.
use Rattle.std.proofs.Common.{◌≡◌, ℕ, ◌<◌, Result, Ok, sym, ap, subst, ◌∙◌, arith}
use Rattle.questions.specs.declared.Question.{Question}
use Rattle.capi.specs.Numbers.{FewBytes, answer_number}
use Rattle.capi.proofs.filled.Goals as goal

few : (r : Result ℕ Question) (n : ℕ) → FewBytes r → r ≡ Ok n → n < 65536
few r n f e = subst FewBytes e f

pub overflow_cast-bytes : goal.overflow_cast-bytes
overflow_cast-bytes c = omega (arith, few _ _ c.requires c.in-Ok.is)

pub returns-in-Ok : goal.returns-in-Ok
unfolding answer_number
returns-in-Ok c = c.packed.ensures ∙ ap answer_number (sym c.in-Ok.is)

pub returns-in-Err : goal.returns-in-Err
unfolding answer_number
returns-in-Err c = c.refused.ensures ∙ ap answer_number (sym c.in-Err.is)
