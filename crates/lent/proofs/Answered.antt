-- What an answer of the code says of the answer that is meant.
use Rattle.std.proofs.Common.{◌≡◌, refl, sym, ap, subst, ◌∙◌, List, ◌++◌, ℕ, ◌+◌, length, drop, arith, Result, Ok, Err}
use lib.Seq.{sets-eq}
use Rattle.meaning.specs.Results.{Fill, fill_refused, fill_written, fill_wrote}
use Rattle.questions.specs.declared.Question.{Question}
use Rattle.questions.specs.Number.{number}
use Rattle.lent.specs.Filling.{AnswerOf}
use Rattle.lent.specs.Putting.{Put}

abbrev IsOk : Result ℕ ℕ → Type 0
IsOk (Ok n) = Unit {0}
IsOk (Err q) = ⊥

abbrev number_of : Result ℕ ℕ → ℕ
number_of (Ok n) = n
number_of (Err q) = q

written_of : (q : Fill) (n : ℕ) → AnswerOf q (Ok n) → (bs : List ℕ) × (q ≡ fill_written bs) × (n ≡ length bs)
written_of (fill_refused k) n e = absurd (subst IsOk e tt)
written_of (fill_written bs) n e = (bs, refl, ap number_of e)

refused_of : (q : Fill) (k : Question) → AnswerOf q (Err k) → q ≡ fill_refused (number k)
refused_of (fill_written bs) k e = absurd (subst IsOk (sym e) tt)
refused_of (fill_refused q) k e = ap fill_refused (sym (ap number_of e))

pub answer_written : (q : Fill) (r : Result ℕ Question) (n : ℕ) → AnswerOf q r → r ≡ Ok n → (bs : List ℕ) × (q ≡ fill_written bs) × (n ≡ length bs)
answer_written q r n h e = written_of q n (subst (AnswerOf q) e h)

pub answer_refused : (q : Fill) (r : Result ℕ Question) (k : Question) → AnswerOf q r → r ≡ Err k → q ≡ fill_refused (number k)
answer_refused q r k h e = refused_of q k (subst (AnswerOf q) e h)

-- a text that was put at the front fills the buffer
pub put_filled : {buffer after text : List ℕ} {r : ℕ} → Put buffer 0 text r after → AnswerOf (fill_written text) (Ok r) × (after ≡ fill_wrote (fill_written text) buffer)
unfolding fill_wrote
put_filled {buffer} {text = text} p =
    let n : length text ≡ 0 + length text = omega arith in
    let w = p.within in
    let e = p.end in
    (ap Ok (p.end ∙ sym n), p.stored ∙ sets-eq text buffer 0 (omega arith) ∙ ap (λ (k : ℕ). text ++ drop k buffer) (sym n))
