-- A text that is put at the front of a buffer; a buffer that was filled, and the line of a refusal where it was not.
use mathlib.Core.Path.{◌≡◌, sym, ap, subst, ◌∙◌}
use mathlib.Core.List.{List, ◌++◌}
use Prim.Native.Nat.{ℕ, ◌+◌}
use native.Mathlib.Omega.{arith}
use lib.ListN.{length, drop}
use lib.Seq.{sets-eq}
use Rattle.meaning.specs.Results.{Fill, fill_wrote}
use Rattle.meaning.specs.Text.{numbered, fill_text}
use Rattle.std.specs.Prelude.{Result, Ok, Err}
use Rattle.questions.specs.declared.Question.{Question}
use Rattle.questions.specs.Number.{number}
use Rattle.lent.proofs.Answered.{answer_written, answer_refused}
use Rattle.lent.specs.Putting.{Put}
use Rattle.putting.specs.declared.Page.{Page}
use Rattle.putting.specs.Pages.{Puts}
use Rattle.putting.specs.Fronts.{Fronted, Shown}

pub put_front : {l m : List ℕ} {r : ℕ} {t : List ℕ} → Put l 0 t r m → Fronted t l r m
put_front {l} {m} {r} {t} p =
    let w = p.within in
    let e : 0 + length t ≡ r = (let x = p.end in omega arith) in
    record {
      bytes = sym e ∙ omega arith;
      wrote = p.stored ∙ sets-eq t l 0 (omega arith) ∙ ap (λ (k : ℕ). t ++ drop k l) e;
    }

-- what is put on a new page stands at the front of its buffer
pub first_put : (p q : Page) {buffer text last : List ℕ} {n : ℕ} → p.out.now ≡ buffer → p.at ≡ 0 → n ≡ q.at → last ≡
    q.out.now → Puts p text q → Put buffer 0 text n last
first_put p q whole blank written end h = rw (← whole, written, end, ← blank) h

-- ---- a buffer that was filled

pub written_shown : {n : ℕ} {filled : List ℕ} {answer : Result ℕ Question} → answer ≡ Ok n → Shown answer filled n
    filled
unfolding fill_text fill_wrote
written_shown {n} {filled} {answer} e a before h w =
    let z = answer_written a answer n h e in
    let bs = z.0 in
    record {
      bytes = z.2 ∙ ap (λ (q : Fill). length (fill_text q)) (sym z.1);
      wrote = w ∙ ap (λ (q : Fill). fill_wrote q before) z.1 ∙ ap (λ (k : ℕ). bs ++ drop k before) (sym z.2) ∙ ap (λ (q : Fill). fill_text q ++ drop n before) (sym z.1);
    }

pub refused_shown : {k : ℕ} {filled last : List ℕ} {q : Question} {answer : Result ℕ Question} → answer ≡ Err q
    → Put filled 0 (numbered "refused " (number q)) k last → Shown answer filled k last
unfolding fill_text fill_wrote
refused_shown {k} {filled} {last} {q} {answer} e p a before h w =
    let z = answer_refused a answer q h e in
    let same : filled ≡ before = w ∙ ap (λ (f : Fill). fill_wrote f before) z in
    let shown = put_front p in
    subst (λ (f : Fill). Fronted (fill_text f) before k last) (sym z)
    (subst (λ (b : List ℕ). Fronted (numbered "refused " (number q)) b k last) same shown)
