-- What stands at the front of a buffer that is printed.
use Rattle.std.specs.Prelude.{◌≡◌, List, ◌++◌, ℕ, length, drop, Result}
use Rattle.meaning.specs.Results.{Fill, fill_wrote}
use Rattle.meaning.specs.Text.{fill_text}
use Rattle.lent.specs.Filling.{AnswerOf}
use Rattle.questions.specs.declared.Question.{Question}

-- the text at the front, how long it is, and every other byte as it was
pub record Fronted (text before : List ℕ) (r : ℕ) (after : List ℕ) : Type 0 where
  pub bytes : r ≡ length text
  pub wrote : after ≡ text ++ drop r before

-- of what was answered where a buffer was filled: r bytes are printed of it
abbrev pub Shown : Result ℕ Question → List ℕ → ℕ → List ℕ → Type 0
Shown answer filled r after = (a : Fill) (before : List ℕ) → AnswerOf a answer → filled ≡ fill_wrote a before → Fronted (fill_text a) before r after
