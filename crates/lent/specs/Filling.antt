-- What the code answers for the answer that is meant: so many bytes, or a question with the number of the refusal.
use Rattle.std.specs.Prelude.{◌≡◌, ℕ, length, Result, Ok, Err}
use Rattle.meaning.specs.Results.{Fill, fill_refused, fill_written}
use Rattle.questions.specs.declared.Question.{Question}
use Rattle.questions.specs.Number.{numbered}

abbrev pub AnswerOf : Fill → Result ℕ Question → Type 0
AnswerOf (fill_refused q) r = numbered r ≡ Err q
AnswerOf (fill_written bs) r = numbered r ≡ Ok (length bs)
