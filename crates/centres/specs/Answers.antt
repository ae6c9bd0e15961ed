-- What the code answers: of the number of a question, 0 where none says no, and of the answer that is meant.
use Rattle.std.specs.Prelude.{ℕ, eqb, Result, Ok, Err}
use Rattle.meaning.specs.Finite.{pick}
use Rattle.meaning.specs.Centres.{Drawn, draw_granted, draw_refused}

unfoldable pub answered : ℕ → Result (Unit {0}) ℕ
answered q = pick (eqb q 0) (Ok tt) (Err q)

unfoldable pub answer_of : Drawn → Result (Unit {0}) ℕ
answer_of draw_granted = Ok tt
answer_of (draw_refused q) = Err q
