-- What a draw tells C: the number of its answer, every record of the list, and the promise of centres that share the machine.
use Rattle.std.specs.Prelude.{◌≡◌, List, ℕ, Result, Ok, Err}
use Rattle.meaning.specs.declared.Centre.{Centre}
use Rattle.meaning.specs.Results.{told}
use Rattle.meaning.specs.Centres.{drawn_number, list_after, DrawPromise}
use Rattle.theory.specs.Centres.{drawing}

pub record DrawsFrom (total : ℕ) (cs : List Centre) (i amount r : ℕ) (after : List Centre) : Type 0 where
  pub number : r ≡ drawn_number (drawing total cs i amount)
  pub list : after ≡ list_after (drawing total cs i amount) cs i amount
  pub promise : DrawPromise total cs i amount (drawing total cs i amount) after

-- the number of the code's answer
unfoldable pub drawn_as : Result (Unit {0}) ℕ → ℕ
drawn_as (Ok done) = told 0 0 0
drawn_as (Err q) = told 3 0 q
