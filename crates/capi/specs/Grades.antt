-- What the marker tells C: the number of its answer, and the promise of the demands.
use Rattle.std.specs.Prelude.{◌≡◌, List, ℕ}
use Rattle.meaning.specs.Results.{marked_number}
use Rattle.meaning.specs.Promises.{MarkerPromise}
use Rattle.theory.specs.Programs.{marker}

pub record Grades (file answer : List ℕ) (r : ℕ) : Type 0 where
  pub number : r ≡ marked_number (marker file answer)
  pub promise : MarkerPromise file answer (marker file answer)
