-- What the solver tells C: the number of its answer, every byte of the buffer, and the promise of the demands.
use Rattle.std.specs.Prelude.{◌≡◌, List, ℕ}
use Rattle.meaning.specs.Results.{written, solved_number}
use Rattle.meaning.specs.Promises.{SolverPromise}
use Rattle.theory.specs.Programs.{solver}

pub record Solves (A : ℕ) (file buffer : List ℕ) (r : ℕ) (after : List ℕ) : Type 0 where
  pub number : r ≡ solved_number (solver A file buffer)
  pub wrote : after ≡ written (solver A file buffer) buffer
  pub promise : SolverPromise A file buffer (solver A file buffer) after
