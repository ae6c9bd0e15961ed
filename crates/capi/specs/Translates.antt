-- What the path reader tells C: the number of its answer, every byte of the buffer, and the promise of questions set as paths.
use Rattle.std.specs.Prelude.{◌≡◌, List, ℕ}
use Rattle.meaning.specs.Results.{fill_wrote, fill_number}
use Rattle.meaning.specs.Promises.{PathsPromise}
use Rattle.theory.specs.PathReader.{read_paths}

pub record Translates (text buffer : List ℕ) (r : ℕ) (after : List ℕ) : Type 0 where
  pub number : r ≡ fill_number (read_paths text buffer)
  pub wrote : after ≡ fill_wrote (read_paths text buffer) buffer
  pub promise : PathsPromise text buffer (read_paths text buffer) after
