-- What is put at the front of the buffer: the text of what solver, marker and path reader promise of any bytes.
use Rattle.std.specs.Prelude.{List, ℕ, replicate}
use Rattle.meaning.specs.Results.{written, fill_wrote}
use Rattle.meaning.specs.Promises.{SolverPromise, MarkerPromise, PathsPromise}
use Rattle.meaning.specs.Text.{solved_text, marked_text, fill_text}
use Rattle.theory.specs.Programs.{solver, marker}
use Rattle.putting.specs.Fronts.{Fronted}
use Rattle.theory.specs.PathReader.{read_paths}

-- a buffer for the answer file, as short as question 7 lets in
abbrev pub room : List ℕ
room = replicate 136 0

-- under the allowance A
pub record SolvedAs (A : ℕ) (file before : List ℕ) (r : ℕ) (after : List ℕ) : Type 0 where
  pub text : Fronted (solved_text (solver A file room)) before r after
  pub promise : SolverPromise A file room (solver A file room) (written (solver A file room) room)

pub record MarkedAs (file answer before : List ℕ) (r : ℕ) (after : List ℕ) : Type 0 where
  pub text : Fronted (marked_text (marker file answer)) before r after
  pub promise : MarkerPromise file answer (marker file answer)

-- a buffer for the records, as short as question 7 lets in
abbrev pub records_room : List ℕ
records_room = replicate 1024 0

pub record PathsAs (text before : List ℕ) (r : ℕ) (after : List ℕ) : Type 0 where
  pub output : Fronted (fill_text (read_paths text records_room)) before r after
  pub promise : PathsPromise text records_room (read_paths text records_room) (fill_wrote (read_paths text records_room) records_room)
