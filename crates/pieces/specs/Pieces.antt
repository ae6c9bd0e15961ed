-- What is told of a file that was read in pieces: the bytes that stand for it, or that reading failed.
use Rattle.std.specs.Prelude.{List, ℕ, take, Result, Ok, Err}
use Rattle.std.specs.Counts.{IsPrefixLen}
use Rattle.answers.specs.Pieces.{KeptPieces}

-- the bytes are what is kept of the pieces that were read
abbrev pub FillsInPieces : {E : Type 0} → Result ℕ E → List ℕ → Type 0
FillsInPieces (Ok n) buffer = IsPrefixLen n buffer × KeptPieces (take n buffer)
FillsInPieces (Err e) buffer = Unit {0}
