-- What the reader of an answer tells: the bytes that stand for the file, or that reading failed, and then there is no verdict.
use Rattle.std.specs.Prelude.{List, ℕ, take, Result, Ok, Err}
use Rattle.std.specs.Counts.{IsPrefixLen}
use Rattle.marker.specs.Pieces.{StandsForPieces}

-- the bytes are what is kept of the pieces that were read, and get the verdict of the whole
abbrev pub FillsWithAnswer : {E : Type 0} → Result ℕ E → List ℕ → Type 0
FillsWithAnswer (Ok n) buffer = IsPrefixLen n buffer × StandsForPieces (take n buffer)
FillsWithAnswer (Err e) buffer = Unit {0}
