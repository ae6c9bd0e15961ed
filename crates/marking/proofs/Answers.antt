-- What was read in pieces gets the verdict of the whole.
use mathlib.Core.List.{List}
use Prim.Native.Nat.{ℕ}
use Rattle.std.specs.Prelude.{Result, Ok, Err}
use Rattle.marker.proofs.Pieces.{stands_for}
use Rattle.pieces.specs.Pieces.{FillsInPieces}
use Rattle.marking.specs.Pieces.{FillsWithAnswer}

pub with_answer : {E : Type 0} (r : Result ℕ E) (buffer : List ℕ) → FillsInPieces r buffer → FillsWithAnswer r buffer
with_answer (Ok n) buffer h = (h.0, stands_for _ h.1)
with_answer (Err e) buffer h = h
