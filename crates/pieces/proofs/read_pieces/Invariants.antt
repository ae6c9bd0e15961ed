use Rattle.std.proofs.Common.{◌≤◌, length, take}
use Rattle.answers.specs.Pieces.{KeptPieces}
use Rattle.pieces.proofs.read_pieces.Given as goal

-- What is kept is within the buffer, and stands for the pieces read so far.
abbrev pub invariant-loop : goal.invariant-loop
invariant-loop g l = record { within : l.kept ≤ length l.buffer; stands : KeptPieces (take l.kept l.buffer) }
