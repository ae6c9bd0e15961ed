-- An answer file read in pieces gets the verdict of the whole file.
use Rattle.std.specs.Prelude.{◌≡◌, ℕ, ◌≤◌}
use mathlib.Core.List.{List, Memᴰ}
use Rattle.theory.specs.Programs.{marker}
use Rattle.answers.specs.Pieces.{kept, joined}

-- these bytes are what is kept of the pieces of an answer, and get its verdict as an answer to any constraint file
pub record StandsForPieces (bs : List ℕ) : Type 0 where
  pub pieces : List (List ℕ)
  pub is_kept : bs ≡ kept pieces
  pub same_verdict : (file : List ℕ) → ((b : ℕ) → Memᴰ b file → b ≤ 255) → marker file bs ≡ marker file (joined pieces)
