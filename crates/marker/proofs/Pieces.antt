-- What is kept of an answer read in pieces gets the verdict of the whole.
use mathlib.Core.Path.{◌≡◌, refl, ap, ◌∙◌}
use mathlib.Core.List.{List, [], append-nil}
use Prim.Native.Nat.{ℕ}
use Rattle.meaning.specs.Constraint.{vars}
use Rattle.meaning.specs.Files.{Judged, refused, accepted, judge}
use Rattle.theory.specs.Programs.{marked_as, marked_by, marker}
use Rattle.theory.proofs.ConstraintFile.{Bytes, accepted_vars}
use Rattle.answers.specs.Pieces.{kept, joined, KeptPieces}
use Rattle.answers.proofs.Pieces.{kept_as_joined}
use Rattle.marker.specs.Pieces.{StandsForPieces}

pub verdict_of_whole : (pieces : List (List ℕ)) (file : List ℕ) → Bytes file → marker file (kept pieces) ≡ marker file (joined pieces)
unfolding marker marked_by
verdict_of_whole pieces file b = by (judge file) refl
  where
    by : (j : Judged) → judge file ≡ j → marked_by j (kept pieces) ≡ marked_by j (joined pieces)
    by (refused q) e = refl
    by (accepted cs) e = ap (marked_as cs) (rw (append-nil, append-nil) at (kept_as_joined pieces (vars cs) [] (accepted_vars file b cs e)))

pub stands_for : (bs : List ℕ) → KeptPieces bs → StandsForPieces bs
stands_for bs k = record {
  pieces = k.pieces;
  is_kept = k.is_kept;
  same_verdict = λ file b. ap (marker file) k.is_kept ∙ verdict_of_whole k.pieces file b;
}
