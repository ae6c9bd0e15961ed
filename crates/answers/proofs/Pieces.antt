-- What is kept of an answer read in pieces is judged as the whole answer is: by induction on the pieces, since shortening leaves the
-- answer_judgement as it is whatever follows.
use mathlib.Core.Path.{refl, ap, ◌∙◌}
use mathlib.Core.List.{List, [], ◌∷◌, ◌++◌, append_assoc}
use Prim.Native.Nat.{ℕ}
use Rattle.answers.specs.Shorter.{shortened}
use Rattle.answers.specs.Pieces.{kept, joined, KeptAsJoined, KeptPieces}
use Rattle.answers.proofs.Shorter.{shorter}

pub kept_as_joined : KeptAsJoined
unfolding kept joined
kept_as_joined [] n more few = refl
kept_as_joined (piece ∷ pieces) n more few = shorter (kept pieces ++ piece) n more few ∙ rw (append_assoc, append_assoc) (kept_as_joined pieces n (piece ++ more) few)

-- ---- the pieces one by one

pub no_piece : KeptPieces []
unfolding kept
no_piece = record { pieces = []; is_kept = refl }

pub piece_more : (bs piece : List ℕ) → KeptPieces bs → KeptPieces (shortened (bs ++ piece))
unfolding kept
piece_more bs piece s = record { pieces = piece ∷ s.pieces; is_kept = ap (λ (l : List ℕ). shortened (l ++ piece)) s.is_kept }
