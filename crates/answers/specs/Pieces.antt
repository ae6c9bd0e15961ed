-- An answer read in pieces into a buffer of fixed length: each piece is put behind what is kept of those before it, and the two are
-- shortened. What is kept in the end is judged as the whole answer is (proofs/Pieces.antt). The latest piece comes first here.
use Rattle.std.specs.Prelude.{◌≡◌, List, [], ◌∷◌, ◌++◌, ℕ}
use Rattle.meaning.specs.Files.{judge_nodes}
use Rattle.answers.specs.Shorter.{shortened, Alike}

unfoldable pub kept : List (List ℕ) → List ℕ
kept [] = []
kept (piece ∷ pieces) = shortened (kept pieces ++ piece)

-- the whole answer
unfoldable pub joined : List (List ℕ) → List ℕ
joined [] = []
joined (piece ∷ pieces) = joined pieces ++ piece

abbrev pub KeptAsJoined : Type 0
KeptAsJoined = (pieces : List (List ℕ)) → Alike (kept pieces) (joined pieces)

-- these bytes are what is kept of some pieces
pub record KeptPieces (bs : List ℕ) : Type 0 where
  pub pieces : List (List ℕ)
  pub is_kept : bs ≡ kept pieces

-- and so it is of node records alone
abbrev pub NodesAsJoined : Type 0
NodesAsJoined = (pieces : List (List ℕ)) → judge_nodes (kept pieces) ≡ judge_nodes (joined pieces)
