-- One turn of the reader: a piece is put behind the bytes that are kept, and the two are shortened.
use mathlib.Core.Path.{◌≡◌, sym, ap, ◌∙◌}
use mathlib.Core.List.{List, ◌++◌}
use Prim.Native.Nat.{ℕ, ◌+◌, ◌≤◌}
use lib.ListN.{length, take}
use lib.Seq.{take-append-le, take-append-add, length-take-le}
use Rattle.answers.specs.Shorter.{shortened}
use Rattle.answers.specs.Pieces.{KeptPieces}
use Rattle.answers.proofs.Pieces.{piece_more}

-- the m first bytes of `filled`, which lies behind the k that are kept of the buffer
front : (buffer filled rest : List ℕ) (k m : ℕ) → k ≤ length buffer → m ≤ length filled → take (k + m) (take k buffer ++ (filled ++ rest)) ≡ take k buffer ++ take m filled
front buffer filled rest k m h l =
    ap (λ (j : ℕ). take (j + m) (take k buffer ++ (filled ++ rest))) (sym (length-take-le k buffer h))
    ∙ take-append-add (take k buffer) (filled ++ rest) m
    ∙ ap (λ (bs : List ℕ). take k buffer ++ bs) (take-append-le m filled rest l)

pub one_turn : (buffer filled rest short after : List ℕ) (k m r : ℕ) → k ≤ length buffer → m ≤ length filled → r ≤ length short
    → take r short ≡ shortened (take (k + m) (take k buffer ++ (filled ++ rest))) → KeptPieces (take k buffer) → KeptPieces (take r (short ++ after))
one_turn buffer filled rest short after k m r h l q e s = rw (take-append-le, e, front buffer filled rest k m h l) (piece_more (take k buffer) (take m filled) s)
