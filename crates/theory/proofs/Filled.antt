-- A lent buffer that is filled with what fits it keeps its length.
use mathlib.Core.Path.{◌≡◌, refl}
use mathlib.Core.List.{List}
use Prim.Native.Nat.{ℕ, ◌≤◌}
use native.Mathlib.Omega.{arith}
use lib.ListN.{length, drop, length-append, length-drop}
use Rattle.meaning.specs.Results.{Fill, fill_refused, fill_written, fill_wrote}

-- what is written fits the buffer
abbrev pub Fits : List ℕ → Fill → Type 0
Fits buffer (fill_refused q) = Unit {0}
Fits buffer (fill_written bs) = length bs ≤ length buffer

pub kept_length : (buffer : List ℕ) (r : Fill) → Fits buffer r → length (fill_wrote r buffer) ≡ length buffer
unfolding fill_wrote
kept_length buffer (fill_refused q) f = refl
kept_length buffer (fill_written bs) f = let e = length-append bs (drop (length bs) buffer) in let d = length-drop (length bs) buffer in omega arith
