-- Readers as functions of the bytes left: what was read and the bytes after it, or nothing.
use Rattle.std.specs.Prelude.{Bool, true, false, List, [], ◌∷◌, ℕ, get_or, eqb}
use Rattle.meaning.specs.Finite.{◌and◌}

pub data Got (A : Type 0) : Type 0 where
  nothing : Got A
  got : A → List ℕ → Got A

abbrev pub and_then : {A B : Type 0} → Got A → (A → List ℕ → Got B) → Got B
and_then nothing f = nothing
and_then (got a bs) f = f a bs

-- the first byte, and 0 past the end
abbrev pub byte : List ℕ → ℕ
byte bs = get_or bs 0 0

-- the word is the front of the bytes
unfoldable pub front : List ℕ → List ℕ → Bool
front bs [] = true
front [] (b ∷ w) = false
front (a ∷ bs) (b ∷ w) = eqb a b and front bs w
