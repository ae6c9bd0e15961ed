-- Words as bytes.
use Rattle.std.specs.Prelude.{List, [], ◌∷◌, ℕ}
use Prim.Native.Char.{code}
use Prim.Native.String.{String, [] as none_left, ◌∷◌ as ◌then◌}

-- the codes of the characters
unfoldable pub ascii : String → List ℕ
ascii none_left = []
ascii (c then s) = code c ∷ ascii s
