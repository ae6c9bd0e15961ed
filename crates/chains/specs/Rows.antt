-- What the stages of parent joins and chain joins answer, said of the rows alone, whatever else the tables hold.
use Rattle.std.specs.Prelude.{◌≡◌, List, ℕ, ◌<◌}
use Rattle.std.specs.Int.Bits.{bit_or, bit_xor}
use Rattle.meaning.specs.FixedSearch.{parent_join, chain_join}
use Rattle.tables.specs.Tables.{row}
use Rattle.tables.specs.declared.Facts.{Facts}
use Rattle.stages.specs.Found.{Found, StageOf, with_below}

-- the rows of the variables that are neither above nor below each
abbrev pub Incomparable : List ℕ → List ℕ → List ℕ → Type 0
Incomparable below above r = (x : ℕ) → x < 16 → row r x ≡ bit_xor (bit_or (row below x) (row above x)) 65535

abbrev pub with_parent : List ℕ → Facts → Facts
with_parent p f = record { child = f.child; parent = p; below = f.below; above = f.above; differ = f.differ; before = f.before; after = f.after; root = f.root; label = f.label; leaf = f.leaf }

abbrev pub ParentIn : ℕ → List ℕ → List ℕ → List ℕ → Found → Type 0
ParentIn n parent below above r = (f : Facts) → StageOf parent_join n (with_parent parent (with_below below above f)) r

abbrev pub ChainIn : ℕ → List ℕ → List ℕ → Found → Type 0
ChainIn n below above r = (f : Facts) → StageOf chain_join n (with_below below above f) r
