-- Records of four bytes written into a buffer, and the rest of it as it was.
use Rattle.std.specs.Prelude.{◌≡◌, ◌≢◌, List, [], ◌∷◌, ◌++◌, ℕ, ◌+◌, ◌*◌, ◌≤◌, ◌<◌, length, get_or, drop}
use Rattle.meaning.specs.Constraint.{Fact}
use Rattle.meaning.specs.ReadOff.{FactSet, blank_record, node_bytes, place_bytes, answer_file}
use Rattle.tables.specs.Tables.{has, showing, Ready}
use Rattle.tables.specs.declared.Facts.{Facts}

-- at each of the first k numbers stands its record, and no other record of the buffer changed
pub record Recorded (number : ℕ → ℕ) (bytes : ℕ → List ℕ) (k : ℕ) (old new : List ℕ) : Type 0 where
  pub long : length new ≡ length old
  pub these : (i j : ℕ) → i < k → j < 4 → get_or new (number i * 4 + j) 0 ≡ get_or (bytes i) j 0
  pub others : (v j : ℕ) → ((i : ℕ) → i < k → v ≢ number i) → j < 4 → get_or new (v * 4 + j) 0 ≡ get_or old (v * 4 + j) 0

-- at a number stands this record, and no other changed
abbrev pub Put : ℕ → List ℕ → List ℕ → List ℕ → Type 0
Put v bytes old new = Recorded (λ i. v) (λ i. bytes) 1 old new

-- the record of node v, blank and with 0 as its parent
abbrev pub blank_at : ℕ → List ℕ
blank_at v = node_bytes v (blank_record ∷ [])

-- the records of the nodes of the variables
abbrev pub place_record : List ℕ → ℕ → List ℕ
place_record vs x = place_bytes x (get_or vs x 0 ∷ [])

-- the answer file is at the front, and r is how many bytes it has
pub record FileWritten (n : ℕ) (h : FactSet) (old : List ℕ) (r : ℕ) (new : List ℕ) : Type 0 where
  pub size : r ≡ length (answer_file n h)
  pub bytes : new ≡ answer_file n h ++ drop (length (answer_file n h)) old
  pub most : r ≤ 136

-- the rows are those of some settled set
abbrev pub SomeReady : (below above after label : List ℕ) (root n : ℕ) → Type 0
SomeReady b a s l root n = (S : List Fact) × (g : Facts) × Ready n S (showing b a s l root g)

-- so of any settled set whose rows these are
abbrev pub WrittenOf : (below above after label : List ℕ) (root n : ℕ) → List ℕ → ℕ → List ℕ → Type 0
WrittenOf b a s l root n old r new = (S : List Fact) (g : Facts) → Ready n S (showing b a s l root g) → FileWritten n (has (showing b a s l root g)) old r new
