-- What the helpers of a pass compute.
use Rattle.std.specs.Prelude.{true, false, ◌≡◌, ◌≢◌, ◌⊎◌, List, ℕ, ◌-◌, ◌^◌, ◌<◌, ◌≤◌}
use Rattle.std.specs.Int.Bits.{bit_or}
use Rattle.meaning.specs.Finite.{Yes}
use Rattle.meaning.specs.Constraint.{Fact, child, below, root}
use Rattle.meaning.specs.Settled.{Settled}
use Rattle.rowbits.specs.Bit.{bit}
use Rattle.tables.specs.Tables.{row}
use Rattle.tables.specs.Rows.{Up, gained, Transposed, Common}
use Rattle.passes.specs.declared.Groups.{Groups}
use Rattle.passes.specs.declared.Joined.{Joined}

-- y is in row x
abbrev pub In : List ℕ → ℕ → ℕ → Type 0
In t x y = Yes (bit (row t x) y)

-- a row of below by the rules that look at no other row: itself, its children, and all if it is a root
unfoldable pub first_row : ℕ → ℕ → ℕ → ℕ → ℕ → ℕ
first_row b c roots x n = gained (bit roots x) (bit_or (bit_or b c) (2 ^ x)) (2 ^ n - 1)

-- r has every variable that is in the row of another one
pub record Grouped (same : List ℕ) (r : ℕ) : Type 0 where
  pub has : (x y : ℕ) → x < 16 → y < 16 → y ≢ x → Yes (bit (row same x) y) → Yes (bit r y)

-- row y added to each row that has y
pub record Lifted (t : List ℕ) (y : ℕ) (r : List ℕ) : Type 0 where
  pub within : (x : ℕ) → x < 16 → row r x ≡ gained (bit (row t x) y) (row t x) (row t y)
  pub beyond : (x : ℕ) → 16 ≤ x → row r x ≡ row t x

-- y is reached from x along the rows
pub data Path (t : List ℕ) : ℕ → ℕ → Type 0 where
  step : {x y : ℕ} → In t x y → Path t x y
  on : {x y z : ℕ} → Path t x y → Path t y z → Path t x z

-- the rows chained, with nothing that the given rows do not reach
pub record ChainOf (n : ℕ) (t r : List ℕ) : Type 0 where
  pub up : (x : ℕ) → Up (row t x) (row r x)
  pub from : (x y : ℕ) → In r x y → Path t x y
  pub chained : (x y z : ℕ) → x < 16 → y < n → In r x y → In r y z → In r x z

-- the rows of below closed under the rules for itself, child, root and chain, and nothing that is not settled
pub record Chained (n : ℕ) (t children : List ℕ) (roots : ℕ) (r : List ℕ) : Type 0 where
  pub up : (x : ℕ) → Up (row t x) (row r x)
  pub sound : (S : List Fact) → ((x y : ℕ) → Yes (bit (row t x) y) → Settled n S (below x y))
      → ((x y : ℕ) → Yes (bit (row children x) y) → Settled n S (child x y))
      → ((x : ℕ) → Yes (bit roots x) → Settled n S (root x))
      → (x y : ℕ) → Yes (bit (row r x) y) → Settled n S (below x y)
  pub itself : (x : ℕ) → x < n → Yes (bit (row r x) x)
  pub parent : (x y : ℕ) → x < n → Yes (bit (row children x) y) → Yes (bit (row r x) y)
  pub rooted : (x y : ℕ) → x < n → Yes (bit roots x) → y < n → Yes (bit (row r x) y)
  pub chained : (x y z : ℕ) → x < n → y < n → Yes (bit (row r x) y) → Yes (bit (row r y) z) → Yes (bit (row r x) z)

pub record GroupsOf (n : ℕ) (t children : List ℕ) (roots : ℕ) (r : Groups) : Type 0 where
  pub chained : Chained n t children roots r.below
  pub columns : Transposed r.below r.above
  pub common : Common r.below r.above r.same
  pub grouped : Grouped r.same r.several

-- a row with the whole group of each of its variables
pub record WholeGroups (same : List ℕ) (t r : ℕ) : Type 0 where
  pub kept : (x : ℕ) → Yes (bit t x) → Yes (bit r x)
  pub from : (x : ℕ) → Yes (bit r x) → Yes (bit t x) ⊎ ((x < 16) × (j : ℕ) × Yes (bit (row same x) j) × Yes (bit t j))
  pub to : (x j : ℕ) → x < 16 → Yes (bit (row same x) j) → Yes (bit t j) → Yes (bit r x)

-- x has become the same as a leaf above it, as another parent of a child, or as another child of a root
pub data Joins (above : List ℕ) (leaf roots : ℕ) (children parents : List ℕ) (x y : ℕ) : Type 0 where
  by_leaf : Yes (bit (row above x) y) → Yes (bit leaf y) → Joins above leaf roots children parents x y
  by_child : (z : ℕ) → Yes (bit (row children x) z) → Yes (bit (row parents z) y) → Joins above leaf roots children parents x y
  by_root : (z : ℕ) → Yes (bit (row parents x) z) → Yes (bit roots z) → Yes (bit (row children z) y) → Joins above leaf roots children parents x y

pub record JoinedOf (n : ℕ) (t above : List ℕ) (leaf roots : ℕ) (children parents : List ℕ) (r : Joined) : Type 0 where
  pub up : (x : ℕ) → Up (row t x) (row r.below x)
  pub from : (x y : ℕ) → Yes (bit (row r.below x) y) → Yes (bit (row t x) y) ⊎ ((x < n) × Joins above leaf roots children parents x y)
  pub to : (x y : ℕ) → x < n → Joins above leaf roots children parents x y → Yes (bit (row r.below x) y)
  pub still : r.more ≡ false → (x : ℕ) → row r.below x ≡ row t x
  pub moved : r.more ≡ true → (x : ℕ) × (x < n) × (row t x < row r.below x)
