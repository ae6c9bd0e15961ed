-- What is computed of siblings, table by table: settling puts the tables together.
use Rattle.std.specs.Prelude.{Bool, true, false, ◌≡◌, ◌≢◌, ◌⊎◌, List, ℕ, ◌<◌, MatchOption, Option}
use Rattle.meaning.specs.Constraint.{Fact, child, below, before}
use Rattle.meaning.specs.Settled.{Settled}
use Rattle.tables.specs.Tables.{row}
use Rattle.tables.specs.Rows.{Up, Transposed, Common, Crossed}
use Rattle.passes.specs.Rows.{In}
use Rattle.settle.specs.declared.Order.{Order}

-- each row of t with what the rows of b hold that the same row of a names
pub record Reached (t a b r : List ℕ) : Type 0 where
  pub up : (x : ℕ) → Up (row t x) (row r x)
  pub from : (x y : ℕ) → In r x y → In t x y ⊎ ((z : ℕ) × In a x z × In b z y)
  pub to : (x z y : ℕ) → x < 16 → In a x z → In b z y → In r x y

-- whether a row of one table is not that of the other
pub record Unlike (t u : List ℕ) (r : Bool) : Type 0 where
  pub some : r ≡ true → (x : ℕ) × (x < 16) × (row t x ≢ row u x)
  pub none : r ≡ false → (x : ℕ) → x < 16 → row t x ≡ row u x

-- the rows of same are groups of the n variables: what is the same as one of a group is in it
pub record Groupwise (n : ℕ) (same : List ℕ) : Type 0 where
  pub few : (x y : ℕ) → In same x y → (x < n) × (y < n)
  pub chain : (x y z : ℕ) → In same x y → In same y z → In same x z

-- the rows of before, chained, and nothing that is not settled; where they are of the n variables, and same is groups of them, shared within groups in
-- both places
pub record Ordered (n : ℕ) (t same r : List ℕ) : Type 0 where
  pub up : (x : ℕ) → Up (row t x) (row r x)
  pub sound : (S : List Fact) → ((x y : ℕ) → In t x y → Settled n S (before x y))
      → ((x y : ℕ) → In same x y → Settled n S (below x y) × Settled n S (below y x)) → (x y : ℕ) → In r x y → Settled n S (before x y)
  pub firsts : Groupwise n same → ((x y : ℕ) → In t x y → (x < n) × (y < n)) → (x y u : ℕ) → In same u x → In r x y → In r u y
  pub lasts : Groupwise n same → ((x y : ℕ) → In t x y → (x < n) × (y < n)) → (x y u : ℕ) → In same y u → In r x y → In r x u
  pub chained : (x y z : ℕ) → x < 16 → y < n → In r x y → In r y z → In r x z

-- the rows of child, passed along before and along after, and nothing that is not settled
pub record PassedOn (t befores afters r : List ℕ) : Type 0 where
  pub up : (x : ℕ) → Up (row t x) (row r x)
  pub sound : (n : ℕ) (S : List Fact) → ((x y : ℕ) → In t x y → Settled n S (child x y)) → ((x y : ℕ) → In befores x y → Settled n S (before x y))
      → ((x y : ℕ) → In afters y x → Settled n S (before x y)) → (x y : ℕ) → In r x y → Settled n S (child x y)
  pub later : (x y u : ℕ) → u < 16 → In befores x y → In t u x → In r u y
  pub earlier : (x y u : ℕ) → u < 16 → In afters y x → In t u y → In r u x

-- a table with another one and its columns
pub record Parted (t rows columns r : List ℕ) : Type 0 where
  pub from : (x y : ℕ) → In r x y → In t x y ⊎ (In rows x y ⊎ In columns x y)
  pub to : (x y : ℕ) → In t x y ⊎ (In rows x y ⊎ In columns x y) → In r x y

-- the rows of before as the groups of below order them
pub record InOrder (n : ℕ) (t below above r : List ℕ) : Type 0 where
  pub same : List ℕ
  pub common : Common below above same
  pub ordered : Ordered n t same r

-- they have a number in common with below or above
pub record Crossing (n : ℕ) (t below above : List ℕ) : Type 0 where
  pub rows : List ℕ
  pub order : InOrder n t below above rows
  pub crossed : Crossed rows below above true

-- they have none, and here they are with their columns
pub record Uncrossed (n : ℕ) (t below above : List ℕ) (r : Order) : Type 0 where
  pub order : InOrder n t below above r.before
  pub crossed : Crossed r.before below above false
  pub columns : Transposed r.before r.after

abbrev pub OrderOf : ℕ → (t below above : List ℕ) → Option Order → Type 0
OrderOf n t b a r = MatchOption r (Crossing n t b a) (Uncrossed n t b a)
