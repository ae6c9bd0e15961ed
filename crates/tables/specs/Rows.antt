-- What the helpers on rows compute.
use Rattle.std.specs.Prelude.{Bool, true, false, ◌≡◌, ◌≢◌, ◌⊎◌, List, ℕ, ◌^◌, ◌<◌, ◌≤◌, eqb}
use Rattle.std.specs.Int.Bits.{bit_or, bit_and, bit_xor}
use Rattle.meaning.specs.Finite.{Yes, ◌and◌, ◌or◌, neg, pick}
use Rattle.rowbits.specs.Bit.{bit}
use Rattle.tables.specs.Tables.{row}

-- no number has become less and no bit is lost
pub record Up (a b : ℕ) : Type 0 where
  pub most : a ≤ b
  pub kept : (i : ℕ) → Yes (bit a i) → Yes (bit b i)

-- a row, with another one added where the test holds
unfoldable pub gained : Bool → ℕ → ℕ → ℕ
gained t row more = bit_or row (pick t more 0)

-- a row, with y where the test holds
unfoldable pub gained_one : Bool → ℕ → ℕ → ℕ
gained_one t row y = gained t row (2 ^ y)

-- two rows have a number in common
unfoldable pub meets : ℕ → ℕ → Bool
meets a b = neg (eqb (bit_and a b) 0)

-- what is in the first row and not in the second
unfoldable pub without : ℕ → ℕ → ℕ
without a b = bit_and a (bit_xor b 65535)

-- a group has a root, and a leaf or the label l
unfoldable pub on_document : (root leaf group l : ℕ) → Bool
on_document root leaf group l = meets root group and (meets leaf group or neg (eqb l 0))

-- the numbers below 16 that pass a test, as a row
pub record Gathers (p : ℕ → Bool) (r : ℕ) : Type 0 where
  pub from : (y : ℕ) → Yes (bit r y) → Yes (p y)
  pub to : (y : ℕ) → y < 16 → Yes (p y) → Yes (bit r y)

-- the columns of a table, as rows
pub record Transposed (t r : List ℕ) : Type 0 where
  pub columns : (x : ℕ) → x < 16 → Gathers (λ y. bit (row t y) x) (row r x)

-- a row added to each row whose number passes a test
pub record RaisedWhere (p : ℕ → Bool) (t : List ℕ) (by : ℕ) (r : List ℕ) : Type 0 where
  pub within : (x : ℕ) → x < 16 → row r x ≡ gained (p x) (row t x) by
  pub beyond : (x : ℕ) → 16 ≤ x → row r x ≡ row t x

-- a row added to each row whose number is in `which`
abbrev pub Raised : List ℕ → ℕ → ℕ → List ℕ → Type 0
Raised t which = RaisedWhere (bit which) t

-- a row added to each row of t where another table has the row u
abbrev pub RaisedAlike : List ℕ → List ℕ → ℕ → ℕ → List ℕ → Type 0
RaisedAlike t rows u = RaisedWhere (λ x. eqb (row rows x) u) t

-- row by row what two tables make together
pub record Combined (op : ℕ → ℕ → ℕ) (t u r : List ℕ) : Type 0 where
  pub rows : (x : ℕ) → row r x ≡ op (row t x) (row u x)

-- each row with the other table's
abbrev pub United : List ℕ → List ℕ → List ℕ → Type 0
United = Combined bit_or

-- what two tables have in common
abbrev pub Common : List ℕ → List ℕ → List ℕ → Type 0
Common = Combined bit_and

-- the smallest number in a row, or 16
pub record Lowest (r k : ℕ) : Type 0 where
  pub most : k ≤ 16
  pub none : (i : ℕ) → i < k → ¬ Yes (bit r i)
  pub this : k < 16 → Yes (bit r k)

-- a row without its smallest number
abbrev pub Rest : ℕ → ℕ → Type 0
Rest r s = (k : ℕ) → Lowest r k → s ≡ without r (2 ^ k)

-- what the rows named hold together
pub record Union (t : List ℕ) (rows r : ℕ) : Type 0 where
  pub small : r < 65536
  pub from : (j : ℕ) → Yes (bit r j) → (i : ℕ) × Yes (bit rows i) × Yes (bit (row t i) j)
  pub to : (i j : ℕ) → Yes (bit rows i) → Yes (bit (row t i) j) → Yes (bit r j)

-- the label of the lowest of the rows named that has one, or 0 where none has
pub record LabelOf (t : List ℕ) (rows l : ℕ) : Type 0 where
  pub none : l ≡ 0 → (i : ℕ) → Yes (bit rows i) → row t i ≡ 0
  pub some : l ≢ 0 → (i : ℕ) × Yes (bit rows i) × (row t i ≡ l) × ((j : ℕ) → j < i → Yes (bit rows j) → row t j ≡ 0)

-- whether a row of t has a number in common with the same row of one of two other tables
pub record Crossed (t below above : List ℕ) (r : Bool) : Type 0 where
  pub some : r ≡ true → (x y : ℕ) × (x < 16) × Yes (bit (row t x) y) × (Yes (bit (row below x) y) ⊎ Yes (bit (row above x) y))
  pub none : r ≡ false → (x y : ℕ) → x < 16 → Yes (bit (row t x) y) → (¬ Yes (bit (row below x) y)) × (¬ Yes (bit (row above x) y))

-- whether no row has a number
pub record Blank (t : List ℕ) (r : Bool) : Type 0 where
  pub none : r ≡ true → (x y : ℕ) → x < 16 → ¬ Yes (bit (row t x) y)
  pub some : r ≡ false → (x y : ℕ) × (x < 16) × Yes (bit (row t x) y)
