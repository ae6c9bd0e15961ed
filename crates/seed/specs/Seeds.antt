-- What the tables of the given facts are, unless two labels clash: they hold the facts of the file's constraints, and differ as its own
-- rules close it.
use Rattle.std.specs.Prelude.{◌≡◌, Bool, ◌↔◌, ◌≢◌, ◌⊎◌, ℕ, ◌+◌, ◌*◌, ◌<◌, ◌≤◌, eqb, replicate, MatchOption, Option}
use mathlib.Core.List.{List, Memᴰ}
use Rattle.std.specs.Int.Bits.{bit_or}
use Rattle.meaning.specs.Tree.{Var, Label}
use Rattle.meaning.specs.Constraint.{Fact, child, below, differ, before, root, leaf, label, vars, facts_of}
use Rattle.meaning.specs.Finite.{Yes, ◌and◌, neg, pick}
use Rattle.constraints.specs.Judgement.{constraints_in}
use Rattle.tables.specs.Tables.{row, has, Seeded}
use Rattle.tables.specs.declared.Facts.{Facts}

unfoldable pub labelled : Bool → ℕ → ℕ → ℕ
labelled given old new = pick given new old

-- another label than the one that stands
unfoldable pub second_label : ℕ → ℕ → Bool
second_label old new = neg (eqb old 0) and neg (eqb old new)

-- row x of a kind
abbrev pub kind_row : List ℕ → ℕ → ℕ → ℕ
kind_row t kind x = row t (kind * 16 + x)

-- a table of 16 rows
pub record RowsOf (rows : ℕ → ℕ) (r : List ℕ) : Type 0 where
  pub within : (x : ℕ) → x < 16 → row r x ≡ rows x
  pub beyond : (x : ℕ) → 16 ≤ x → row r x ≡ 0

-- row x and column x of a kind
abbrev pub both_ways : List ℕ → List ℕ → ℕ → ℕ → ℕ
both_ways rows columns kind x = bit_or (kind_row rows kind x) (kind_row columns kind x)

-- the tables, from the rows and columns by kind: strictly below is below and differ, same is below both ways, and child, before and differ
-- are differ both ways
pub record TogetherOf (rows columns names : List ℕ) (r : Facts) : Type 0 where
  pub child_rows : RowsOf (kind_row rows 1) r.child
  pub parent_rows : RowsOf (kind_row columns 1) r.parent
  pub below_rows : RowsOf (λ x. bit_or (kind_row rows 2 x) (bit_or (kind_row rows 3 x) (both_ways rows columns 4 x))) r.below
  pub above_rows : r.above ≡ replicate 16 0
  pub differ_rows : RowsOf (λ x. bit_or (bit_or (both_ways rows columns 1 x) (both_ways rows columns 9 x)) (bit_or (both_ways rows columns 3 x) (both_ways rows columns 5 x))) r.differ
  pub before_rows : RowsOf (kind_row rows 9) r.before
  pub after_rows : RowsOf (kind_row columns 9) r.after
  pub root_row : r.root ≡ kind_row columns 6 0
  pub leaf_row : r.leaf ≡ kind_row columns 7 0
  pub names_kept : r.label ≡ names

-- S says that x and y differ, one way round, by differ, by child or by before
abbrev pub SaidDiffer : List Fact → ℕ → ℕ → Type 0
SaidDiffer S x y = Memᴰ (differ x y) S ⊎ (Memᴰ (child x y) S ⊎ Memᴰ (before x y) S)

-- what the seeds of S hold: the facts of S, and differ both ways, for child and for before
abbrev pub Sown : List Fact → Fact → Type 0
Sown S (child x y) = Memᴰ (child x y) S
Sown S (below x y) = Memᴰ (below x y) S
Sown S (differ x y) = SaidDiffer S x y ⊎ SaidDiffer S y x
Sown S (before x y) = Memᴰ (before x y) S
Sown S (root x) = Memᴰ (root x) S
Sown S (leaf x) = Memᴰ (leaf x) S
Sown S (label x l) = Memᴰ (label x l) S

-- S gives two different labels to one variable
pub record GivesTwoLabels (S : List Fact) : Type 0 where
  pub variable : Var
  pub one : Label
  pub other : Label
  pub gives_one : Memᴰ (label variable one) S
  pub gives_other : Memᴰ (label variable other) S
  pub unlike : one ≢ other

-- the tables of a file: they hold what is sown and no other fact; that `parent` is the columns of `child`, and `after`
-- of `before`, is in seeded
pub record SownOf (file : List ℕ) (f : Facts) : Type 0 where
  pub one_label : ¬ GivesTwoLabels (facts_of (constraints_in file))
  pub exact : (φ : Fact) → Yes (has f φ) ↔ Sown (facts_of (constraints_in file)) φ
  pub unmirrored : f.above ≡ replicate 16 0
  pub seeded : (n : ℕ) → vars (constraints_in file) ≤ n → Seeded n (facts_of (constraints_in file)) f

-- None where two labels clash
abbrev pub SeedsOf : List ℕ → Option Facts → Type 0
SeedsOf file r = MatchOption r (GivesTwoLabels (facts_of (constraints_in file))) (SownOf file)
