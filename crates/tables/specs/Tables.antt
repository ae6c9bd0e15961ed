-- What the tables say of each fact, and what it is for them to hold or to decide a settled set.
use Rattle.std.specs.Prelude.{◌≡◌, Bool, ℕ, ◌<◌, eqb, get_or}
use mathlib.Core.List.{List, Memᴰ}
use Rattle.meaning.specs.Constraint.{Fact, child, below, differ, before, root, leaf, label}
use Rattle.meaning.specs.Settled.{Settled, Clash}
use Rattle.meaning.specs.Finite.{Yes, ◌and◌, neg}
use Rattle.meaning.specs.ReadOff.{Decides}
use Rattle.meaning.specs.Closed.{Inside}
use Rattle.rowbits.specs.Bit.{bit}
use Rattle.tables.specs.declared.Facts.{Facts}

-- a row of a table
abbrev pub row : List ℕ → ℕ → ℕ
row t x = get_or t x 0

unfoldable pub has : Facts → Fact → Bool
has f (child x y) = bit (row f.child x) y
has f (below x y) = bit (row f.below x) y
has f (differ x y) = bit (row f.differ x) y
has f (before x y) = bit (row f.before x) y
has f (root x) = bit f.root x
has f (leaf x) = bit f.leaf x
has f (label x l) = eqb (row f.label x) l and neg (eqb l 0)

-- tables with the rows that a tree is read off from in place of their own
abbrev pub showing : (below above after label : List ℕ) (root : ℕ) → Facts → Facts
showing b a s l r f = record { child = f.child; parent = f.parent; below = b; above = a; differ = f.differ; before = f.before; after = s; root = r; label = l; leaf = f.leaf }

-- t's columns are the rows of r
abbrev pub Columns : List ℕ → List ℕ → Type 0
Columns t r = (x y : ℕ) → x < 16 → y < 16 → bit (row r y) x ≡ bit (row t x) y

pub record Mirrored (f : Facts) : Type 0 where
  pub parents : Columns f.child f.parent
  pub ancestors : Columns f.below f.above
  pub siblings : Columns f.before f.after

-- the tables hold only settled facts
abbrev pub Sound : ℕ → List Fact → Facts → Type 0
Sound n S f = (φ : Fact) → Yes (has f φ) → Settled n S φ

-- the tables to settle S from: they hold S and nothing that is not settled, child and before in both tables, and differ closed under its own rules.
-- Two labels of S on one variable have no such tables. `above` may hold anything.
pub record Seeded (n : ℕ) (S : List Fact) (f : Facts) : Type 0 where
  pub inside : Inside n S
  pub held : (φ : Fact) → Memᴰ φ S → Yes (has f φ)
  pub sound : Sound n S f
  pub child_differ : (x y : ℕ) → Yes (has f (child x y)) → Yes (has f (differ x y))
  pub before_differ : (x y : ℕ) → Yes (has f (before x y)) → Yes (has f (differ x y))
  pub turned : (x y : ℕ) → Yes (has f (differ x y)) → Yes (has f (differ y x))
  pub parents : Columns f.child f.parent
  pub siblings : Columns f.before f.after

-- tables that decide the settled set of S, which has no clash
pub record Ready (n : ℕ) (S : List Fact) (f : Facts) : Type 0 where
  pub inside : Inside n S
  pub free : ¬ Clash n S
  pub decides : Decides n S (has f)
  pub mirrored : Mirrored f
