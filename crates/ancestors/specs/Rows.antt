-- What the stages of joins of siblings and of the document node answer, said of the rows alone, whatever else the tables hold.
use Rattle.std.specs.Prelude.{List, ℕ}
use Rattle.meaning.specs.Finite.{Yes}
use Rattle.meaning.specs.FixedSearch.{sibling_join, document_join}
use Rattle.rowbits.specs.Bit.{bit}
use Rattle.tables.specs.Tables.{row}
use Rattle.tables.specs.declared.Facts.{Facts}
use Rattle.stages.specs.Found.{Found, StageOf, with_below}

-- what of a row is missing in one of the rows named
pub record Missing (t : List ℕ) (rows of r : ℕ) : Type 0 where
  pub from : (j : ℕ) → Yes (bit r j) → Yes (bit of j) × ((i : ℕ) × Yes (bit rows i) × (¬ Yes (bit (row t i) j)))
  pub to : (i j : ℕ) → Yes (bit rows i) → Yes (bit of j) → ¬ Yes (bit (row t i) j) → Yes (bit r j)

abbrev pub with_before : List ℕ → List ℕ → Facts → Facts
with_before b a f = record { child = f.child; parent = f.parent; below = f.below; above = f.above; differ = f.differ; before = b; after = a; root = f.root; label = f.label; leaf = f.leaf }

abbrev pub with_document : List ℕ → ℕ → Facts → Facts
with_document c r f = record { child = c; parent = f.parent; below = f.below; above = f.above; differ = f.differ; before = f.before; after = f.after; root = r; label = f.label; leaf = f.leaf }

abbrev pub SiblingIn : ℕ → List ℕ → List ℕ → List ℕ → List ℕ → Found → Type 0
SiblingIn n before after below above r = (f : Facts) → StageOf sibling_join n (with_before before after (with_below below above f)) r

abbrev pub DocumentIn : ℕ → List ℕ → List ℕ → ℕ → Found → Type 0
DocumentIn n child below root r = (f : Facts) → StageOf document_join n (with_document child root (with_below below f.above f)) r
