-- The join that an answer names, and what the answer of a stage says of the tables.
use Rattle.std.specs.Prelude.{◌≡◌, List, ℕ, Option, Some, None}
use Rattle.std.proofs.Math.Option as math
use Rattle.meaning.specs.Constraint.{Fact}
use Rattle.meaning.specs.FixedSearch.{JoinKind, parent_join, chain_join, sibling_join, document_join, Join, join}
use Rattle.theory.specs.Search.{is_a_join, first_of}
use Rattle.tables.specs.Tables.{has, Ready}
use Rattle.tables.specs.declared.Facts.{Facts}
use Rattle.stages.specs.declared.Join as coded-join
use Rattle.stages.specs.declared.JoinKind as coded
use Rattle.stages.specs.declared.JoinKind.TheVariants.{Parent, Chain, Sibling, Document}

-- what the code answers
abbrev pub Found : Type 0
Found = Option coded-join.Join

abbrev pub kind_of : coded.JoinKind → JoinKind
kind_of Parent = parent_join
kind_of Chain = chain_join
kind_of Sibling = sibling_join
kind_of Document = document_join

unfoldable pub join_of : Found → math.Option Join
join_of None = math.none
join_of (Some j) = math.some (join (kind_of j.kind) j.z.0 j.x.0 j.y.0)

-- the first join of a kind, or nothing where there is none; so its variables are below n
abbrev pub StageOf : JoinKind → ℕ → Facts → Found → Type 0
StageOf k n f r = (S : List Fact) → Ready n S f → join_of r ≡ first_of n (is_a_join (has f) k) (join k)

-- tables with other rows of below, for what a stage says of the rows alone
abbrev pub with_below : List ℕ → List ℕ → Facts → Facts
with_below b a f = record { child = f.child; parent = f.parent; below = b; above = a; differ = f.differ; before = f.before; after = f.after; root = f.root; label = f.label; leaf = f.leaf }
