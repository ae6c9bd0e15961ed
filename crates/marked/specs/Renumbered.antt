-- N1 to N3 of the table, each with its renumbering: by these rows a renumbering can change the count of a tree, the count of a none, and n.
use Rattle.std.specs.Prelude.{◌≡◌, List, ℕ, eqb}
use Rattle.meaning.specs.Tree.{Var}
use Rattle.meaning.specs.Constraint.{Constraint, vars}
use Rattle.meaning.specs.Finite.{pick}
use Rattle.meaning.specs.Files.{accepted, judge}
use Rattle.meaning.specs.Shuffled.{Renumbering, Renumbered}
use Rattle.marked.specs.Table.{N1-file, N1-other, N2-file, N2-other, N3-file, N3-other}

-- i and j exchanged
unfoldable pub swap : Var → Var → Var → Var
swap i j x = pick (eqb x i) j (pick (eqb x j) i x)

-- the file is accepted, and n is its number of variables
abbrev pub OwnN : List ℕ → ℕ → Type 0
OwnN file n = (cs : List Constraint) × (judge file ≡ accepted cs) × (vars cs ≡ n)

-- the other file is this one, of n variables, with i and j exchanged
pub record Swapped (n : ℕ) (i j : Var) (file other : List ℕ) : Type 0 where
  pub own : OwnN file n
  pub renumbering : Renumbering n (swap i j)
  pub renumbered : Renumbered (swap i j) file other

pub record RowsRenumbered : Type 0 where
  pub N1-swapped : Swapped 4 0 1 N1-file N1-other
  pub N2-swapped : Swapped 4 0 3 N2-file N2-other
  pub N3-swapped : Swapped 3 0 2 N3-file N3-other
  -- the other file's own n is smaller
  pub N3-fewer : OwnN N3-other 2
