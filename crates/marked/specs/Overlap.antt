-- O1 and O2 of the table by the rules of before: the same none and the same tree, after more choices, so that two allowances of each were spent.
use Rattle.std.specs.Prelude.{◌≡◌, List, ℕ}
use Rattle.meaning.specs.Constraint.{Constraint, vars}
use Rattle.meaning.specs.Demand.{Answer, a_tree, a_none, a_spent}
use Rattle.meaning.specs.Files.{accepted, judge}
use Rattle.theory.specs.Overlap.{AnsweredBefore}
use Rattle.marked.specs.Table.{plenty, O1-file, O2-file, O2-tree}

-- the file is accepted, and this was the answer, and no other
pub record Was (file : List ℕ) (A : ℕ) (a : Answer) : Type 0 where
  pub constraints : List Constraint
  pub accepts : judge file ≡ accepted constraints
  pub answered : AnsweredBefore A (vars constraints) constraints a
  pub only : {b : Answer} → AnsweredBefore A (vars constraints) constraints b → b ≡ a

pub record RowsBefore : Type 0 where
  pub O1-none : Was O1-file plenty (a_none 10)
  pub O1-ten : Was O1-file 10 (a_none 10)
  pub O1-nine : Was O1-file 9 (a_spent 9)
  pub O1-eight : Was O1-file 8 (a_spent 8)
  pub O2-found : Was O2-file plenty (a_tree 11 O2-tree)
  pub O2-ten : Was O2-file 10 (a_spent 10)
  pub O2-nine : Was O2-file 9 (a_spent 9)
