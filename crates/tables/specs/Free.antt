-- What it is for a set of facts to have no clash. Two labels on one variable are in no tables.
use Rattle.meaning.specs.Tree.{Var, Label}
use Rattle.meaning.specs.Constraint.{Fact, below, differ, before, root, leaf, label}

-- before with below neither way
pub record Clear (P : Fact → Type 0) : Type 0 where
  pub not_above : (x y : Var) → P (before x y) → ¬ P (below x y)
  pub not_under : (x y : Var) → P (before x y) → ¬ P (below y x)

-- neither leaf nor label on the document node
pub record Bare (P : Fact → Type 0) : Type 0 where
  pub no_leaf : (x : Var) → P (root x) → ¬ P (leaf x)
  pub no_label : (x : Var) (l : Label) → P (root x) → ¬ P (label x l)

pub record Free (P : Fact → Type 0) : Type 0 where
  pub apart : (x : Var) → ¬ P (differ x x)
  pub clear : Clear P
  pub bare : Bare P
