-- Two labels given to one variable are a clash, whatever the number of variables.
use mathlib.Core.List.{List}
use Prim.Native.Nat.{ℕ}
use Rattle.meaning.specs.Constraint.{Fact}
use Rattle.meaning.specs.Settled.{Clash, labels, given}
use Rattle.seed.specs.Seeds.{GivesTwoLabels}

pub two_labels_clash : (n : ℕ) {S : List Fact} → GivesTwoLabels S → Clash n S
two_labels_clash n t = labels (given t.gives_one) (given t.gives_other) t.unlike
