-- `settle::settle` meets its contract. The rounds end because the tables grow with each that has more; the last one leaves tables that are settled.
use mathlib.Core.List.{List}
use Prim.Native.Nat.{◌-◌}
use Rattle.meaning.specs.Constraint.{Fact}
use Rattle.tables.specs.Tables.{Seeded}
use Rattle.passes.specs.Steps.{weight}
use Rattle.settle.proofs.settle.Given as goal

abbrev pub invariant-loop-p : goal.invariant-loop-p
invariant-loop-p l = (S : List Fact) → Seeded l.n.count S l.fn.f → Seeded l.n.count S l.g

abbrev pub decreases-loop-p : goal.decreases-loop-p
decreases-loop-p l = 3145728 - weight l.g
