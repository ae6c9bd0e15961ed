-- The variables that a record names: x in every kind, and y in kinds 1 to 5 and 9.
use mathlib.Core.Path.{◌≡◌, sym, subst}
use Prim.Native.Nat.{ℕ, ◌<◌}
use native.Mathlib.Omega.{arith}
use Rattle.meaning.specs.Constraint.{named}
use Rattle.constraints.specs.Record.{constraint_as, constraint_of}
use Rattle.constraints.specs.declared.Kind.{Kind}
use Rattle.constraints.specs.declared.Kind.TheVariants.{Child, Below, StrictlyBelow, Same, Differ, Root, Leaf, Label, Before}
use Rattle.constraints.specs.declared.Record.{Record}

x_of_kind : (k : Kind) (x y l : ℕ) → x < named (constraint_as k x y l)
unfolding named constraint_as
x_of_kind Child x y l = omega arith
x_of_kind Below x y l = omega arith
x_of_kind StrictlyBelow x y l = omega arith
x_of_kind Same x y l = omega arith
x_of_kind Differ x y l = omega arith
x_of_kind Root x y l = omega arith
x_of_kind Leaf x y l = omega arith
x_of_kind Label x y l = omega arith
x_of_kind Before x y l = omega arith

pub x_named : (r : Record) → r.x.0 < named (constraint_of r)
unfolding constraint_of
x_named r = x_of_kind r.kind r.x.0 r.y.0 r.label

-- y, where the kind is known
pub y_named : (r : Record) (k : Kind) → r.kind ≡ k → r.y.0 < named (constraint_as k r.x.0 r.y.0 r.label) → r.y.0 < named (constraint_of r)
unfolding constraint_of
y_named r k e h = subst (λ (j : Kind). r.y.0 < named (constraint_as j r.x.0 r.y.0 r.label)) (sym e) h
