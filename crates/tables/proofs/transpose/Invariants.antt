-- `tables::transpose` meets its contract: the outer loop has gathered the columns from the rows below y, the inner one marks row y in each.
use Prim.Native.Nat.{◌≤◌, ◌-◌}
use Rattle.rowbits.specs.Bit.{bit}
use Rattle.tables.specs.Rows.{gained_one}
use Rattle.tables.proofs.Loops.{Rowing, Transposing}
use Rattle.tables.proofs.transpose.Given as goal

abbrev pub invariant-loop-x : goal.invariant-loop-x
invariant-loop-x l = (l.x ≤ 16) × Rowing (λ k w. gained_one (bit l.v k) w l.y) 16 l.initial.a l.x l.a

abbrev pub decreases-loop-x : goal.decreases-loop-x
decreases-loop-x l = 16 - l.x

abbrev pub invariant-loop-y : goal.invariant-loop-y
invariant-loop-y l = (l.y ≤ 16) × Transposing l.t l.y l.a

abbrev pub decreases-loop-y : goal.decreases-loop-y
decreases-loop-y l = 16 - l.y
