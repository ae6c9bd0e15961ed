-- `tables::crossed` meets its contract: the loop has gathered what the rows below x have in common with those of the other tables.
use Prim.Native.Nat.{◌≤◌, ◌-◌}
use Rattle.tables.proofs.Loops.{Crossing}
use Rattle.tables.proofs.crossed.Given as goal

abbrev pub invariant-loop-x : goal.invariant-loop-x
invariant-loop-x l = (l.x ≤ 16) × Crossing l.t l.below l.above l.x l.any

abbrev pub decreases-loop-x : goal.decreases-loop-x
decreases-loop-x l = 16 - l.x
