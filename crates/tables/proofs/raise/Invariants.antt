-- `tables::raise` meets its contract: the loop has changed the rows below x.
use Prim.Native.Nat.{◌≤◌, ◌-◌}
use Rattle.rowbits.specs.Bit.{bit}
use Rattle.tables.specs.Rows.{gained}
use Rattle.tables.proofs.Loops.{Rowing}
use Rattle.tables.proofs.raise.Given as goal

abbrev pub invariant-loop-x : goal.invariant-loop-x
invariant-loop-x l = (l.x ≤ 16) × Rowing (λ k v. gained (bit l.which k) v l.by) 16 l.initial.a l.x l.a

abbrev pub decreases-loop-x : goal.decreases-loop-x
decreases-loop-x l = 16 - l.x
