-- `tables::either` meets its contract: the loop has changed the rows below x.
use Prim.Native.Nat.{◌≤◌, ◌-◌}
use lib.Bits.{bit_or}
use Rattle.tables.specs.Tables.{row}
use Rattle.tables.proofs.Loops.{Rowing}
use Rattle.tables.proofs.either.Given as goal

abbrev pub invariant-loop-x : goal.invariant-loop-x
invariant-loop-x l = (l.x ≤ 16) × Rowing (λ k v. bit_or v (row l.u k)) 16 l.initial.a l.x l.a

abbrev pub decreases-loop-x : goal.decreases-loop-x
decreases-loop-x l = 16 - l.x
