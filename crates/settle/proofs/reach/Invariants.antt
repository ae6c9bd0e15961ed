-- `settle::reach` meets its contract: z by z each row gains row z of b where the same row of a has z.
use Rattle.rowbits.specs.Bit.{bit}
use Rattle.tables.specs.Tables.{row}
use Rattle.tables.specs.Rows.{gained}
use Rattle.tables.proofs.Loops.{Rowing}
use Rattle.settle.proofs.Reaching.{Reaching}
use Rattle.settle.proofs.reach.Given as goal

abbrev pub invariant-loop-x : goal.invariant-loop-x
invariant-loop-x l = Rowing (λ k v. gained (bit (row l.a k) l.z) v l.by) 16 l.initial.r l.x l.r

abbrev pub invariant-loop-z : goal.invariant-loop-z
invariant-loop-z l = Reaching l.initial.r l.a l.b l.z l.r
