-- `passes::chain_rows` meets its contract: y by y each row that has y gains row y.
use mathlib.Core.Path.{◌≡◌}
use lib.ListN.{length}
use Rattle.rowbits.specs.Bit.{bit}
use Rattle.tables.specs.Rows.{gained}
use Rattle.tables.proofs.Loops.{Rowing}
use Rattle.passes.proofs.Chain.{Lifting}
use Rattle.passes.proofs.chain_rows.Given as goal

abbrev pub invariant-loop-x : goal.invariant-loop-x
invariant-loop-x l = Rowing (λ k v. gained (bit v l.y) v l.by) 16 l.initial.a l.x l.a

abbrev pub invariant-loop-y : goal.invariant-loop-y
invariant-loop-y l = (length l.a ≡ 16) × Lifting l.initial.a l.y l.a
