-- `ordering::earliest` meets its contract: some members are left, and each passed one has one that goes before it.
use mathlib.Core.Logic.{◌≢◌}
use lib.Bits.{bit_and}
use Rattle.tables.specs.Tables.{row}
use Rattle.tables.proofs.Members.{Passed}
use Rattle.ordering.proofs.earliest.Given as goal

abbrev pub invariant-loop-after : goal.invariant-loop-after
invariant-loop-after l = record {
  some : l.left ≢ 0;
  passed : Passed (λ i. bit_and l.row (row l.after i) ≢ 0) l.row l.left;
}

abbrev pub decreases-loop-after : goal.decreases-loop-after
decreases-loop-after l = l.left
