-- `tables::lowest` meets its contract: a count of trailing zeros stands at the lowest bit.
use native.Mathlib.Omega.{arith}
use lib.Count.{trailing_le}
use Rattle.tables.proofs.Bits.{lowest_of}
use Rattle.tables.proofs.lowest.Goals as goal

pub overflow_cast-result : goal.overflow_cast-result
overflow_cast-result c = let h = trailing_le 16 c.args.row in record { fits = omega arith }

pub returns : goal.returns
returns c = lowest_of _
