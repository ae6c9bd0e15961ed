-- `ordering::count` meets its contract: sixteen digits have at most sixteen set.
use native.Mathlib.Omega.{arith}
use lib.Count.{ones-le}
use Rattle.ordering.proofs.count.Goals as goal

pub returns : goal.returns
returns c = omega (arith, ones-le 16 _ c.ranges.row.fits)
