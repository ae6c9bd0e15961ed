-- `siblings::spread` meets its contract: a table raised twice (proofs/Loops.antt).
use Rattle.grouping.proofs.Loops.{was_spread}
use Rattle.siblings.proofs.spread.Goals as goal

pub returns : goal.returns
returns c =
    was_spread c.ranges.group.fits c.ranges.across.fits (record { half = _; first = c.raise.ensures; last = c.raise-2.ensures })
