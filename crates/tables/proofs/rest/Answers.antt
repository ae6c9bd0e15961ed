-- `tables::rest` meets its contract: in a number and the one before it, all digits above the lowest one agree.
use Rattle.tables.proofs.Members.{rest_of}
use Rattle.tables.proofs.rest.Goals as goal

pub returns : goal.returns
returns c = rest_of _ c.ranges.row.fits c.requires
