-- `tables::meet` meets its contract: the test is the definition.
use Rattle.tables.specs.Rows.{meets}
use Rattle.tables.proofs.Helpers.{not_is}
use Rattle.tables.proofs.meet.Goals as goal

pub returns : goal.returns
unfolding meets
returns c = not_is _
