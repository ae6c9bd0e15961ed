-- `tables::gain` meets its contract: from what `when` ensures.
use Rattle.tables.specs.Rows.{gained}
use Rattle.tables.proofs.gain.Goals as goal

pub returns : goal.returns
unfolding gained
returns c = rw c.when.ensures
