-- `tables::gain_one` meets its contract: from what `gain` and `one` ensure.
use Rattle.tables.specs.Rows.{gained_one}
use Rattle.tables.proofs.gain_one.Goals as goal

pub returns : goal.returns
unfolding gained_one
returns c = rw (c.gain.ensures, c.one.ensures)
