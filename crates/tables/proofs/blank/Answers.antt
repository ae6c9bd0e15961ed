-- `tables::blank` meets its contract.
use Rattle.tables.proofs.Loops.{is_blank}
use Rattle.tables.proofs.blank.Goals as goal

pub returns : goal.returns
returns c = is_blank _ _ c.crossed.ensures
