-- `tables::when` meets its contract: by the two branches.
use Rattle.tables.proofs.Helpers.{pick_on, pick_off}
use Rattle.tables.proofs.when.Goals as goal

pub returns-then-t : goal.returns-then-t
returns-then-t c = pick_on _ _ _ c.if-t.true

pub returns : goal.returns
returns c = pick_off _ _ _ c.if-t.false
