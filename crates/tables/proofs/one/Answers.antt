-- `tables::one` meets its contract: the shifted one is a power of two.
use Rattle.rowbits.proofs.Laws.{shifted_one}
use Rattle.tables.proofs.one.Goals as goal

pub returns : goal.returns
returns c = rw (shifted_one 16 c.args.y c.requires)
