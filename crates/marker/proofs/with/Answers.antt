-- `marker::with` meets its contract: the shifted one is the power of two, since the node is below 64.
use Rattle.rowbits.proofs.Laws.{shifted_one}
use Rattle.rowbits.specs.Bit.{with_bit}
use Rattle.marker.proofs.with.Goals as goal

pub returns : goal.returns
unfolding with_bit
returns c = rw (shifted_one 64 c.args.node.0 c.requires)
