-- `marker::has` meets its contract.
use borrow.Author.Rules.{rules}
use Rattle.rowbits.specs.Bit.{bit}
use Rattle.marker.proofs.has.Goals as goal

pub returns : goal.returns
unfolding bit
returns c = search rules
