-- `rowbits::has` meets its contract: it shifts the bit down and takes it.
use borrow.Author.Rules.{rules}
use Rattle.rowbits.specs.Bit.{bit}
use Rattle.rowbits.proofs.has.Goals as goal

pub returns : goal.returns
unfolding bit
returns c = search rules
