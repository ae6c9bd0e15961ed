-- The sum, as the meaning writes it.
use Rattle.std.proofs.Common.{arith}
use Rattle.meaning.specs.Results.{told}
use Rattle.capi.proofs.packed.Goals as goal

pub returns : goal.returns
unfolding told
returns c = omega arith
