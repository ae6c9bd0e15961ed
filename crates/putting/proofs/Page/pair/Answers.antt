-- A word and two numbers with a space between them.
use Rattle.std.proofs.Common.{arith}
use Rattle.meaning.specs.Ascii.{ascii}
use Rattle.lent.proofs.Stores.{put_then}
use Rattle.putting.proofs.Numbers.{byte_digits}
use Rattle.putting.proofs.Page.pair.Goals as goal

pub number-requires : goal.number-requires
number-requires c = omega (arith, byte_digits c.args.a (omega arith))

pub put-requires-2 : goal.put-requires-2
put-requires-2 c = omega (arith, byte_digits c.args.a (omega arith))

pub number-requires-2 : goal.number-requires-2
number-requires-2 c = omega (arith, byte_digits c.args.a (omega arith), byte_digits c.args.b (omega arith))

pub returns-clause-put : goal.returns-clause-put
unfolding ascii
returns-clause-put c = put_then c.put.ensures.put (put_then c.number.ensures.put
    (put_then c.put-2.ensures.put c.number-2.ensures.put))
