-- A word, a number, and the end of the line.
use Rattle.std.proofs.Common.{arith}
use Rattle.meaning.specs.Ascii.{ascii}
use Rattle.lent.proofs.Stores.{put_then}
use Rattle.putting.proofs.Numbers.{count_digits}
use Rattle.putting.proofs.Page.line.Goals as goal

pub number-requires : goal.number-requires
number-requires c = omega (arith, count_digits c.args.n (omega arith))

pub put-requires-2 : goal.put-requires-2
put-requires-2 c = omega (arith, count_digits c.args.n (omega arith))

pub returns-clause-put : goal.returns-clause-put
unfolding ascii
returns-clause-put c = put_then c.put.ensures.put (put_then c.number.ensures.put c.put-2.ensures.put)
