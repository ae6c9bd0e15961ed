-- The line of a node and the line of a place. Room is shown for any byte as the last number, so that a wrong one is refused by what is printed.
use Rattle.std.proofs.Common.{arith}
use Rattle.meaning.specs.Ascii.{ascii}
use Rattle.lent.proofs.Stores.{put_same, put_then}
use Rattle.putting.proofs.Numbers.{byte_digits}
use Rattle.putting.proofs.Lines.{pair_short, place_line, node_line}
use Rattle.putting.proofs.Page.record.Goals as goal

pub put-requires : goal.put-requires
unfolding ascii
put-requires c = omega (arith, pair_short c.args.a c.args.b (omega arith) (omega arith))

pub returns-then-kind-ne1-clause-put : goal.returns-then-kind-ne1-clause-put
unfolding ascii
returns-then-kind-ne1-clause-put c =
    put_same (place_line c.args.kind c.args.a c.args.b c.args.c c.if-kind-ne1.true)
    (put_then c.pair.ensures.put c.put.ensures.put)

pub put-requires-2 : goal.put-requires-2
unfolding ascii
put-requires-2 c = omega (arith, pair_short c.args.a c.args.b (omega arith) (omega arith))

pub number-requires : goal.number-requires
unfolding ascii
number-requires c =
    omega (arith, pair_short c.args.a c.args.b (omega arith) (omega arith), byte_digits c.args.b (omega arith), byte_digits c.args.c (omega arith))

pub put-requires-3 : goal.put-requires-3
unfolding ascii
put-requires-3 c =
    omega (arith, pair_short c.args.a c.args.b (omega arith) (omega arith), byte_digits c.args.b (omega arith), byte_digits c.args.c (omega arith))

pub returns-clause-put : goal.returns-clause-put
unfolding ascii
returns-clause-put c =
    put_same (node_line c.args.kind c.args.a c.args.b c.args.c c.if-kind-ne1.false)
    (put_then c.pair-2.ensures.put (put_then c.put-2.ensures.put (put_then c.number.ensures.put c.put-3.ensures.put)))
