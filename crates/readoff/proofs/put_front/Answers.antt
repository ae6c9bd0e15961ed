-- `readoff::put_front` meets its contract.
use mathlib.Core.Path.{refl}
use native.Mathlib.Omega.{arith}
use Rattle.meaning.specs.Finite.{one}
use Rattle.meaning.specs.ReadOff.{node_bytes}
use Rattle.readoff.proofs.Written.{recorded_more, document}
use Rattle.readoff.proofs.put_front.Goals as goal

pub put_node-requires-then-front : goal.put_node-requires-then-front
unfolding one
put_node-requires-then-front c = omega (arith, c.put_node.ensures.long, rw c.if-front.true at c.requires)

pub returns-then-front : goal.returns-then-front
unfolding one node_bytes
returns-then-front c =
    let first = document c.put_node.ensures in
    rw c.if-front.true (recorded_more _ _ (λ i j l. l) 1 1 _ _ _ _ refl refl first c.put_node-then-front.ensures)

pub returns-else-front : goal.returns-else-front
unfolding one node_bytes
returns-else-front c = rw c.if-front.false (document c.put_node.ensures)
