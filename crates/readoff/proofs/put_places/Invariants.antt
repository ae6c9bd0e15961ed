-- `readoff::put_places` meets its contract: at x the places of the variables below x are written.
use Prim.Native.Nat.{◌+◌}
use Rattle.readoff.specs.Nodes.{node_numbers}
use Rattle.readoff.specs.Written.{Recorded, place_record}
use Rattle.readoff.proofs.put_places.Given as goal

abbrev pub invariant-loop-x : goal.invariant-loop-x
invariant-loop-x l =
    let vs = node_numbers l.fn.n.count l.nodes in
    Recorded (λ y. l.first + y) (place_record vs) l.x l.initial.answer l.answer
