use native.Mathlib.Omega.{arith}
use Rattle.ordering.specs.Listing.{Earliest}
use Rattle.ordering.proofs.Listing.{count_is, next_in_lem, appending_room}
use Rattle.ordering.proofs.Order.append.Goals as goal

pub push-requires : goal.push-requires
push-requires c =
    let w = c.loop-rest.invariant in
    let e : Earliest c.args.after c.loop-rest.rest c.earliest-x.result = c.earliest-x.ensures in
    let o = c.loop-rest.self in
    (next_in_lem w _ e, omega (arith, appending_room w _ e c.requires.0, count_is o))
