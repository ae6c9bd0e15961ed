use mathlib.Core.Path.{◌≡◌}
use Prim.Native.Nat.{◌+◌, ◌-◌, ◌<◌}
use native.Mathlib.Omega.{arith}
use borrow.Author.Rules.{rules}
use Rattle.ordering.specs.Groups.{groups}
use Rattle.ordering.proofs.Listing.{count_is, member_at, inside_at, placing_more}
use Rattle.ordering.proofs.Order.places.Goals as goal

pub loop-i-preserved : goal.loop-i-preserved
loop-i-preserved c =
    let o = c.args.self.now in
    let i = c.loop-i.i - 1 in
    let l : i < o.len = omega arith in
    let e : i + 1 ≡ c.loop-i.i = omega arith in (
      search rules,
      placing_more (groups o) i c.loop-i.a _ (omega (arith, l, count_is o)) (member_at o _ l)
          (omega (arith, inside_at o _ l, c.loop-i.invariant.0)) (rw e c.loop-i.invariant.1),
    )
