-- `ordering::Order::push` meets its contract.
use native.Mathlib.Omega.{arith}
use borrow.Author.Rules.{rules}
use Rattle.ordering.specs.Groups.{groups}
use Rattle.ordering.proofs.Listing.{numbers_more, variables_more}
use Rattle.ordering.proofs.Order.push.Goals as goal

pub invariant_of-self : goal.invariant_of-self
invariant_of-self c =
    let o = c.args.self.now in
    let more = numbers_more o.group o.len c.args.x.0 (omega (arith, o.long, c.requires.1)) in
    record { long = search rules; few = omega arith; inside = variables_more _ _ _ more c.requires.0 o.inside }

pub returns : goal.returns
unfolding groups
returns c = let o = c.args.self.now in numbers_more o.group o.len c.args.x.0 (omega (arith, o.long, c.requires.1))
