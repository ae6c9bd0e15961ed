-- `ordering::Order::in_order` meets its contract: at d the order has the groups of the layers below d.
use mathlib.Core.Path.{◌≡◌}
use Rattle.ordering.specs.Groups.{groups}
use Rattle.ordering.specs.Listing.{listed}
use Rattle.ordering.proofs.Order.in_order.Given as goal

abbrev pub invariant-loop-d : goal.invariant-loop-d
invariant-loop-d l = groups l.order ≡ listed l.after l.layer l.d
