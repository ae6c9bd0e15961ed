-- `ordering::Order::append` meets its contract: at every turn the order and the rest of the row make the whole.
use Rattle.ordering.specs.Groups.{groups}
use Rattle.ordering.proofs.Listing.{Appending}
use Rattle.ordering.proofs.Order.append.Given as goal

abbrev pub invariant-loop-rest : goal.invariant-loop-rest
invariant-loop-rest l = Appending l.after l.row (groups l.initial.self) l.rest (groups l.self)

abbrev pub decreases-loop-rest : goal.decreases-loop-rest
decreases-loop-rest l = l.rest
