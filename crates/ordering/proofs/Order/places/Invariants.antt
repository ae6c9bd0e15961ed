-- `ordering::Order::places` meets its contract: at i the places of the groups from i on are stored.
use mathlib.Core.Path.{◌≡◌}
use lib.ListN.{length}
use Rattle.ordering.specs.Groups.{groups}
use Rattle.ordering.proofs.Listing.{Placing}
use Rattle.ordering.proofs.Order.places.Given as goal

abbrev pub invariant-loop-i : goal.invariant-loop-i
invariant-loop-i l = (length l.a ≡ 16) × Placing (groups l.self) l.i l.a
