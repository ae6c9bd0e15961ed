-- The groups of an order as a list.
use Rattle.std.specs.Prelude.{ℕ}
use mathlib.Core.List.{List}
use Rattle.ordering.specs.Listing.{numbers}
use Rattle.ordering.specs.declared.Order.{Order}

-- the numbers of the groups' variables
unfoldable pub groups : Order → List ℕ
groups o = numbers o.group o.len
