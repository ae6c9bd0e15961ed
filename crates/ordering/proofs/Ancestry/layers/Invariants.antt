-- `ordering::Ancestry::layers` meets its contract: at x the layers hold the lowest variables below x.
use mathlib.Core.Path.{◌≡◌}
use lib.ListN.{length}
use Rattle.ordering.proofs.Layered.{Layered}
use Rattle.ordering.proofs.Ancestry.layers.Given as goal

abbrev pub invariant-loop-x : goal.invariant-loop-x
invariant-loop-x l = (length l.layer ≡ 17) × Layered l.self.below l.self.above l.self.n.count l.lows l.x l.layer
