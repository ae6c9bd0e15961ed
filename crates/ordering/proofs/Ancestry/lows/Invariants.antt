-- `ordering::Ancestry::lows` meets its contract: at x the row holds the lowest variables below x, of roots too.
use Rattle.ordering.specs.Rows.{Gathered, is_low}
use Rattle.ordering.proofs.Ancestry.lows.Given as goal

abbrev pub invariant-loop-x : goal.invariant-loop-x
invariant-loop-x l = Gathered l.x (is_low l.self.below l.self.above) l.a
