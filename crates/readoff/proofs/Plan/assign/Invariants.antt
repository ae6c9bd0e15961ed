-- `readoff::Plan::assign` meets its contract: at x the variables below x have their nodes.
use mathlib.Core.Path.{◌≡◌}
use lib.ListN.{length}
use Rattle.meaning.specs.Finite.{tab}
use Rattle.readoff.specs.Nodes.{node_numbers}
use Rattle.readoff.specs.Planned.{node_for}
use Rattle.readoff.proofs.Plan.assign.Given as goal

abbrev pub invariant-loop-x : goal.invariant-loop-x
invariant-loop-x l = (length l.nodes ≡ 16) × (node_numbers l.x l.nodes ≡ tab l.x (node_for l.self l.root))
