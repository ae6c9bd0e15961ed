-- At k the links of the nodes from k on hold all children from k on.
use Prim.Native.Nat.{◌≤◌}
use Rattle.xmlwriter.proofs.Linking.{HeldFrom}
use Rattle.xmlwriter.proofs.links.Links.link.Given as goal

abbrev pub invariant-loop-k : goal.invariant-loop-k
invariant-loop-k l = (1 ≤ l.k) × HeldFrom l.nodes l.self l.k
