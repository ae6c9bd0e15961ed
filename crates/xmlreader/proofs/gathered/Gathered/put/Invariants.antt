-- At i the records of the first i nodes are put.
use Rattle.xmlreader.proofs.Records.{First}
use Rattle.xmlreader.proofs.gathered.Gathered.put.Given as goal

abbrev pub invariant-loop-i : goal.invariant-loop-i
invariant-loop-i l = First l.self l.i l.initial.nodes l.nodes
