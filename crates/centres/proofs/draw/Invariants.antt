-- A turn of `draw` adds one record's claim; what sums and questions mean is `Claims` and `Asked`.
use Rattle.centres.proofs.Claims.{Progress}
use Rattle.centres.proofs.draw.Given as goal

abbrev pub invariant-loop-c : goal.invariant-loop-c
invariant-loop-c l = Progress l.c-items l.c-index l.claims
