-- `passes::join_rows` meets its contract: the loop has joined the rows below x.
use Rattle.passes.proofs.Joining.{Joining}
use Rattle.passes.proofs.join_rows.Given as goal

abbrev pub invariant-loop-x : goal.invariant-loop-x
invariant-loop-x l = Joining l.initial.a l.above l.leaf l.root l.child l.parent l.x l.a l.more
