-- `sharing::share_rows` meets its contract. The loop over x knows what every row that was passed holds, the loops over y and z what x has taken so
-- far.
use Rattle.tables.specs.Tables.{row}
use Rattle.sharing.proofs.Taking.{Zs, Ys}
use Rattle.sharing.proofs.Passing.{Passing}
use Rattle.sharing.proofs.share_rows.Given as goal

abbrev pub invariant-loop-zs : goal.invariant-loop-zs
invariant-loop-zs l = Zs l.same l.t (row l.same l.x) l.x l.visits l.y l.initial.s l.s l.zs

abbrev pub decreases-loop-zs : goal.decreases-loop-zs
decreases-loop-zs l = l.zs

abbrev pub invariant-loop-ys : goal.invariant-loop-ys
invariant-loop-ys l = Ys l.same l.t (row l.same l.x) l.x l.visits l.s l.ys

abbrev pub decreases-loop-ys : goal.decreases-loop-ys
decreases-loop-ys l = l.ys

abbrev pub invariant-loop-x : goal.invariant-loop-x
invariant-loop-x l = Passing l.same l.t l.several l.x l.shares
