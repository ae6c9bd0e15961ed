use borrow.Author.Rules.{rules}
use Rattle.passes.proofs.Joining.{joining_more}
use Rattle.passes.proofs.join_rows.Goals as goal

pub loop-x-preserved : goal.loop-x-preserved
loop-x-preserved c =
    joining_more _ _ _ _ _ _ _ _ _ _ _ (search rules) c.loop-x.invariant c.union_rows.ensures
    c.union_rows-in-loop-x.ensures
