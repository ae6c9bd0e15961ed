use Rattle.std.proofs.Common.{rules, arith}
use Rattle.settle.proofs.Reaching.{reaching_more, reached}
use Rattle.settle.proofs.reach.Goals as goal

pub loop-z-preserved : goal.loop-z-preserved
loop-z-preserved c = reaching_more _ _ _ _ _ _ _ (omega arith) c.loop-x.auto.x-end c.loop-x.invariant
    c.loop-z.invariant

pub returns : goal.returns
returns c = reached _ _ _ _ _ (omega arith) (λ i. search rules) c.loop-z.invariant
