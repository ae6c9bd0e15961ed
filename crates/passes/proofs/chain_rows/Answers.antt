use Rattle.std.proofs.Common.{arith}
use Rattle.passes.proofs.Chain.{lifting_more, lifted}
use Rattle.passes.proofs.chain_rows.Goals as goal

pub loop-y-preserved : goal.loop-y-preserved
loop-y-preserved c = (
  c.loop-x.invariant.long,
  lifting_more _ _ _ _ (omega arith) (lifted _ _ _ _ (omega arith) c.loop-x.auto.x-end c.loop-x.invariant)
      c.loop-y.invariant.1,
)
