use Rattle.ordering.proofs.Layered.{layered_more}
use borrow.Author.Rules.{rules}
use Rattle.ordering.proofs.Ancestry.layers.Goals as goal

pub loop-x-preserved : goal.loop-x-preserved
loop-x-preserved c =
    let x = c.loop-x in
    let more = layered_more _ _ _ _ x.x _ _ _ x.layer x.invariant.0 c.depth-depth.ensures.value in
    (search rules, more c.has.ensures c.gain_one.ensures x.invariant.1)
