use mathlib.Core.Path.{refl}
use borrow.Author.Rules.{rules}
use Rattle.tables.proofs.Loops.{rowing_none, rowing_more, transposing_none, transposing_more, transposed, zeros}
use Rattle.tables.proofs.transpose.Goals as goal

pub loop-y-init : goal.loop-y-init
loop-y-init c = (search rules, transposing_none _ _ refl (λ x. zeros 16 x))

pub loop-x-init : goal.loop-x-init
loop-x-init c = (search rules, rowing_none _ _ _ c.loop-y.invariant.1.long)

pub loop-x-preserved : goal.loop-x-preserved
loop-x-preserved c = (search rules, rowing_more _ _ _ _ _ _ (search rules) (rw (c.gain_one.ensures, c.has.ensures)) c.loop-x.invariant.1)

pub loop-y-preserved : goal.loop-y-preserved
loop-y-preserved c = (search rules, transposing_more _ _ _ _ _ (search rules) c.loop-x.invariant.1 c.loop-y.invariant.1)

pub returns : goal.returns
returns c = transposed _ _ _ (search rules) c.loop-y.invariant.1
