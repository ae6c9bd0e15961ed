use mathlib.Core.Path.{refl}
use borrow.Author.Rules.{rules}
use Rattle.tables.proofs.Loops.{rowing_none, rowing_more, combined}
use Rattle.tables.proofs.either.Goals as goal

pub loop-x-init : goal.loop-x-init
loop-x-init c = (search rules, rowing_none _ _ _ (search rules))

pub loop-x-preserved : goal.loop-x-preserved
loop-x-preserved c = (search rules, rowing_more _ _ _ _ _ _ (search rules) refl c.loop-x.invariant.1)

pub returns : goal.returns
returns c = combined _ refl _ _ _ _ (search rules) c.loop-x.invariant.0 (search rules) (search rules) c.loop-x.invariant.1
