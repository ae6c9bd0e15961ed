use mathlib.Core.Path.{refl}
use native.Mathlib.Nat.{le_trans}
use borrow.Author.Rules.{rules}
use Rattle.tables.proofs.Loops.{rowing_none, rowing_more}
use Rattle.chains.proofs.incomparable_rows.Goals as goal

pub loop-x-init : goal.loop-x-init
loop-x-init c = rowing_none _ _ _ (search rules)

pub loop-x-preserved : goal.loop-x-preserved
loop-x-preserved c = rowing_more _ _ _ _ _ _ (search rules) refl c.loop-x.invariant

pub returns : goal.returns
returns c = λ x h. c.loop-x.invariant.done x (le_trans h c.loop-x-test.false)
