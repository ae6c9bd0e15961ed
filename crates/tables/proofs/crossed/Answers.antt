use mathlib.Core.Path.{refl}
use mir.Val.{Fits}
use mir.Syntax.{w16}
use borrow.Author.Rules.{rules}
use Rattle.tables.specs.Tables.{row}
use Rattle.tables.proofs.Loops.{crossing_none, crossing_more, was_crossed}
use Rattle.tables.proofs.crossed.Goals as goal

pub loop-x-init : goal.loop-x-init
loop-x-init c = (search rules, crossing_none _ _ _)

pub loop-x-preserved : goal.loop-x-preserved
loop-x-preserved c =
    let v : Fits w16 (row c.args.t c.loop-x.x) = search rules in
    (search rules, crossing_more _ _ _ _ _ (search rules) v.fits c.loop-x.invariant.1)

pub returns : goal.returns
returns c = was_crossed _ _ _ _ _ (search rules) c.loop-x.invariant.1 _ refl
