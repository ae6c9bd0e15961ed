use mathlib.Core.Path.{sym, ◌∙◌}
use Rattle.siblings.proofs.Loops.{relating_none, relating_more, relating_less, related}
use Rattle.siblings.proofs.family.Goals as goal

pub loop-before-init : goal.loop-before-init
loop-before-init c = relating_none _ _ _ c.ranges.group.fits

pub returns-then-more-eq0 : goal.returns-then-more-eq0
returns-then-more-eq0 c =
    related _ _ _ _ _ _ c.loop-before.invariant c.union_rows-later.ensures c.union_rows-earlier.ensures (sym c.except-more.ensures ∙ c.if-more-eq0.true)

pub loop-before-smaller : goal.loop-before-smaller
loop-before-smaller c =
    rw c.except-more.ensures (relating_less _ _ _ _ _ _ c.loop-before.invariant c.union_rows-later.ensures c.union_rows-earlier.ensures (rw (← c.except-more.ensures) c.if-more-eq0.false))

pub loop-before-preserved : goal.loop-before-preserved
loop-before-preserved c =
    rw c.except-more.ensures (relating_more _ _ _ _ _ _ c.loop-before.invariant c.union_rows-later.ensures c.union_rows-earlier.ensures)
