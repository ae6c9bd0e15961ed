-- `merge::next_set` meets its contract.
use mathlib.Core.Path.{refl}
use mathlib.Core.Logic.{inr}
use lib.ListN.{get_or}
use mir.Val.{Fits}
use mir.Syntax.{w16}
use Rattle.tables.proofs.Members.{lowest_in}
use Rattle.merge.proofs.Loops.{none_apart, none_union, one_union}
use borrow.Author.Rules.{rules}
use Rattle.merge.proofs.next_set.Goals as goal

pub returns-then-root-eq0 : goal.returns-then-root-eq0
returns-then-root-eq0 c h a =
    inr (0, rw (← c.if-next-ne0.false) (c.with_gap-next.ensures h), none_union _ _ c.if-root-eq0.true, none_apart _ 0 refl)

pub bounds-child-x : goal.bounds-child-x
bounds-child-x c = lowest_in _ _ c.ranges.root.fits c.if-root-eq0.false c.lowest-x.ensures

pub returns : goal.returns
returns c h a =
    let row_small : Fits w16 (get_or c.args.child c.lowest-x.result 0) = search rules in
    inr (
      _,
      rw (← c.if-next-ne0.false) (c.with_gap-next.ensures h),
      one_union _ _ _ c.ranges.root.fits c.if-root-eq0.false c.lowest-x.ensures row_small.fits a,
      c.with_gap.ensures h,
    )
