-- `merge::with_gap` meets its contract: below chains through the lowest, and what the lowest has not both below and above it shows a gap.
use mathlib.Core.Path.{sym, ◌∙◌}
use Prim.Native.Nat.{◌<◌}
use Rattle.tables.proofs.Members.{lowest_in}
use Rattle.merge.proofs.Loops.{none_apart, is_apart, not_apart}
use Rattle.merge.proofs.with_gap.Goals as goal

variable_in : (c : goal.After-lowest-x) → c.lowest-x.result < 16
variable_in c = lowest_in _ _ c.ranges.rows.fits c.if-rows-eq0.false c.lowest-x.ensures

pub returns-then-rows-eq0 : goal.returns-then-rows-eq0
returns-then-rows-eq0 c h = none_apart _ _ c.if-rows-eq0.true

pub bounds-below-x : goal.bounds-below-x
bounds-below-x c = variable_in c

pub bounds-above-x : goal.bounds-above-x
bounds-above-x c = variable_in c

pub returns-then-except-ne0 : goal.returns-then-except-ne0
returns-then-except-ne0 c h =
    is_apart c.args.below c.args.above _ _ c.ranges.rows.fits c.if-rows-eq0.false c.lowest-x.ensures h (rw (← c.except.ensures) c.if-except-ne0.true)

pub returns : goal.returns
returns c h =
    not_apart c.args.below c.args.above _ _ c.ranges.rows.fits c.if-rows-eq0.false c.lowest-x.ensures h (sym c.except.ensures ∙ c.if-except-ne0.false)
