use mir.Val.{Fits}
use mir.Syntax.{w16}
use Prim.Native.Nat.{◌<◌}
use native.Mathlib.Omega.{arith}
use Rattle.tables.specs.Tables.{row}
use Rattle.tables.proofs.Members.{uniting_none, uniting_more, next_in_lem, passed_less, is_union}
use borrow.Author.Rules.{rules}
use Rattle.tables.proofs.union_rows.Goals as goal

variable_in : (c : goal.After-lowest-x) → c.lowest-x.result < 16
variable_in c = next_in_lem _ _ _ _ c.loop-left.invariant.passed c.loop-left-test.true c.lowest-x.ensures

pub loop-left-init : goal.loop-left-init
loop-left-init c = uniting_none _ _ c.ranges.rows.fits

pub offset_bounds-t-x : goal.offset_bounds-t-x
offset_bounds-t-x c = omega (arith, variable_in c)

pub bounds-t-x : goal.bounds-t-x
bounds-t-x c = variable_in c

pub rest-left-requires : goal.rest-left-requires
rest-left-requires c = c.loop-left-test.true

pub loop-left-smaller : goal.loop-left-smaller
loop-left-smaller c =
    rw (c.rest-left.ensures _ c.lowest-x.ensures) (passed_less _ _ _ _ c.loop-left.invariant.passed c.loop-left-test.true c.lowest-x.ensures)

pub loop-left-preserved : goal.loop-left-preserved
loop-left-preserved c =
    let v : Fits w16 (row c.args.t c.lowest-x.result) = search rules in
    rw (c.rest-left.ensures _ c.lowest-x.ensures) (uniting_more _ _ _ _ _ c.loop-left.invariant c.loop-left-test.true c.lowest-x.ensures v.fits)

pub returns : goal.returns
returns c = is_union _ _ _ _ c.loop-left.invariant c.loop-left-test.false
