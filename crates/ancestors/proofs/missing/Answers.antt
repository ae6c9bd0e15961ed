use Prim.Native.Nat.{◌<◌}
use Rattle.tables.proofs.Members.{next_in_lem, passed_less}
use Rattle.ancestors.proofs.Lacks.{lacks_none, lacks_more}
use Rattle.ancestors.proofs.missing.Goals as goal

variable_in : (c : goal.After-lowest-x) → c.lowest-x.result < 16
variable_in c = next_in_lem _ _ _ _ c.loop-left.invariant.passed c.loop-left-test.true c.lowest-x.ensures

pub loop-left-init : goal.loop-left-init
loop-left-init c = lacks_none _ _ _ c.ranges.rows.fits

pub bounds-t-x : goal.bounds-t-x
bounds-t-x c = variable_in c

pub loop-left-smaller : goal.loop-left-smaller
loop-left-smaller c =
    rw (c.rest-left.ensures _ c.lowest-x.ensures) (passed_less _ _ _ _ c.loop-left.invariant.passed c.loop-left-test.true c.lowest-x.ensures)

pub loop-left-preserved : goal.loop-left-preserved
loop-left-preserved c =
    rw (c.rest-left.ensures _ c.lowest-x.ensures, c.except-a.ensures)
    (lacks_more _ _ _ _ _ _ c.ranges.of.fits c.loop-left.invariant c.loop-left-test.true c.lowest-x.ensures)
