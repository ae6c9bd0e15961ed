use Prim.Native.Nat.{◌<◌}
use Rattle.tables.proofs.Members.{passed_none, passed_more, passed_less, next_in_lem, next_named}
use Rattle.tables.proofs.Labels.{is_label, no_label}
use Rattle.tables.proofs.label_of.Goals as goal

variable_in : (c : goal.After-lowest-x) → c.lowest-x.result < 16
variable_in c = next_in_lem _ _ _ _ c.loop-left.invariant c.loop-left-test.true c.lowest-x.ensures

pub loop-left-init : goal.loop-left-init
loop-left-init c = passed_none _ _ c.ranges.rows.fits

pub bounds-t-x : goal.bounds-t-x
bounds-t-x c = variable_in c

pub returns-then-v-ne0 : goal.returns-then-v-ne0
returns-then-v-ne0 c =
    is_label _ _ _ _ c.loop-left.invariant c.lowest-x.ensures (next_named _ _ _ _ c.loop-left.invariant c.loop-left-test.true c.lowest-x.ensures) c.if-v-ne0.true

pub rest-left-requires : goal.rest-left-requires
rest-left-requires c = c.loop-left-test.true

pub loop-left-smaller : goal.loop-left-smaller
loop-left-smaller c =
    rw (c.rest-left.ensures _ c.lowest-x.ensures) (passed_less _ _ _ _ c.loop-left.invariant c.loop-left-test.true c.lowest-x.ensures)

pub loop-left-preserved : goal.loop-left-preserved
loop-left-preserved c =
    rw (c.rest-left.ensures _ c.lowest-x.ensures) (passed_more _ _ _ _ c.loop-left.invariant c.loop-left-test.true c.lowest-x.ensures _ (λ i p. p) c.if-v-ne0.false)

pub returns : goal.returns
returns c = no_label _ _ _ c.loop-left.invariant c.loop-left-test.false
