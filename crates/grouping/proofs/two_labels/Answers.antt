use Rattle.tables.proofs.Members.{passed_more, passed_less, next_in_lem}
use Rattle.grouping.proofs.Loops.{only_one, is_one}
use Rattle.grouping.proofs.two_labels.Goals as goal

pub bounds-t-x : goal.bounds-t-x
bounds-t-x c = next_in_lem _ _ _ _ c.loop-rest.invariant c.loop-rest-test.true c.lowest-x.ensures

pub loop-rest-smaller : goal.loop-rest-smaller
loop-rest-smaller c =
    rw (c.rest-rest.ensures _ c.lowest-x.ensures) (passed_less _ _ _ _ c.loop-rest.invariant c.loop-rest-test.true c.lowest-x.ensures)

pub loop-rest-preserved : goal.loop-rest-preserved
loop-rest-preserved c =
    rw (c.rest-rest.ensures _ c.lowest-x.ensures) (passed_more _ _ _ _ c.loop-rest.invariant c.loop-rest-test.true c.lowest-x.ensures _ (λ i p. p)
    (only_one c.args.t c.args.l c.lowest-x.result c.if-v-l.false))

pub returns : goal.returns
returns c = is_one _ _ _ _ c.loop-rest.invariant c.loop-rest-test.false
