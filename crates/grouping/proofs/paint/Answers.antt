use Rattle.tables.proofs.Members.{passed_less, next_in_lem}
use Rattle.grouping.proofs.Loops.{painting_more, was_painted, none_painted}
use Rattle.grouping.proofs.paint.Goals as goal

pub returns-then-l-eq0 : goal.returns-then-l-eq0
returns-then-l-eq0 c = none_painted _ _ _ c.requires c.if-l-eq0.true

pub bounds-a-x : goal.bounds-a-x
bounds-a-x c = next_in_lem _ _ _ _ c.loop-rest.invariant.passed c.loop-rest-test.true c.lowest-x.ensures

pub loop-rest-smaller : goal.loop-rest-smaller
loop-rest-smaller c =
    rw (c.rest-rest.ensures _ c.lowest-x.ensures) (passed_less _ _ _ _ c.loop-rest.invariant.passed c.loop-rest-test.true c.lowest-x.ensures)

pub loop-rest-preserved : goal.loop-rest-preserved
loop-rest-preserved c =
    rw (c.rest-rest.ensures _ c.lowest-x.ensures) (painting_more _ _ _ _ _ _ c.loop-rest.invariant c.loop-rest-test.true c.lowest-x.ensures)

pub returns : goal.returns
returns c = was_painted _ _ _ _ _ c.loop-rest.invariant c.loop-rest-test.false
