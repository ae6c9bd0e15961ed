use mathlib.Core.Logic.{◌≢◌}
use lib.Bits.{bit_and}
use Rattle.tables.specs.Tables.{row}
use Rattle.tables.proofs.Members.{passed_more, passed_less, next_in_lem}
use Rattle.ordering.proofs.InLine.{some_left, found_earliest}
use Rattle.ordering.proofs.earliest.Goals as goal

-- a member that is passed has one that goes before it
not_free : (c : goal.After-rest-left) → bit_and c.args.row (row c.args.after c.lowest-x.result) ≢ 0
not_free c = c.if-row-earlier-eq0.false

pub bounds-after-x : goal.bounds-after-x
bounds-after-x c =
    let i = c.loop-after.invariant in
    next_in_lem _ _ _ _ i.passed i.some c.lowest-x.ensures

pub returns-then-row-earlier-eq0 : goal.returns-then-row-earlier-eq0
returns-then-row-earlier-eq0 c =
    let i = c.loop-after.invariant in
    let low = c.lowest-x.ensures in
    found_earliest _ _ _ _ i.passed (next_in_lem _ _ _ _ i.passed i.some low) low c.if-row-earlier-eq0.true

pub loop-after-smaller : goal.loop-after-smaller
loop-after-smaller c =
    let i = c.loop-after.invariant in
    let low = c.lowest-x.ensures in
    rw (c.rest-left.ensures _ low) (passed_less _ _ _ _ i.passed i.some low)

pub loop-after-preserved : goal.loop-after-preserved
loop-after-preserved c =
    let i = c.loop-after.invariant in
    let low = c.lowest-x.ensures in
    let next = passed_more _ _ _ _ i.passed i.some low _ (λ j p. p) (not_free c) in
    let some = some_left _ _ _ c.ranges.row.fits c.requires.0 c.requires.1 next in
    rw (c.rest-left.ensures _ low) record { some = some; passed = next }
