use Rattle.std.proofs.Common.{rules, arith, sym, ap, ◌∙◌, bit_or, slice_index_or, Fits, w16}
use lib.Bits.{and_le_l}
use Rattle.tables.specs.Tables.{row}
use Rattle.tables.proofs.Bits.{in_both}
use Rattle.tables.proofs.Members.{passed_none, passed_less, next_in_lem, next_named}
use Rattle.sharing.specs.Shares.{apart}
use Rattle.sharing.proofs.Taking.{grown_none, taking_none, added, z_step, y_step}
use Rattle.sharing.proofs.Passing.{passing_none, passing_more, share_of, two_clash}
use Rattle.sharing.proofs.share_rows.Goals as goal

pub loop-x-init : goal.loop-x-init
loop-x-init c = passing_none _ _ _ record {
  child = search rules;
  parent = search rules;
  differ = search rules;
  label = search rules;
}

pub loop-ys-init : goal.loop-ys-init
loop-ys-init c =
    let h : Fits w16 (slice_index_or c.args.same c.loop-x.x 0) = search rules in
    (taking_none _ _ _ c.default-s.result c.default-s.ensures, passed_none _ _ h.fits)

pub row-of-requires : goal.row-of-requires
row-of-requires c = next_in_lem _ _ _ _ c.loop-ys.invariant.1 c.loop-ys-test.true c.lowest-y.ensures

pub loop-zs-init : goal.loop-zs-init
loop-zs-init c =
    let e = c.row-of.ensures in
    let own = next_named _ _ _ _ c.loop-ys.invariant.1 c.loop-ys-test.true c.lowest-y.ensures in
    let h : Fits w16 (slice_index_or c.args.t.differ c.lowest-y.result 0) = search rules in
    rw e (
      added _ _ _ _ c.loop-ys.invariant.0 own (rw e at c.with_rows-s.ensures),
      passed_none _ _
          (omega (
            arith,
            h.fits,
            and_le_l (row c.args.t.differ c.lowest-y.result)
                (bit_or c.args.several c.one.result),
          )),
      grown_none _,
    )

pub bounds-same-z : goal.bounds-same-z
bounds-same-z c = next_in_lem _ _ _ _ c.loop-zs.invariant.1 c.loop-zs-test.true c.lowest-z.ensures

pub has-requires-in-loop-zs : goal.has-requires-in-loop-zs
has-requires-in-loop-zs c = next_in_lem _ _ _ _ c.loop-zs.invariant.1 c.loop-zs-test.true c.lowest-z.ensures

pub has-requires-in-loop-zs-2 : goal.has-requires-in-loop-zs-2
has-requires-in-loop-zs-2 c = next_in_lem _ _ _ _ c.loop-zs.invariant.1 c.loop-zs-test.true c.lowest-z.ensures

pub loop-zs-smaller : goal.loop-zs-smaller
loop-zs-smaller c =
    rw (c.rest-zs.ensures _ c.lowest-z.ensures) (passed_less _ _ _ _ c.loop-zs.invariant.1 c.loop-zs-test.true
    c.lowest-z.ensures)

pub loop-zs-preserved : goal.loop-zs-preserved
loop-zs-preserved c =
    let e = c.row-of.ensures in
    let own = next_named _ _ _ _ c.loop-ys.invariant.1 c.loop-ys-test.true c.lowest-y.ensures in
    rw (c.rest-zs.ensures _ c.lowest-z.ensures)
    (z_step _ _ _ _ _ _ _ _ _ _ _ _ _ c.loop-zs.invariant own c.loop-zs-test.true c.lowest-z.ensures
    (sym c.has.ensures ∙ c.if-has.false)
    (rw e at c.has-in-loop-zs.ensures) (rw e at c.has-in-loop-zs-2.ensures) c.with_group-s.ensures)

pub loop-ys-smaller : goal.loop-ys-smaller
loop-ys-smaller c =
    rw (c.rest-ys.ensures _ c.lowest-y.ensures) (passed_less _ _ _ _ c.loop-ys.invariant.1 c.loop-ys-test.true
    c.lowest-y.ensures)

pub loop-ys-preserved : goal.loop-ys-preserved
loop-ys-preserved c =
    let e = c.row-of.ensures in
    rw (c.rest-ys.ensures _ c.lowest-y.ensures)
    (y_step _ _ _ _ _ _ _ _ _ _ _ c.loop-ys.invariant c.loop-ys-test.true c.lowest-y.ensures
    (rw (e, c.if-clashes.false) at c.clashes.ensures)
    (rw e at c.with_rows-s.ensures) c.loop-zs-test.false c.loop-zs.invariant)

pub loop-x-preserved : goal.loop-x-preserved
loop-x-preserved c =
    rw c.set.ensures (passing_more _ _ _ _ _ _ (omega arith) c.loop-x.invariant
    (share_of _ _ _ _ _ _ _ c.loop-ys-test.false c.loop-ys.invariant.0 (ap (bit_or c.args.several) c.one.ensures)
    c.loop-ys.invariant.1))

pub returns-then-clashes : goal.returns-then-clashes
returns-then-clashes c =
    let e = c.row-of.ensures in
    let own = next_named _ _ _ _ c.loop-ys.invariant.1 c.loop-ys-test.true c.lowest-y.ensures in
    two_clash _ _ c.args.several _ _ _ _ c.loop-x-test.true c.loop-ys.invariant.0 own
    (rw (e, c.if-clashes.true) at c.clashes.ensures)

pub returns-then-has : goal.returns-then-has
returns-then-has c =
    let own = next_named _ _ _ _ c.loop-ys.invariant.1 c.loop-ys-test.true c.lowest-y.ensures in
    let far = (in_both _ _ _ (next_named _ _ _ _ c.loop-zs.invariant.1 c.loop-zs-test.true c.lowest-z.ensures)).0 in
    apart _ _ _ c.loop-x-test.true own far (sym c.has.ensures ∙ c.if-has.true)
