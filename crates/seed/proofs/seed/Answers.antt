use native.Mathlib.Omega.{arith}
use Rattle.constraints.proofs.Records.{accepted_file, no_more}
use Rattle.seed.proofs.Seeding.{seeding_start, seeding_step, seeding_clash, few}
use Rattle.seed.proofs.Together.{exact, one_label, seeded}
use Rattle.seed.proofs.seed.Goals as goal

pub loop-number-init : goal.loop-number-init
loop-number-init c = seeding_start _

pub returns-then-second_label : goal.returns-then-second_label
returns-then-second_label c =
    let q = c.as_chunks.ensures in
    let accepts = (accepted_file c.args.file.now c.requires.0 c.requires.1).0 in
    seeding_clash _ _ accepts (λ i. (c.type_inv.file i).fits) _ (omega (arith, q.front_len)) _ _ _
    c.loop-number.invariant _ q.front
    _ _ _ _ c.index-kind.ensures c.index-x.ensures c.index-y.ensures c.folded-name.ensures _
    c.label_with-new.ensures _ c.second_label.ensures
    c.if-second_label.true

pub loop-number-preserved : goal.loop-number-preserved
loop-number-preserved c =
    let q = c.as_chunks.ensures in
    let accepts = (accepted_file c.args.file.now c.requires.0 c.requires.1).0 in
    seeding_step _ _ accepts (λ i. (c.type_inv.file i).fits) _ (omega (arith, q.front_len)) _ _ _
    c.loop-number.invariant _ q.front
    _ _ _ _ c.index-kind.ensures c.index-x.ensures c.index-y.ensures c.folded-name.ensures _
    c.label_with-new.ensures _ c.second_label.ensures
    c.if-second_label.false _ _ c.one.ensures c.one-in-loop-number.ensures

pub returns : goal.returns
returns c =
    let accepts = (accepted_file c.args.file.now c.requires.0 c.requires.1).0 in
    let over = no_more _ _ accepts c.loop-number.number-index (omega (arith, c.as_chunks.ensures.front_len)) in
    let low = few _ _ accepts (λ i. (c.type_inv.file i).fits) in
    let s = c.loop-number.invariant in
    let w = c.put_together.ensures in
    record {
      one_label = one_label _ _ over low _ _ _ s _ w;
      exact = exact _ _ over low _ _ _ s _ w;
      unmirrored = w.above_rows;
      seeded = seeded _ _ over low _ _ _ s _ w;
    }
