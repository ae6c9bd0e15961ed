use Rattle.std.proofs.Common.{rules, arith}
use Rattle.settle.proofs.Sibling.{ordering, passing, both_grew}
use Rattle.settle.proofs.Ending.{grew, no_less, weight_most}
use Rattle.settle.proofs.Rounds.{passed_on, blank_settles, order_clashes, order_settles, order_kept, rowed}
use Rattle.settle.proofs.settle.Goals as goal

pub returns-in_err-p : goal.returns-in_err-p
returns-in_err-p c = rw c.from_residual.ensures (λ S s. c.in_err-p.ensures S (c.loop-p.invariant S s))

pub loop-p-smaller-then-p : goal.loop-p-smaller-then-p
loop-p-smaller-then-p c =
    let a = grew c.in_ok-p.ensures c.if-p.true in
    let b = weight_most c.in_ok-p.p.facts (λ i. search rules) (λ i. search rules) (λ i. search rules) in
    omega (arith, a, b)

pub loop-p-preserved-then-p : goal.loop-p-preserved-then-p
loop-p-preserved-then-p c = passed_on c.args.n.few c.loop-p.invariant c.in_ok-p.ensures

pub returns-then-blank : goal.returns-then-blank
returns-then-blank c = blank_settles c.args.n.few c.loop-p.invariant c.in_ok-p.ensures c.if-p.false c.blank.ensures
    c.if-blank.true

pub returns-in_err-before : goal.returns-in_err-before
returns-in_err-before c =
    rw c.from_residual-in_err-before.ensures (order_clashes c.args.n.few c.loop-p.invariant c.in_ok-p.ensures
    c.if-p.false c.in_err-before.ensures)

pub returns-then-not-unlike : goal.returns-then-not-unlike
returns-then-not-unlike c =
    order_settles c.args.n.few c.loop-p.invariant c.in_ok-p.ensures c.if-p.false c.in_ok-before.ensures
    (search rules) c.differ_rows-apart.ensures
    c.child_rows-passed.ensures c.unlike.ensures c.if-not-unlike.true

pub loop-p-smaller : goal.loop-p-smaller
loop-p-smaller c =
    let b = weight_most (passing (ordering c.in_ok-p.p.facts c.in_ok-before.field-0.before
    c.in_ok-before.field-0.after c.differ_rows-apart.result)
    c.child_rows-passed.result c.transpose-parent.result c.differ_rows-differ.result)
    (λ i. search (rules, c.in_ok-p)) (λ i. search rules) (λ i. search rules) in
    let o = rowed c.args.n.few c.loop-p.invariant c.in_ok-p.ensures c.if-p.false c.requires
    c.in_ok-before.ensures.order in
    let l = no_less c.in_ok-p.ensures in
    let a = both_grew o c.differ_rows-apart.ensures c.child_rows-passed.ensures c.transpose-parent.result
    c.differ_rows-differ.result c.unlike.ensures
    c.if-not-unlike.false in
    omega (arith, l, a, b)

pub loop-p-preserved : goal.loop-p-preserved
loop-p-preserved c =
    order_kept c.args.n.few c.loop-p.invariant c.in_ok-p.ensures c.if-p.false c.in_ok-before.ensures (search rules)
    c.differ_rows-apart.ensures
    c.child_rows-passed.ensures c.transpose-parent.ensures (search rules) c.differ_rows-differ.ensures
