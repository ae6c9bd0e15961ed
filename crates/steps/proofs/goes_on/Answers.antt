use mathlib.Core.Path.{sym, ap, ◌∙◌}
use Prim.Native.Nat.{ℕ, ◌+◌, ◌-◌, ◌<◌}
use native.Mathlib.Omega.{arith}
use lib.Dec.{eqb, lit<}
use Rattle.steps.proofs.Scan.{goes_on_end, goes_on_open, goes_on_close, goes_on_inside, goes_on_now, goes_on_last, goes_on_next, other_one, byte_inside}
use Rattle.steps.proofs.goes_on.Goals as goal

pub returns-then-first-ne91 : goal.returns-then-first-ne91
returns-then-first-ne91 c =
    let a = c.args in
    let s = a.s.now in
    let b = c.byte_at-first.ensures in
    ap (λ (k : ℕ). eqb k 47) b ∙ goes_on_now s 0 (λ h. c.if-first-ne91.true (b ∙ h))

pub loop-i-init : goal.loop-i-init
loop-i-init c =
    let a = c.args in
    let s = a.s.now in
    let b = c.byte_at-first.ensures in
    let u = sym b ∙ c.if-first-ne91.false in
    let j = byte_inside s 0 91 (sym u) (lit< tt) in
    (omega (arith, j), omega arith, omega arith, goes_on_open s 0 j 0 u)

pub loop-i-preserved-then-b-gt93 : goal.loop-i-preserved-then-b-gt93
loop-i-preserved-then-b-gt93 c =
    let s = c.args.s.now in
    let l = c.loop-i in
    let i = c.loop-i-test.true in
    let n = l.invariant.1 in
    let b = c.if-b-gt93.true in
    (omega (arith, i), n, omega (arith, l.invariant.2), goes_on_inside s l.i i l.depth (λ h. omega (arith, n, h)) (λ h. omega (arith, b, h)) (λ h. omega (arith, b, h)) ∙ l.invariant.3)

pub loop-i-preserved-then-b-eq91 : goal.loop-i-preserved-then-b-eq91
loop-i-preserved-then-b-eq91 c =
    let s = c.args.s.now in
    let l = c.loop-i in
    let i = c.loop-i-test.true in
    (omega (arith, i), omega arith, omega (arith, l.invariant.2), goes_on_open s l.i i l.depth c.if-b-eq91.true ∙ l.invariant.3)

pub overflow_sub-depth : goal.overflow_sub-depth
overflow_sub-depth c =
    let s = c.args.s.now in
    let l = c.loop-i in
    let i = c.loop-i-test.true in
    omega (arith, l.invariant.1)

pub loop-i-preserved-then-depth-ne1 : goal.loop-i-preserved-then-depth-ne1
loop-i-preserved-then-depth-ne1 c =
    let s = c.args.s.now in
    let l = c.loop-i in
    let i = c.loop-i-test.true in
    let n = l.invariant.1 in
    let m : 0 < l.depth - 1 = other_one l.depth n c.if-depth-ne1.true in
    (omega (arith, i), m, omega (arith, l.invariant.2), goes_on_close s l.i i l.depth (λ h. omega (arith, n, h)) c.if-b-eq93.true ∙ l.invariant.3)

pub returns-then-next-ne91 : goal.returns-then-next-ne91
returns-then-next-ne91 c =
    let s = c.args.s.now in
    let l = c.loop-i in
    let i = c.loop-i-test.true in
    let e = c.if-b-eq93.true in
    let z = c.if-depth-ne1.false in
    let b = c.byte_at-next.ensures in
    ap (λ (k : ℕ). eqb k 47) b ∙ goes_on_last s l.i i l.depth z e (λ h. c.if-next-ne91.true (b ∙ h)) ∙ l.invariant.3

pub overflow_add-i-then-b-eq93 : goal.overflow_add-i-then-b-eq93
overflow_add-i-then-b-eq93 c =
    let s = c.args.s.now in
    let l = c.loop-i in
    let i = c.loop-i-test.true in
    let e = c.if-b-eq93.true in
    let z = c.if-depth-ne1.false in
    let b = c.byte_at-next.ensures in
    let u = sym b ∙ c.if-next-ne91.false in
    let j = byte_inside s (l.i + 1) 91 (sym u) (lit< tt) in
    omega (arith, j)

pub loop-i-smaller-then-b-eq93 : goal.loop-i-smaller-then-b-eq93
loop-i-smaller-then-b-eq93 c =
    let s = c.args.s.now in
    let l = c.loop-i in
    let i = c.loop-i-test.true in
    let e = c.if-b-eq93.true in
    let z = c.if-depth-ne1.false in
    let b = c.byte_at-next.ensures in
    let u = sym b ∙ c.if-next-ne91.false in
    let j = byte_inside s (l.i + 1) 91 (sym u) (lit< tt) in
    omega (arith, j)

pub loop-i-preserved-then-b-eq93 : goal.loop-i-preserved-then-b-eq93
loop-i-preserved-then-b-eq93 c =
    let s = c.args.s.now in
    let l = c.loop-i in
    let i = c.loop-i-test.true in
    let e = c.if-b-eq93.true in
    let z = c.if-depth-ne1.false in
    let b = c.byte_at-next.ensures in
    let u = sym b ∙ c.if-next-ne91.false in
    let j = byte_inside s (l.i + 1) 91 (sym u) (lit< tt) in
    (omega (arith, j), l.invariant.1, omega (arith, l.invariant.2), goes_on_next s l.i i l.depth z e j u ∙ l.invariant.3)

pub loop-i-preserved : goal.loop-i-preserved
loop-i-preserved c =
    let s = c.args.s.now in
    let l = c.loop-i in
    let i = c.loop-i-test.true in
    let n = l.invariant.1 in
    (omega (arith, i), n, omega (arith, l.invariant.2), goes_on_inside s l.i i l.depth (λ h. omega (arith, n, h)) c.if-b-eq91.false c.if-b-eq93.false ∙ l.invariant.3)

pub returns : goal.returns
returns c =
    let s = c.args.s.now in
    let l = c.loop-i in
    goes_on_end s l.i l.depth c.loop-i-test.false ∙ l.invariant.3
