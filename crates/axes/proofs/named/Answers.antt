-- The name is compared byte by byte.
use Rattle.std.proofs.Common.{arith, sym, ◌∙◌}
use Rattle.axes.proofs.Front.{front_short, front_more, front_miss, front_end}
use Rattle.axes.proofs.Moves.{stripped, not_stripped}
use Rattle.axes.proofs.named.Goals as goal

pub returns-then-s-name-clause-value : goal.returns-then-s-name-clause-value
returns-then-s-name-clause-value c = let a = c.args in not_stripped a.s.now a.name.now a.axis (front_short _ _ c.if-s-name.true)

pub returns-then-s-i-clause-value : goal.returns-then-s-i-clause-value
returns-then-s-i-clause-value c =
    let a = c.args in
    let i = c.loop-i.i in
    let miss = front_miss a.s.now a.name.now i i (omega arith) (omega arith) c.if-s-i.true in
    not_stripped a.s.now a.name.now a.axis (sym c.loop-i.invariant ∙ miss)

pub loop-i-preserved : goal.loop-i-preserved
loop-i-preserved c =
    let a = c.args in
    let i = c.loop-i.i in
    front_more a.s.now a.name.now i i (omega arith) (omega arith) c.if-s-i.false ∙ c.loop-i.invariant

pub returns-clause-value : goal.returns-clause-value
returns-clause-value c =
    let a = c.args in stripped a.s.now a.name.now a.axis (omega arith) (sym c.loop-i.invariant ∙ front_end _ a.name.now _ (omega arith))
