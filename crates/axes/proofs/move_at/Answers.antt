use Rattle.std.proofs.Common.{rules, sym}
use Rattle.axes.proofs.Moves.{move_none, move_is, move_not}
use Rattle.axes.proofs.move_at.Goals as goal

pub returns-in_err-axis-clause-value : goal.returns-in_err-axis-clause-value
returns-in_err-axis-clause-value c = rw c.from_residual.ensures (move_none c.args.s.now c.in_err-axis.ensures.value)

pub returns-in-58-clause-value : goal.returns-in-58-clause-value
returns-in-58-clause-value c =
    let h = c.in_ok-axis in
    move_is c.args.s.now h.axis h.rest h.ensures.value _ c.in-58.len_at_least (search rules) (search rules)
    (sym c.if-is_test.ensures) (search rules)

pub returns-in_default-clause-value : goal.returns-in_default-clause-value
returns-in_default-clause-value c =
    let h = c.in_ok-axis in
    move_not c.args.s.now h.axis h.rest h.ensures.value (λ l p q t. search rules)
