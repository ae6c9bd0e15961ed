-- `merge::two_with_gap` meets its contract: what the two rows do not share one of them lacks.
use Rattle.merge.proofs.Loops.{is_apart_two, not_apart_two}
use Rattle.merge.proofs.two_with_gap.Goals as goal

pub returns-then-except-eq0 : goal.returns-then-except-eq0
returns-then-except-eq0 c =
    not_apart_two c.args.t c.args.a c.args.b c.requires.0 c.requires.1 (rw (← c.one.ensures, ← c.one-2.ensures) (rw (← c.except.ensures) c.if-except-eq0.true))

pub returns : goal.returns
returns c =
    rw (c.one.ensures, c.one-2.ensures)
    (is_apart_two c.args.t c.args.a c.args.b c.requires.0 c.requires.1 (rw (← c.one.ensures, ← c.one-2.ensures) (rw (← c.except.ensures) c.if-except-eq0.false)))
