-- `constraints::passes` meets its contract: whatever the kind, x is a variable, y has room, and there is a label exactly in kind 8.
use mathlib.Core.Path.{sym}
use Rattle.constraints.proofs.Passing.{high_x, no_room, with_room}
use Rattle.constraints.proofs.passes.Goals as goal

pub returns-then-x-gt15 : goal.returns-then-x-gt15
returns-then-x-gt15 c = sym (high_x _ _ _ _ c.if-x-gt15.true)

pub returns-then-room-y : goal.returns-then-room-y
returns-then-room-y c = sym (no_room _ _ _ _ c.if-x-gt15.false (rw (sym c.room.ensures) c.if-room-y.true))

pub returns : goal.returns
returns c = with_room _ _ _ _ c.if-x-gt15.false (rw (sym c.room.ensures) c.if-room-y.false)
