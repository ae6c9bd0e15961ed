-- `tables::meeting` meets its contract: the loop has gathered the rows below y.
use Prim.Native.Nat.{◌≤◌, ◌-◌}
use Rattle.tables.specs.Tables.{row}
use Rattle.tables.specs.Rows.{meets}
use Rattle.tables.proofs.Loops.{Gathering}
use Rattle.tables.proofs.meeting.Given as goal

abbrev pub invariant-loop-y : goal.invariant-loop-y
invariant-loop-y l = (l.y ≤ 16) × Gathering (λ k. meets (row l.t k) l.c) l.y l.a

abbrev pub decreases-loop-y : goal.decreases-loop-y
decreases-loop-y l = 16 - l.y
