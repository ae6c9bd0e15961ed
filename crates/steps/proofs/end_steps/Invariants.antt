use Rattle.std.proofs.Common.{List, ℕ, ◌≤◌, length, Option}
use Rattle.sheet.specs.Bytes.{Bytes, plain}
use Rattle.steps.specs.Reading.{EndRead}
use Rattle.steps.proofs.end_steps.Given as goal

abbrev pub invariant-loop-axis : goal.invariant-loop-axis
invariant-loop-axis l =
    (length l.left ≤ length l.s)
    × ((r : Option (List ℕ)) (c : Bytes) → EndRead l.left l.from (plain l.sheet) r c → EndRead l.s l.x
    (plain l.initial.sheet) r c)

abbrev pub decreases-loop-axis : goal.decreases-loop-axis
decreases-loop-axis l = length l.left
