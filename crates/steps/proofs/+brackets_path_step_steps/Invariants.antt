-- The bytes left fall, and at one place each reader calls those below it: a path its steps, steps a step, a step its brackets.
use Rattle.std.proofs.Common.{List, ℕ, ◌+◌, ◌*◌, ◌≤◌, length, Option}
use Rattle.sheet.specs.Bytes.{Bytes, plain}
use Rattle.steps.specs.Reading.{StepsRead, BracketsRead}
use Rattle.steps.proofs.+brackets_path_step_steps.Given as goal

abbrev pub decreases-brackets : goal.decreases-brackets
decreases-brackets l = 4 * length l.s.now

abbrev pub decreases-path : goal.decreases-path
decreases-path l = 4 * length l.s.now + 3

abbrev pub decreases-step : goal.decreases-step
decreases-step l = 4 * length l.s.now + 1

abbrev pub decreases-steps : goal.decreases-steps
decreases-steps l = 4 * length l.s.now + 2

abbrev pub invariant-brackets-loop-left : goal.invariant-brackets-loop-left
invariant-brackets-loop-left l =
    (length l.left ≤ length l.s)
    × ((r : Option (List ℕ)) (c : Bytes) → BracketsRead l.left l.y (plain l.sheet) r c → BracketsRead l.s l.y
    (plain l.initial.sheet) r c)

abbrev pub decreases-brackets-loop-left : goal.decreases-brackets-loop-left
decreases-brackets-loop-left l = length l.left

abbrev pub invariant-steps-loop-rest : goal.invariant-steps-loop-rest
invariant-steps-loop-rest l =
    (length l.left ≤ length l.s)
    × ((r : Option (List ℕ)) (c : Bytes) → StepsRead l.left l.from (plain l.sheet) r c → StepsRead l.s l.x
    (plain l.initial.sheet) r c)

abbrev pub decreases-steps-loop-rest : goal.decreases-steps-loop-rest
decreases-steps-loop-rest l = length l.left
