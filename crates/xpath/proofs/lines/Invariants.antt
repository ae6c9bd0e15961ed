use Rattle.std.proofs.Common.{◌-◌, ◌≤◌, Result}
use Rattle.questions.specs.declared.Question.{Question}
use Rattle.sheet.specs.Bytes.{Bytes, plain}
use Rattle.xpath.specs.Reading.{LinesRead}
use Rattle.xpath.proofs.lines.Given as goal

abbrev pub invariant-loop : goal.invariant-loop
invariant-loop l =
    (l.counter ≤ l.n)
    × ((r : Result (Unit {0}) Question) (c : Bytes) → LinesRead l.left (l.n - l.counter) (plain l.sheet) r c
    → LinesRead l.text l.n (plain l.initial.sheet) r c)
