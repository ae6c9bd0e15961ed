-- `readoff::Plan::put_nodes` meets its contract: at i the records of the first i groups are written.
use Rattle.readoff.specs.Planned.{number_for, record_for}
use Rattle.readoff.specs.Written.{Recorded}
use Rattle.readoff.proofs.Plan.put_nodes.Given as goal

abbrev pub invariant-loop-i : goal.invariant-loop-i
invariant-loop-i l = Recorded (number_for l.self) (record_for l.self l.label) l.i l.initial.answer l.answer
