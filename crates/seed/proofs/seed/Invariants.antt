-- `seed` gives the tables of the given facts: its loop keeps `Seeding`, and leaves at a second label.
use Rattle.constraints.specs.Judgement.{constraints_in}
use Rattle.seed.proofs.Seeding.{Seeding}
use Rattle.seed.proofs.seed.Given as goal

abbrev pub invariant-loop-number : goal.invariant-loop-number
invariant-loop-number l = Seeding (constraints_in l.file) l.number-index l.rows l.columns l.label
