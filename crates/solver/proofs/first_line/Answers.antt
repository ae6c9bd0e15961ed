-- The first line is the settled set of the given facts, or their clash.
use Rattle.solver.proofs.Answers.{seeds_clash, seeds_seeded, seeds_settled}
use Rattle.solver.proofs.first_line.Goals as goal

pub seed-requires : goal.seed-requires
seed-requires c = (c.requires.own, c.requires.accepted)

pub returns-in_err-facts : goal.returns-in_err-facts
returns-in_err-facts c = seeds_clash _ _ c.requires c.in_err-facts.ensures _ c.from_residual.ensures

pub settle-requires : goal.settle-requires
settle-requires c = (_, seeds_seeded _ _ c.requires _ c.in_ok-facts.ensures)

pub returns : goal.returns
returns c = seeds_settled _ _ c.requires _ c.in_ok-facts.ensures _ c.settle.ensures
