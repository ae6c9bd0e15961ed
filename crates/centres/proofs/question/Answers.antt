-- `question`: each test that refuses is the question that `question_of` asks next.
use mathlib.Core.Path.{sym, ap}
use native.Mathlib.Omega.{arith}
use Rattle.meaning.specs.Finite.{pick}
use Rattle.centres.specs.Answers.{answered}
use Rattle.centres.proofs.Asked.{asks_18, asks_19, asks_20, asks_none}
use Rattle.centres.proofs.question.Goals as goal

pub returns-then-total-claims : goal.returns-then-total-claims
unfolding answered pick
returns-then-total-claims c = sym (ap answered (asks_18 _ _ _ _ _ _ c.if-total-claims.true))

pub returns-then-cap-drawn : goal.returns-then-cap-drawn
unfolding answered pick
returns-then-cap-drawn c = sym (ap answered (asks_19 _ _ _ _ _ _ c.if-total-claims.false c.if-cap-drawn.true))

pub returns-then-total-undrawn : goal.returns-then-total-undrawn
unfolding answered pick
returns-then-total-undrawn c = sym (ap answered (asks_20 _ _ _ _ _ _ c.if-total-claims.false c.if-cap-drawn.false (omega (arith, c.if-total-undrawn.true, c.saturating_sub-undrawn.ensures))))

pub returns : goal.returns
unfolding answered pick
returns c = sym (ap answered (asks_none _ _ _ _ _ _ c.if-total-claims.false c.if-cap-drawn.false (omega (arith, c.if-total-undrawn.false, c.saturating_sub-undrawn.ensures))))
