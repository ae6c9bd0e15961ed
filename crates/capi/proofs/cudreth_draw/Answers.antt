-- `cudreth_draw` tells the number of what `draw` answers, and passes the list on.
use Rattle.std.proofs.Common.{ap, sym, ◌∙◌}
use Rattle.questions.specs.Number.{numbered}
use Rattle.capi.specs.Draws.{drawn_as}
use Rattle.capi.proofs.Drawn.{draws_from}
use Rattle.capi.proofs.cudreth_draw.Goals as goal

pub returns-in-Err : goal.returns-in-Err
unfolding drawn_as
returns-in-Err c = draws_from _ _ _ _ _ c.draw.ensures (c.refused.ensures ∙ ap (λ r. drawn_as (numbered r)) (sym c.in-Err.is))

pub returns : goal.returns
unfolding drawn_as
returns c = draws_from _ _ _ _ _ c.draw.ensures (c.packed.ensures ∙ ap (λ r. drawn_as (numbered r)) (sym c.in_default.is))
