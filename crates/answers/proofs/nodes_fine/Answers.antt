use mathlib.Core.Path.{refl, sym, ◌∙◌}
use Rattle.answers.proofs.Steps.{numbered_none, numbered_one, numbered_stop}
use Rattle.answers.proofs.nodes_fine.Goals as goal

pub loop-i-init : goal.loop-i-init
loop-i-init c = refl

pub returns-then-not-node_fine : goal.returns-then-not-node_fine
returns-then-not-node_fine c =
    sym (numbered_stop _ _ c.loop-i-test.true (sym c.node_fine.ensures ∙ c.if-not-node_fine.true))
    ∙ c.loop-i.invariant

pub loop-i-preserved : goal.loop-i-preserved
loop-i-preserved c =
    sym (numbered_one _ _ c.loop-i-test.true (sym c.node_fine.ensures ∙ c.if-not-node_fine.false))
    ∙ c.loop-i.invariant

pub returns : goal.returns
returns c = sym (numbered_none _ _ c.loop-i-test.false) ∙ c.loop-i.invariant
