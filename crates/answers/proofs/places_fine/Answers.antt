use mathlib.Core.Path.{refl, sym, ◌∙◌}
use Rattle.answers.proofs.Steps.{placed_none, placed_one, placed_variable, placed_node, placed_fourth}
use Rattle.answers.proofs.places_fine.Goals.{then-variable-i-via-then-variable-i, then-variable-i-via-else-variable-i+then-nodes-node, then-variable-i-via-else-variable-i+else-nodes-node+then-label-ne0}
use Rattle.answers.proofs.places_fine.Goals as goal

pub loop-i-init : goal.loop-i-init
loop-i-init c = refl

pub returns-then-variable-i : goal.returns-then-variable-i
returns-then-variable-i c = elim c.then-variable-i.branch [
  | then-variable-i-via-then-variable-i w ↦ sym (placed_variable _ _ c.loop-i-test.true _ w.if-variable-i.true)
      ∙ c.loop-i.invariant
  | then-variable-i-via-else-variable-i+then-nodes-node w ↦
      sym (placed_node _ _ c.loop-i-test.true _ w.if-variable-i.false w.if-nodes-node.true) ∙ c.loop-i.invariant
  | then-variable-i-via-else-variable-i+else-nodes-node+then-label-ne0 w ↦
      sym (placed_fourth _ _ c.loop-i-test.true _ w.if-variable-i.false w.if-nodes-node.false w.if-label-ne0.true)
      ∙ c.loop-i.invariant
]

pub loop-i-preserved : goal.loop-i-preserved
loop-i-preserved c =
    sym (placed_one _ _ c.loop-i-test.true _ c.if-variable-i.false c.if-nodes-node.false c.if-label-ne0.false)
    ∙ c.loop-i.invariant

pub returns : goal.returns
returns c = sym (placed_none _ _ _ c.loop-i-test.false) ∙ c.loop-i.invariant
