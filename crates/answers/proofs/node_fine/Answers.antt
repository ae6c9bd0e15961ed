-- `answers::node_fine` meets its contract: by whether the node is 0, and else whether it is 1.
use borrow.Author.Tests.{eq-eqb, ne_eqb, lt-ltb, le-ltb}
use Rattle.meaning.specs.Finite.{pick, ◌and◌, ◌or◌}
use Rattle.meaning.specs.Files.{node_fine}
use Rattle.answers.proofs.node_fine.Goals as goal

pub returns-then-own-node : goal.returns-then-own-node
unfolding node_fine ◌and◌
returns-then-own-node c = rw (ne_eqb _ _ c.if-own-node.true)

pub returns-then-parent-ne0 : goal.returns-then-parent-ne0
unfolding node_fine pick ◌and◌
returns-then-parent-ne0 c = rw (eq-eqb _ _ c.if-own-node.false, eq-eqb _ _ c.if-node-eq0.true, ne_eqb _ _ c.if-parent-ne0.true)

pub returns-then-node-eq0 : goal.returns-then-node-eq0
unfolding node_fine pick ◌and◌
returns-then-node-eq0 c = rw (eq-eqb _ _ c.if-own-node.false, eq-eqb _ _ c.if-node-eq0.true, eq-eqb _ _ c.if-parent-ne0.false)

pub returns-then-node-up : goal.returns-then-node-up
unfolding node_fine pick ◌and◌
returns-then-node-up c = rw (eq-eqb _ _ c.if-own-node.false, ne_eqb _ _ c.if-node-eq0.false, le-ltb _ _ c.if-node-up.true)

pub returns-then-node-eq1 : goal.returns-then-node-eq1
unfolding node_fine pick ◌and◌ ◌or◌
returns-then-node-eq1 c = rw (eq-eqb _ _ c.if-own-node.false, ne_eqb _ _ c.if-node-eq0.false, lt-ltb _ _ c.if-node-up.false, eq-eqb _ _ c.if-node-eq1.true)

pub returns : goal.returns
unfolding node_fine pick ◌and◌ ◌or◌
returns c = rw (eq-eqb _ _ c.if-own-node.false, ne_eqb _ _ c.if-node-eq0.false, lt-ltb _ _ c.if-node-up.false, ne_eqb _ _ c.if-node-eq1.false)
