-- `marker::Tree::is_parent` meets its contract: node 0 has no parent, and any other node has the one that its record
-- names.
use native.Mathlib.Nat.{pos_of_ne-zero}
use borrow.Author.Tests.{lt-ltb}
use Rattle.meaning.specs.Finite.{◌and◌}
use Rattle.theory.specs.Check.{is_parent}
use Rattle.marker.proofs.Tree.is_parent.Goals as goal

pub returns-then-lower-ne0 : goal.returns-then-lower-ne0
unfolding is_parent ◌and◌
returns-then-lower-ne0 c =
    rw (lt-ltb 0 c.args.lower.0 (pos_of_ne-zero c.if-lower-ne0.true), lt-ltb _ _ c.requires, ← c.parent.ensures)
    c.eq.ensures

pub returns-else-lower-ne0 : goal.returns-else-lower-ne0
unfolding is_parent ◌and◌
returns-else-lower-ne0 c = rw c.if-lower-ne0.false
