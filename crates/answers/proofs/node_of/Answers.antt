-- `answers::node_of` meets its contract: it reads the third byte of the variable's record.
use Rattle.answers.specs.Tree.{places_in}
use Rattle.answers.proofs.node_of.Goals as goal

pub returns : goal.returns
unfolding places_in
returns c = c.byte_at.ensures
