-- `answers::label` meets its contract: it reads the fourth byte of the node's record.
use Rattle.answers.specs.Tree.{tree_in}
use Rattle.answers.proofs.label.Goals as goal

pub returns : goal.returns
unfolding tree_in
returns c = c.byte_at.ensures
