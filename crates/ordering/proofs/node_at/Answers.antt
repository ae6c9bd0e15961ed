-- `ordering::node_at` meets its contract.
use Rattle.std.proofs.Common.{rules}
use Rattle.ordering.specs.Numbering.{numbered}
use Rattle.ordering.proofs.node_at.Goals as goal

pub overflow_add-result-2 : goal.overflow_add-result-2
unfolding numbered
overflow_add-result-2 c = search rules

pub overflow_cast-result-2 : goal.overflow_cast-result-2
unfolding numbered
overflow_cast-result-2 c = search rules

pub returns : goal.returns
unfolding numbered
returns c = search rules
