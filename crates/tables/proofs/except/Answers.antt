-- `tables::except` meets its contract: the code is the definition.
use borrow.Author.Rules.{rules}
use Rattle.tables.specs.Rows.{without}
use Rattle.tables.proofs.except.Goals as goal

pub returns : goal.returns
unfolding without
returns c = search rules
