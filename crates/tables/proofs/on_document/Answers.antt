-- `tables::on_document` meets its contract.
use Rattle.tables.proofs.Clashes.{is_on_document}
use Rattle.tables.proofs.on_document.Goals as goal

pub returns : goal.returns
returns c = is_on_document _ _ _ _ _ _ c.meet.ensures c.meet-2.ensures
