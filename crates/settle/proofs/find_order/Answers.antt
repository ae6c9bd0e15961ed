-- `settle::find_order` meets its contract.
use Rattle.std.proofs.Common.{subst}
use Rattle.tables.specs.Rows.{Crossed}
use Rattle.settle.proofs.find_order.Goals as goal

pub returns-then-crossed : goal.returns-then-crossed
returns-then-crossed c = record {
  rows = c.order_rows-before.result;
  order = record {
    same = c.common-same.result;
    common = c.common-same.ensures;
    ordered = c.order_rows-before.ensures;
  };
  crossed = subst (Crossed _ _ _) c.if-crossed.true c.crossed.ensures;
}

pub returns : goal.returns
returns c = record {
  order = record {
    same = c.common-same.result;
    common = c.common-same.ensures;
    ordered = c.order_rows-before.ensures;
  };
  crossed = subst (Crossed _ _ _) c.if-crossed.false c.crossed.ensures;
  columns = c.transpose-after.ensures;
}
