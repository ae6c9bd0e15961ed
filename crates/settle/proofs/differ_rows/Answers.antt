use Rattle.settle.proofs.Reaching.{parted}
use Rattle.settle.proofs.differ_rows.Goals as goal

pub returns : goal.returns
returns c = parted c.either.ensures c.either-2.ensures
