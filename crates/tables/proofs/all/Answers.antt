-- `tables::all` meets its contract: a power of two less one, which fits since n is at most 16.
use Rattle.tables.proofs.Helpers.{all_positive, all_fits, power32}
use Rattle.tables.proofs.all.Goals as goal

pub overflow_sub-result : goal.overflow_sub-result
overflow_sub-result c = all_positive _ c.args.n.few

pub overflow_cast-result : goal.overflow_cast-result
overflow_cast-result c = all_fits _ c.args.n.few

pub returns : goal.returns
returns c = rw (power32 _ c.args.n.few)
