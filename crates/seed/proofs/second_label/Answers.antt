-- `second_label` meets its contract: its product fits, and tells.
use native.Mathlib.Omega.{arith}
use Rattle.seed.proofs.Product.{change_small, product_small, product_is}
use Rattle.seed.proofs.second_label.Goals as goal

pub overflow_cast-result-2 : goal.overflow_cast-result-2
overflow_cast-result-2 c = omega (arith, change_small c.args.old c.args.new (omega arith) (omega arith))

pub overflow_mul-result : goal.overflow_mul-result
overflow_mul-result c = omega (arith, product_small c.args.old c.args.new (omega arith) (omega arith))

pub returns : goal.returns
returns c = product_is c.args.old c.args.new
