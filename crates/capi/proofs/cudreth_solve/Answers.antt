-- `cudreth_solve` tells the number of the solver's verdict; the bytes of a tree fit their place.
use Rattle.std.proofs.Common.{arith}
use Rattle.solver.proofs.Short.{bytes_few}
use Rattle.capi.proofs.Solved.{number, solves}
use Rattle.capi.proofs.cudreth_solve.Goals as goal

pub overflow_cast-bytes : goal.overflow_cast-bytes
overflow_cast-bytes c = omega (arith, bytes_few _ _ _ _ _ c.solve-verdict.ensures c.in-Tree.is)

pub returns-in-Tree : goal.returns-in-Tree
unfolding number
returns-in-Tree c = solves _ _ _ _ _ c.solve-verdict.ensures c.in-Tree.is _ c.packed.ensures

pub returns-in-None : goal.returns-in-None
unfolding number
returns-in-None c = solves _ _ _ _ _ c.solve-verdict.ensures c.in-None.is _ c.packed-in-None.ensures

pub returns-in-Spent : goal.returns-in-Spent
unfolding number
returns-in-Spent c = solves _ _ _ _ _ c.solve-verdict.ensures c.in-Spent.is _ c.packed-in-Spent.ensures

pub returns-in-Refused : goal.returns-in-Refused
unfolding number
returns-in-Refused c = solves _ _ _ _ _ c.solve-verdict.ensures c.in-Refused.is _ c.refused.ensures
