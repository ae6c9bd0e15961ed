-- The search from the first line, with nothing entered before.
use native.Mathlib.Omega.{arith}
use Rattle.solver.proofs.search_over.Goals as goal

pub search-requires : goal.search-requires
search-requires c = record { count_bound = omega arith; line = (_, c.first_line-first.ensures) }

pub returns : goal.returns
returns c = c.search.ensures _ c.first_line-first.ensures
