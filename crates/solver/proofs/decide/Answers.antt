-- What the search reports is decided.
use Rattle.solver.proofs.Answers.{vars_within, decides_tree, decides_none, decides_spent}
use Rattle.solver.proofs.decide.Goals as goal

pub returns-in-Tree : goal.returns-in-Tree
returns-in-Tree c =
    let r = c.search_over-count in
    decides_tree _ _ _ (vars_within _ _ c.requires) r.result r.ensures _ c.in-Tree.is

pub returns-in-None : goal.returns-in-None
returns-in-None c =
    let r = c.search_over-count in
    decides_none _ _ _ (vars_within _ _ c.requires) r.result r.ensures c.in-None.is

pub returns-in-Spent : goal.returns-in-Spent
returns-in-Spent c =
    let r = c.search_over-count in
    decides_spent _ _ _ (vars_within _ _ c.requires) r.result r.ensures c.in-Spent.is
