-- What the search reports is answered, and a tree is written.
use Rattle.solver.proofs.Answers.{vars_within, solves_none, solves_spent, solves_tree, answer_none, answer_spent, answer_tree}
use Rattle.solver.proofs.solve_over.Goals as goal

pub read_off-bytes-requires : goal.read_off-bytes-requires
read_off-bytes-requires c =
    let r = c.search_over-count in
    let tree = solves_tree _ _ _ (vars_within _ _ c.requires.0) r.result r.ensures _ c.in-Tree.is in
    (c.requires.1, (tree.0, tree.1, tree.2))

pub returns-in-Tree : goal.returns-in-Tree
returns-in-Tree c =
    let r = c.search_over-count in
    let tree = solves_tree _ _ _ (vars_within _ _ c.requires.0) r.result r.ensures _ c.in-Tree.is in
    answer_tree _ _ _ _ _ _ _ tree.3 (c.read_off-bytes.ensures tree.0 tree.1 tree.2)

pub returns-in-None : goal.returns-in-None
returns-in-None c =
    let r = c.search_over-count in
    answer_none _ _ _ (solves_none _ _ _ (vars_within _ _ c.requires.0) r.result r.ensures c.in-None.is)

pub returns-in-Spent : goal.returns-in-Spent
returns-in-Spent c =
    let r = c.search_over-count in
    answer_spent _ _ _ (solves_spent _ _ _ (vars_within _ _ c.requires.0) r.result r.ensures c.in-Spent.is)
