-- `search::next_step` meets its contract. Of a parent join the second alternative adds below(x, z), which is settled already, and so is
-- below(a, y) of a join of siblings. Of the document node's join below(r, w) is settled, since r is a root, and comes second. That of a
-- chain join is entered as it stands.
use mathlib.Core.Logic.{⊎_elim}
use mathlib.Core.Bool.{true, false}
use Rattle.meaning.specs.Settled.{root_below}
use Rattle.search.proofs.Entering.{enters_one, enters_apart, enters_two, enters_first, never_apart, chain_forked, joined, step_taken, step_solved, step_split}
use Rattle.search.proofs.next_step.Goals as goal
use Rattle.search.proofs.next_step.Goals.{in-Parent, in-Chain, in-Document}

pub returns-in_err-kind : goal.returns-in_err-kind
returns-in_err-kind c = step_solved _ _ _ c.first_join.ensures c.in_err-kind.was _ c.from_residual.ensures

pub returns : goal.returns
returns c =
    let found = c.first_join.ensures in
    let ready = c.requires.ready.1 in
    let join = c.in_ok-kind in
    elim c.match-kind.branch [
      | in-Parent w ↦
          step_taken _ c.args.f _ _ _ w.apart-is
          (⊎_elim
          (λ e. step_split _ _ _ found _ ready _ (joined join.was e) _ _ false never_apart (λ S q. (enters_one _ S _, enters_two _ S _ _ q.above)))
          (λ e. step_split _ _ _ found _ ready _ (joined join.was e) _ _ false never_apart (λ S q. (enters_one _ S _, enters_two _ S _ _ q.above)))
          w.in-Parent.is)
      | in-Chain w ↦
          step_taken _ c.args.f _ _ _ w.apart-is
          (step_split _ _ _ found _ ready _ (joined join.was w.in-Chain.is) _ _ true (λ _ q. chain_forked _ _ _ ready _ _ _ q)
          (λ S q. (enters_one _ S _, enters_apart _ S _)))
      | in-Document w ↦
          step_taken _ c.args.f _ _ _ w.apart-is
          (step_split _ _ _ found _ ready _ (joined join.was w.in-Document.is) _ _ false never_apart
          (λ S q. (enters_one _ S _, enters_first _ S _ _ (root_below q.document q.variable))))
    ]
