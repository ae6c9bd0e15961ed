-- `joins::first_join` meets its contract: the tables with their own rows are themselves, and each kind is one stage.
use borrow.Author.Rules.{rules}
use Rattle.joins.proofs.Stages.{in_turn}
use Rattle.joins.proofs.first_join.Goals as goal

pub returns : goal.returns
returns c =
    in_turn _ c.args.f _ _ _ _ c.parent_join.ensures c.or_else.ensures (λ e. search rules) c.or_else-2.ensures (λ e. search rules)
    c.or_else-3.ensures (λ e. search rules)
