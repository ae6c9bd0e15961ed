-- `passes::whole_groups` meets its contract.
use borrow.Author.Rules.{rules}
use Rattle.passes.proofs.Chain.{whole}
use Rattle.passes.proofs.whole_groups.Goals as goal

pub returns : goal.returns
returns c = whole _ _ _ (λ i. search rules) (search rules) c.meeting.ensures
