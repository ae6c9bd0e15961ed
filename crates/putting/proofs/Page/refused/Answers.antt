-- The number of the question stands in the line.
use Rattle.std.proofs.Common.{ap, ℕ}
use Rattle.meaning.specs.Ascii.{ascii}
use Rattle.meaning.specs.Text.{numbered}
use Rattle.lent.proofs.Stores.{put_same}
use Rattle.putting.proofs.Page.refused.Goals as goal

pub returns-clause-put : goal.returns-clause-put
unfolding ascii numbered
returns-clause-put c = put_same (ap (λ (n : ℕ). numbered "refused " n) c.number.ensures) c.line.ensures.put
