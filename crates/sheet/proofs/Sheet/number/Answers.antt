use Rattle.sheet.specs.Bytes.{plain}
use Rattle.sheet.proofs.Small.{numbered_yes, numbered_no}
use Rattle.sheet.proofs.Sheet.number.Goals as goal

pub returns-then-next-lt17-clause-wrote : goal.returns-then-next-lt17-clause-wrote
returns-then-next-lt17-clause-wrote c = numbered_yes (plain c.args.self.now) c.if-next-lt17.true

pub returns-else-next-lt17-clause-wrote : goal.returns-else-next-lt17-clause-wrote
returns-else-next-lt17-clause-wrote c = numbered_no (plain c.args.self.now) c.if-next-lt17.false
