use Rattle.sheet.specs.Bytes.{plain}
use Rattle.sheet.proofs.Small.{root_some, root_new, root_value}
use Rattle.sheet.proofs.Sheet.rooted.Goals as goal

pub returns-in-Some-clause-wrote : goal.returns-in-Some-clause-wrote
returns-in-Some-clause-wrote c = root_some (plain c.args.self.now) c.in-Some.root c.in-Some.is

pub returns-clause-value : goal.returns-clause-value
returns-clause-value c =
    let n = c.number-root in
    root_value n.result (plain n.new.self) (plain c.put.new.self) c.put.ensures

pub returns-clause-wrote : goal.returns-clause-wrote
returns-clause-wrote c =
    let n = c.number-root in
    root_new (plain c.args.self.now) n.result (plain n.new.self) (plain c.put.new.self) c.put.ensures c.in_default.is
    n.ensures.value n.ensures.wrote
