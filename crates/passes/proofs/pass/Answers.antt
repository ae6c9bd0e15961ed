-- `passes::pass` meets its contract: what it calls gives the tables of which `Final` speaks.
use Rattle.std.proofs.Common.{rules}
use Rattle.passes.proofs.Final.{Start, group_clash, ended_well}
use Rattle.passes.proofs.pass.Goals as goal

pub returns-in_err-child : goal.returns-in_err-child
returns-in_err-child c =
    let o : Start c.args.n.count c.args.f c.find_groups-several.result = search rules in
    rw c.from_residual.ensures (λ S seed. group_clash o S seed c.in_err-child.ensures)

pub returns : goal.returns
returns c =
    let o : Start c.args.n.count c.args.f c.find_groups-several.result = search rules in
    ended_well o c.in_ok-child.ensures c.join_rows-more.ensures c.whole_groups-root.ensures c.whole_groups-leaf.ensures
