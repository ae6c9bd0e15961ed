use Rattle.meaning.specs.Finite.{one}
use Rattle.readoff.proofs.Numbering.{numbered_later}
use Rattle.readoff.proofs.Written.{recorded_more, group_record_lem}
use Rattle.readoff.proofs.Plan.put_nodes.Goals as goal

pub loop-i-preserved : goal.loop-i-preserved
loop-i-preserved c =
    let p = c.args.self.now in
    let own = c.node_at.ensures in
    let parent = c.parent_of-parent.ensures in
    let same = group_record_lem _ _ _ _ _ _ p.order c.loop-i.i c.loop-i-test.true _ _ _ own c.over.ensures parent in
    recorded_more _ _ (numbered_later (one p.front.element)) c.loop-i.i _ _ c.args.answer.now c.loop-i.answer _ own
    same c.loop-i.invariant c.put_node.ensures
