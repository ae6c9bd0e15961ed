use borrow.Author.Rules.{rules}
use Rattle.tables.proofs.Loops.{gather_none, gather_more, gather_all, none_meet}
use Rattle.tables.proofs.meeting.Goals as goal

pub returns-then-c-eq0 : goal.returns-then-c-eq0
returns-then-c-eq0 c = rw c.if-c-eq0.true (none_meet c.args.t)

pub loop-y-init : goal.loop-y-init
loop-y-init c = (search rules, gather_none _)

pub loop-y-preserved : goal.loop-y-preserved
loop-y-preserved c = (search rules, gather_more _ _ _ _ _ c.meet.ensures c.gain_one-a.ensures c.loop-y.invariant.1)

pub returns : goal.returns
returns c = gather_all _ _ _ (search rules) c.loop-y.invariant.1
