use mathlib.Core.Path.{◌≡◌}
use borrow.Author.Rules.{rules}
use Rattle.ordering.specs.Rows.{is_low, is_lowest}
use Rattle.ordering.proofs.Bits.{gather_more, gather_except}
use Rattle.ordering.proofs.Ancestry.lows.Goals as goal

pub loop-x-preserved : goal.loop-x-preserved
loop-x-preserved c = gather_more _ _ _ _ _ c.is_low.ensures c.gain_one-a.ensures c.loop-x.invariant

pub returns : goal.returns
unfolding is_lowest
returns c =
    let a = c.args.self.now in
    let e : c.loop-x.x ≡ a.n.count = search rules in
    gather_except (is_low a.below a.above) _ c.loop-x.a c.args.root _ a.n.few c.except.ensures
    (rw (← e) c.loop-x.invariant)
