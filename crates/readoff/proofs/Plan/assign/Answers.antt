use mathlib.Core.Path.{sym, ap, ◌∙◌}
use borrow.Author.Rules.{rules}
use Rattle.meaning.specs.Finite.{one}
use Rattle.meaning.proofs.Tests.{not_yes, yes_not}
use Rattle.tables.proofs.Helpers.{pick_on, pick_off}
use Rattle.ordering.specs.Groups.{groups}
use Rattle.ordering.specs.Numbering.{numbered}
use Rattle.readoff.specs.Nodes.{place_in}
use Rattle.readoff.specs.Planned.{node_for}
use Rattle.readoff.proofs.Places.{place_led}
use Rattle.readoff.proofs.Written.{assigned_more}
use Rattle.readoff.proofs.Plan.assign.Goals as goal

pub bounds-at-low : goal.bounds-at-low
unfolding groups
bounds-at-low c =
    let out = not_yes (sym c.has.ensures ∙ c.if-has.false) in
    let led = c.requires c.loop-x.x _ c.loop-x-test.true out c.lowest-low.ensures in
    c.args.self.now.order.inside _ led.0

pub loop-x-preserved-then-has : goal.loop-x-preserved-then-has
unfolding place_in
loop-x-preserved-then-has c =
    let on = pick_on _ _ _ (sym c.has.ensures ∙ c.if-has.true) in
    let f = node_for c.args.self.now c.args.root in
    (search rules, assigned_more c.loop-x.nodes c.loop-x.x _ f (search rules) on c.loop-x.invariant.1)

-- the place that is read is that of the variable's group
pub loop-x-preserved : goal.loop-x-preserved
unfolding place_in
loop-x-preserved c =
    let p = c.args.self.now in
    let out = not_yes (sym c.has.ensures ∙ c.if-has.false) in
    let placed = place_led p.ancestry.below p.ancestry.above _ _ _ _ c.requires c.places-at.ensures in
    let at = placed _ _ c.loop-x-test.true out c.lowest-low.ensures in
    let node = c.node_at.ensures ∙ ap (numbered (one p.front.element)) at ∙ pick_off _ _ _ (yes_not out) in
    let more = assigned_more c.loop-x.nodes c.loop-x.x _ (node_for p c.args.root) (search rules) node in
    (search rules, more c.loop-x.invariant.1)
