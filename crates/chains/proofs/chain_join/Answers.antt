use mathlib.Core.Path.{sym, ◌∙◌}
use lib.ListN.{get_or}
use mir.Val.{Fits}
use mir.Syntax.{w16}
use borrow.Author.Rules.{rules}
use Rattle.meaning.specs.FixedSearch.{chain_join}
use Rattle.stages.specs.Found.{join_of, with_below}
use Rattle.stages.proofs.Stage.{none_more, none_first}
use Rattle.chains.proofs.First.{none_loose, none_apart, chain_first}
use Rattle.chains.proofs.chain_join.Goals as goal
use Rattle.chains.proofs.chain_join.Goals.{then-except-ne0+else-x-lt16, else-except-ne0}

pub returns-then-x-lt16 : goal.returns-then-x-lt16
unfolding join_of
returns-then-x-lt16 c =
    let a = c.args in
    let apart = c.incomparable_rows-apart in
    let h : Fits w16 (get_or apart.result c.lowest-x.result 0) = search rules in
    λ f.
    chain_first _ a.n.few (with_below a.below a.above f) _ c.all-vars.ensures apart.result apart.ensures _ c.loop-z-test.true _
    c.meeting.ensures _ c.lowest-x.ensures c.if-x-lt16.true h.fits _ c.lowest-y.ensures (c.loop-z.invariant f)

pub loop-z-preserved : goal.loop-z-preserved
loop-z-preserved c = λ f.
    let a = c.args in
    let apart = c.incomparable_rows-apart in
    let t = with_below a.below a.above f in
    none_more chain_join _ t _ (c.loop-z.invariant f)
    (elim c.if-except-ne0.branch [
      | then-except-ne0+else-x-lt16 w ↦
          none_apart _ a.n.few t _ c.all-vars.ensures apart.result apart.ensures _ c.loop-z-test.true _ w.meeting.ensures _
          w.lowest-x.ensures w.if-x-lt16.false
      | else-except-ne0 w ↦
          none_loose _ a.n.few t _ c.all-vars.ensures apart.result apart.ensures _ c.meeting-loose.ensures _ c.loop-z-test.true
          (sym c.except.ensures ∙ w.if-except-ne0.false)
    ])

pub returns : goal.returns
returns c = λ f. none_first chain_join _ (with_below c.args.below c.args.above f) _ c.loop-z-test.false (c.loop-z.invariant f)
