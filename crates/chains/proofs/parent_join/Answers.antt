use mathlib.Core.Path.{subst}
use mathlib.Core.List.{List}
use Prim.Native.Nat.{ℕ}
use Rattle.meaning.specs.FixedSearch.{parent_join}
use Rattle.tables.specs.Rows.{Lowest}
use Rattle.tables.specs.declared.Facts.{Facts}
use Rattle.stages.specs.Found.{join_of, with_below}
use Rattle.chains.specs.Rows.{with_parent}
use Rattle.stages.proofs.Stage.{none_more, none_first}
use Rattle.chains.proofs.First.{none_without_parent, none_without_x, parent_first}
use Rattle.chains.proofs.parent_join.Goals as goal
use Rattle.chains.proofs.parent_join.Goals.{then-y-lt16+else-x-lt16, else-y-lt16}

-- whatever else the tables hold
abbrev tables : List ℕ → List ℕ → List ℕ → Facts → Facts
tables parent below above f = with_parent parent (with_below below above f)

pub returns-then-x-lt16 : goal.returns-then-x-lt16
unfolding join_of
returns-then-x-lt16 c =
    let a = c.args in
    let x-is = subst (λ (k : ℕ). Lowest k c.lowest-x.result) c.except.ensures c.lowest-x.ensures in
    λ f.
    parent_first _ a.n.few (tables a.parent a.below a.above f) _ c.all-vars.ensures _ c.loop-z-test.true _ c.lowest-y.ensures
    c.if-y-lt16.true _ x-is c.if-x-lt16.true (c.loop-z.invariant f)

pub loop-z-preserved : goal.loop-z-preserved
loop-z-preserved c = λ f.
    let a = c.args in
    let g = tables a.parent a.below a.above f in
    none_more parent_join _ g _ (c.loop-z.invariant f)
    (elim c.if-y-lt16.branch [
      | then-y-lt16+else-x-lt16 w ↦
          none_without_x _ a.n.few g _ c.all-vars.ensures _ c.loop-z-test.true _ c.lowest-y.ensures w.if-y-lt16.true _
          (subst (λ (k : ℕ). Lowest k w.lowest-x.result) w.except.ensures w.lowest-x.ensures) w.if-x-lt16.false
      | else-y-lt16 w ↦
          none_without_parent _ a.n.few g _ c.all-vars.ensures _ c.loop-z-test.true _ c.lowest-y.ensures w.if-y-lt16.false
    ])

pub returns : goal.returns
returns c = λ f.
    none_first parent_join _ (tables c.args.parent c.args.below c.args.above f) _ c.loop-z-test.false (c.loop-z.invariant f)
