use mathlib.Core.Path.{subst}
use mathlib.Core.List.{List}
use Prim.Native.Nat.{ℕ}
use Rattle.meaning.specs.FixedSearch.{sibling_join}
use Rattle.tables.specs.Rows.{Lowest}
use Rattle.tables.specs.declared.Facts.{Facts}
use Rattle.stages.specs.Found.{join_of, with_below}
use Rattle.ancestors.specs.Rows.{with_before}
use Rattle.stages.proofs.Stage.{none_more, none_first}
use Rattle.ancestors.proofs.Siblings.{none_alone, none_missing, sibling_first, none_ordered}
use Rattle.ancestors.proofs.sibling_join.Goals as goal
use Rattle.ancestors.proofs.sibling_join.Goals.{then-s-ne0+else-a-lt16, else-s-ne0}

-- whatever else the tables hold
abbrev tables : List ℕ → List ℕ → List ℕ → List ℕ → Facts → Facts
tables before after below above f = with_before before after (with_below below above f)

pub returns-then-blank : goal.returns-then-blank
returns-then-blank c = λ f.
    let a = c.args in
    none_ordered _ a.n.few (tables a.before a.after a.below a.above f) _ c.blank.ensures c.if-blank.true

pub returns-then-a-lt16 : goal.returns-then-a-lt16
unfolding join_of
returns-then-a-lt16 c =
    let a = c.args in
    let x-is = subst (λ (k : ℕ). Lowest k c.lowest-x.result) c.except.ensures c.lowest-x.ensures in
    λ f.
    sibling_first _ a.n.few (tables a.before a.after a.below a.above f) _ c.all-vars.ensures _ c.loop-y-test.true
    _ c.except-over.ensures _ c.missing.ensures _ c.lowest-a.ensures c.if-a-lt16.true _ x-is (c.loop-y.invariant f)

pub loop-y-preserved : goal.loop-y-preserved
loop-y-preserved c = λ f.
    let a = c.args in
    let g = tables a.before a.after a.below a.above f in
    none_more sibling_join _ g _ (c.loop-y.invariant f)
    (elim c.if-s-ne0.branch [
      | then-s-ne0+else-a-lt16 w ↦
          none_missing _ a.n.few g _ c.all-vars.ensures _ c.loop-y-test.true _ w.except-over.ensures _ w.missing.ensures _
          w.lowest-a.ensures w.if-a-lt16.false
      | else-s-ne0 w ↦ none_alone _ a.n.few g _ c.all-vars.ensures _ c.loop-y-test.true w.if-s-ne0.false
    ])

pub returns : goal.returns
returns c = λ f.
    let a = c.args in
    none_first sibling_join _ (tables a.before a.after a.below a.above f) _ c.loop-y-test.false (c.loop-y.invariant f)
