-- `ancestors::document_join` meets its contract: the lowest root, its lowest child and the lowest variable left are the first join's.
use mathlib.Core.Path.{subst}
use mathlib.Core.List.{List}
use Prim.Native.Nat.{ℕ}
use native.Mathlib.Nat.{le_refl}
use Rattle.meaning.specs.FixedSearch.{document_join}
use Rattle.tables.specs.Rows.{Lowest}
use Rattle.tables.specs.declared.Facts.{Facts}
use Rattle.stages.specs.Found.{join_of, with_below}
use Rattle.ancestors.specs.Rows.{with_document}
use Rattle.stages.proofs.Stage.{none_first}
use Rattle.ancestors.proofs.Document.{none_without_root, none_without_child, none_left, document_first}
use Rattle.ancestors.proofs.document_join.Goals as goal

-- whatever else the tables hold
abbrev tables : List ℕ → List ℕ → ℕ → Facts → Facts
tables child below root f = with_document child root (with_below below f.above f)

pub returns-then-w-lt16 : goal.returns-then-w-lt16
unfolding join_of
returns-then-w-lt16 c =
    let a = c.args in
    let left = subst (λ (k : ℕ). Lowest k c.lowest-w.result) c.except.ensures c.lowest-w.ensures in
    λ f.
    document_first _ a.n.few (tables a.child a.below a.root f) _ c.all-vars.ensures _ c.lowest-r.ensures c.if-r-lt16.true _ c.lowest-y.ensures
    c.if-y-lt16.true _ left c.if-w-lt16.true

pub returns-else-w-lt16 : goal.returns-else-w-lt16
returns-else-w-lt16 c =
    let a = c.args in
    let left = subst (λ (k : ℕ). Lowest k c.lowest-w.result) c.except.ensures c.lowest-w.ensures in
    λ f.
    none_first document_join _ (tables a.child a.below a.root f) _ (le_refl _)
    (none_left _ a.n.few (tables a.child a.below a.root f) _ c.all-vars.ensures _ c.lowest-r.ensures c.if-r-lt16.true _ c.lowest-y.ensures
    c.if-y-lt16.true _ left c.if-w-lt16.false)

pub returns-else-y-lt16 : goal.returns-else-y-lt16
returns-else-y-lt16 c =
    let a = c.args in
    λ f.
    none_first document_join _ (tables a.child a.below a.root f) _ (le_refl _)
    (none_without_child _ a.n.few (tables a.child a.below a.root f) _ c.all-vars.ensures _ c.lowest-r.ensures c.if-r-lt16.true _
    c.lowest-y.ensures c.if-y-lt16.false)

pub returns-else-r-lt16 : goal.returns-else-r-lt16
returns-else-r-lt16 c =
    let a = c.args in
    λ f.
    none_first document_join _ (tables a.child a.below a.root f) _ (le_refl _)
    (none_without_root _ a.n.few (tables a.child a.below a.root f) _ c.all-vars.ensures _ c.lowest-r.ensures c.if-r-lt16.false)
