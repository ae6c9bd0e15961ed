-- `element` and `elements` find what stands at a place, or miss it.
use mathlib.Core.Path.{refl, sym, subst, ◌∙◌}
use mathlib.Core.List.{[], ◌∷◌}
use native.Mathlib.Omega.{arith}
use Rattle.std.proofs.Common.{Ok, Err}
use Rattle.std.proofs.lemmas.Result.{err_from_is_err_and}
use Rattle.xmlreader.specs.declared.gathered.Gathered.{Gathered}
use Rattle.xmlreader.specs.Reading.{Found, Ended}
use Rattle.xmlreader.proofs.Opens.{started, starts, starts_not, is_after, not_after, not_asked}
use Rattle.xmlreader.proofs.Single.{miss_many, miss_neither, miss_inside, miss_empty, miss_close, found_leaf, found_around}
use Rattle.xmlreader.proofs.Following.{found_none, miss_first, shorter, then_more}
use Rattle.xmlreader.proofs.+element_elements.Goals as goal

pub element-returns-in_default : goal.element-returns-in_default
element-returns-in_default t c = (starts_not _ c.in_default.ensures, refl)

pub element-returns-in_err-node : goal.element-returns-in_err-node
element-returns-in_err-node t c =
    let b = started c.in-Some.ensures c.label_named-label.ensures in
    let p = err_from_is_err_and c.from_residual.result c.from_residual.ensures.1 in
    rw p.1 (p.2 ∙ c.in_err-node.ensures.0, starts b, miss_many _ _ c.in_err-node.ensures.1)

pub element-returns-in-Some-after_empty : goal.element-returns-in-Some-after_empty
element-returns-in-Some-after_empty t c =
    let b = started c.in-Some.ensures c.label_named-label.ensures in
    (starts b, found_leaf b c.in_ok-node.ensures c.in-Some-after_empty.ensures)

pub element-returns-in_err-inside : goal.element-returns-in_err-inside
element-returns-in_err-inside t c =
    let b = started c.in-Some.ensures c.label_named-label.ensures in
    let p = err_from_is_err_and c.from_residual-in_err-inside.result c.from_residual-in_err-inside.ensures.1 in
    let n = not_after (62 ∷ []) c.in_err-inside.ensures.ok_part c.after_bracket.ensures in
    let q = not_asked c.in_err-inside.ensures.ok_part c.in_err-inside.ensures.value in
    rw p.1 (p.2 ∙ q, starts b, miss_neither b _ c.in_default-after_empty.ensures n)

pub element-returns-in_err-end : goal.element-returns-in_err-end
element-returns-in_err-end t c =
    let b = started c.in-Some.ensures c.label_named-label.ensures in
    let p = err_from_is_err_and c.from_residual-in_err-end.result c.from_residual-in_err-end.ensures.1 in
    let a = is_after (62 ∷ []) c.in_ok-inside.ensures.ok_part c.after_bracket.ensures in
    rw p.1 (p.2 ∙ c.in_err-end.ensures.0, starts b, miss_inside b _ a c.in_ok-node.ensures.put_up.end c.in_err-end.ensures.1)

pub element-returns-then-nodes-node : goal.element-returns-then-nodes-node
element-returns-then-nodes-node t c =
    let b = started c.in-Some.ensures c.label_named-label.ensures in
    let a = is_after (62 ∷ []) c.in_ok-inside.ensures.ok_part c.after_bracket.ensures in
    let i = c.in_ok-node.ensures.numbered in
    let j = c.in_ok-node.ensures.put_up.end in
    (refl, starts b, miss_empty b _ a c.in_ok-end.ensures (omega arith))

pub element-returns-in_err-after : goal.element-returns-in_err-after
element-returns-in_err-after t c =
    let b = started c.in-Some.ensures c.label_named-label.ensures in
    let p = err_from_is_err_and c.from_residual-in_err-after.result c.from_residual-in_err-after.ensures.1 in
    let a = is_after (62 ∷ []) c.in_ok-inside.ensures.ok_part c.after_bracket.ensures in
    let n = not_after (60 ∷ 47 ∷ c.in-Some.name ∷ 62 ∷ []) c.in_err-after.ensures.ok_part c.after_end.ensures in
    let q = not_asked c.in_err-after.ensures.ok_part c.in_err-after.ensures.value in
    rw p.1 (p.2 ∙ q, starts b, miss_close b _ a c.in_ok-end.ensures n)

pub element-returns : goal.element-returns
element-returns t c =
    let b = started c.in-Some.ensures c.label_named-label.ensures in
    let a = is_after (62 ∷ []) c.in_ok-inside.ensures.ok_part c.after_bracket.ensures in
    let e = is_after (60 ∷ 47 ∷ c.in-Some.name ∷ 62 ∷ []) c.in_ok-after.ensures.ok_part c.after_end.ensures in
    (starts b, found_around b c.in_ok-node.ensures a c.in_ok-end.ensures c.if-nodes-node.false e)

pub elements-returns-in_err-after : goal.elements-returns-in_err-after
elements-returns-in_err-after t c =
    let p = err_from_is_err_and c.from_residual.result c.from_residual.ensures.1 in
    let e = c.in_err-after.ensures in
    rw p.1 (rw p.2 (c.loop-after.invariant.1 (Err c.in_err-after.field-0.0) c.element.new.nodes (e.0, miss_first _ _ e.1 e.2)))

pub elements-loop-after-smaller : goal.elements-loop-after-smaller
elements-loop-after-smaller t c =
    let f = rw c.in-Some.is at c.in_ok-after.ensures in
    let l = shorter f.1 in
    omega arith

pub elements-loop-after-preserved : goal.elements-loop-after-preserved
elements-loop-after-preserved t c =
    let f = rw c.in-Some.is at c.in_ok-after.ensures in
    let i = c.loop-after.invariant in
    let l = shorter f.1 in
    (omega arith, λ r k h. i.1 r k (then_more f.1 f.0 r k h))

pub elements-returns : goal.elements-returns
elements-returns t c =
    let f = rw c.in_default.is at c.in_ok-after.ensures in
    c.loop-after.invariant.1 (Ok c.loop-after.left) c.element.new.nodes
    (subst (λ (h : Gathered). Found Ended c.loop-after.left.now c.args.up c.loop-after.nodes c.loop-after.left.now h) (sym f.1)
    (found_none c.args.up c.loop-after.nodes f.0))
