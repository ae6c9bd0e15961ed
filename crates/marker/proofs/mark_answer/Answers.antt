-- `marker::mark_answer` meets its contract: what the gate accepts is a tree with every variable on it (proofs/Answered.antt).
use mathlib.Core.Path.{sym, ◌∙◌}
use native.Mathlib.Omega.{arith}
use Rattle.marker.proofs.Answered.{answer_refused, whole, both_accepted, read_is, all_placed}
use Rattle.theory.proofs.ConstraintFile.{bytes}
use Rattle.marker.specs.Verdict.{marked_of}
use Rattle.marker.proofs.mark_answer.Goals as goal

pub returns-in-Err : goal.returns-in-Err
unfolding marked_of
returns-in-Err c = sym (answer_refused _ _ c.args.variables c.requires (sym c.in-Err.ensures))

pub overflow_mul-nodes : goal.overflow_mul-nodes
overflow_mul-nodes c =
    omega (arith, whole _ c.args.answer.now c.args.variables c.requires c.in-Ok.nodes (sym c.in-Ok.ensures))

pub split_at-requires : goal.split_at-requires
split_at-requires c = whole _ c.args.answer.now c.args.variables c.requires c.in-Ok.nodes (sym c.in-Ok.ensures)

pub invariant_of-tree : goal.invariant_of-tree
invariant_of-tree c =
    let w = read_is _ _ c.args.variables c.requires _ (sym c.in-Ok.ensures)
    (bytes _ (λ i. omega (arith, c.type_inv.answer i))) in
    rw c.split_at.ensures.front (record { is_tree = w.0; few = w.1 })

pub first_unmet-requires : goal.first_unmet-requires
first_unmet-requires c =
    rw (c.split_at.ensures.front, c.split_at.ensures.back)
    (all_placed _ _ c.args.variables c.requires _ (sym c.in-Ok.ensures)
    (bytes _ (λ i. omega (arith, c.type_inv.answer i))))

pub returns-in-Ok : goal.returns-in-Ok
returns-in-Ok c =
    (rw (c.split_at.ensures.front, c.split_at.ensures.back) at c.first_unmet.ensures)
    ∙ sym (both_accepted _ _ c.args.variables c.requires _ (sym c.in-Ok.ensures))
