-- The questions in order, then the text.
use Rattle.std.proofs.Common.{sym}
use Rattle.std.proofs.lemmas.Result.{err_from_is_err_and}
use Rattle.xmlwriter.proofs.Labels.{labels_all}
use Rattle.xmlwriter.proofs.Writing.{refused, short, linkable, no_name, room, written}
use Rattle.xmlwriter.proofs.write.Goals as goal

pub returns-in_err-judge_nodes : goal.returns-in_err-judge_nodes
returns-in_err-judge_nodes c =
    let p = err_from_is_err_and c.from_residual.result c.from_residual.ensures.1 in
    let r = refused c.args.nodes.now c.args.text.now _ (sym c.in_err-judge_nodes.ensures) in
    rw p.1 (rw p.2 (record { answer_of = r.0; wrote = r.1 }))

pub returns-then-text-lt512 : goal.returns-then-text-lt512
returns-then-text-lt512 c =
    let r = short c.args.nodes.now c.args.text.now _ (sym c.in_ok-judge_nodes.ensures) c.if-text-lt512.true in
    record { answer_of = r.0; wrote = r.1 }

pub returns-then-not-all_nameable : goal.returns-then-not-all_nameable
returns-then-not-all_nameable c =
    let r = no_name c.args.nodes.now c.args.text.now _ (sym c.in_ok-judge_nodes.ensures) c.if-text-lt512.false (labels_all _ c.as_chunks.ensures.front c.if-not-all_nameable.ensures) in
    record { answer_of = r.0; wrote = r.1 }

pub put_tree-requires : goal.put_tree-requires
put_tree-requires c =
    let j = sym c.in_ok-judge_nodes.ensures in
    (linkable c.args.nodes.now c.args.text.now _ j, room c.args.nodes.now c.args.text.now _ j c.if-text-lt512.false (labels_all _ c.as_chunks.ensures.front c.if-not-all_nameable.ensures))

pub returns : goal.returns
returns c =
    let r = written c.args.nodes.now c.args.text.now _ (sym c.in_ok-judge_nodes.ensures) c.if-text-lt512.false (labels_all _ c.as_chunks.ensures.front c.if-not-all_nameable.ensures) c.put_tree.ensures in
    record { answer_of = r.0; wrote = r.1 }
