-- The room, the outermost element to the end of the text, then its records.
use Rattle.std.proofs.lemmas.Result.{err_from_is_err_and}
use mathlib.Core.Path.{◌∙◌}
use Rattle.xmlreader.proofs.Opens.{not_asked}
use Rattle.xmlreader.proofs.Answers.{short, none_starts, missed_all, bytes_left, room, written}
use Rattle.xmlreader.proofs.read.Goals as goal

pub returns : goal.returns
returns c =
    let f = rw c.in_ok-left.ensures.ok_part at c.in_ok-element.ensures in
    let r = written c.args.text.now c.args.nodes.now c.if-nodes-lt256.false c.new-gathered.ensures f.1 c.if-not-is_empty.ensures c.put.ensures in
    record { answer_of = r.0; wrote = r.1 }

pub returns-then-nodes-lt256 : goal.returns-then-nodes-lt256
returns-then-nodes-lt256 c =
    let r = short c.args.text.now c.args.nodes.now c.if-nodes-lt256.true in
    record { answer_of = r.0; wrote = r.1 }

pub returns-in_err-element : goal.returns-in_err-element
returns-in_err-element c =
    let p = err_from_is_err_and c.from_residual.result c.from_residual.ensures.1 in
    let e = c.in_err-element.ensures in
    let r = missed_all c.args.text.now c.args.nodes.now c.if-nodes-lt256.false c.new-gathered.ensures (p.2 ∙ e.0) e.2 in
    rw p.1 (record { answer_of = r.0; wrote = r.1 })

pub returns-in_err-left : goal.returns-in_err-left
returns-in_err-left c =
    let p = err_from_is_err_and c.from_residual-in_err-left.result c.from_residual-in_err-left.ensures.1 in
    let f = rw c.in_err-left.ensures.ok_part at c.in_ok-element.ensures in
    let q = not_asked c.in_err-left.ensures.ok_part c.in_err-left.ensures.value in
    let r = none_starts c.args.text.now c.args.nodes.now c.if-nodes-lt256.false f.0 in
    rw p.1 (rw (p.2 ∙ q) (record { answer_of = r.0; wrote = r.1 }))

pub returns-then-not-is_empty : goal.returns-then-not-is_empty
returns-then-not-is_empty c =
    let f = rw c.in_ok-left.ensures.ok_part at c.in_ok-element.ensures in
    let r = bytes_left c.args.text.now c.args.nodes.now c.if-nodes-lt256.false c.new-gathered.ensures f.1 c.if-not-is_empty.ensures in
    record { answer_of = r.0; wrote = r.1 }

pub put-requires : goal.put-requires
put-requires c =
    let f = rw c.in_ok-left.ensures.ok_part at c.in_ok-element.ensures in
    room c.args.text.now c.args.nodes.now c.if-nodes-lt256.false c.new-gathered.ensures f.1
