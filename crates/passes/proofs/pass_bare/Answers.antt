-- `passes::pass_bare` meets its contract.
use Rattle.std.proofs.Common.{rules, Fits, w16}
use Rattle.passes.proofs.Document.{bare_step, document_clashes}
use Rattle.passes.proofs.pass_bare.Goals as goal

pub returns-then-on_document : goal.returns-then-on_document
returns-then-on_document c =
    let h : Fits w16 c.in_ok-p.p.facts.leaf = search rules in
    document_clashes c.in_ok-p.ensures _ c.label_of-l.ensures _ c.on_document.ensures h.fits c.if-on_document.true

pub returns : goal.returns
returns c = bare_step c.in_ok-p.ensures _ c.label_of-l.ensures _ c.on_document.ensures c.if-on_document.false
