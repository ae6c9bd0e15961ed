-- `xmltext::write` meets its contract: what was filled, or the line of a refusal.
use Rattle.std.proofs.Common.{rules}
use Rattle.theory.specs.Xml.{write_xml}
use Rattle.xmltext.proofs.Printed.{written_as}
use Rattle.xmltext.proofs.write.Goals as goal

pub returns : goal.returns
returns c =
    let given = c.args.nodes.now in
    let before = c.args.out.now in
    written_as given before _ _ (search rules) (c.put_answer.ensures (write_xml given before) before c.write-answer.ensures.answer_of c.write-answer.ensures.wrote)
