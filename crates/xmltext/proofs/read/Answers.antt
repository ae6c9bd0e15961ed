-- `xmltext::read` meets its contract: what was filled, or the line of a refusal.
use Rattle.std.proofs.Common.{rules}
use Rattle.theory.specs.Xml.{read_xml}
use Rattle.xmltext.proofs.Printed.{read_as}
use Rattle.xmltext.proofs.read.Goals as goal

pub returns : goal.returns
returns c =
    let given = c.args.text.now in
    let before = c.args.out.now in
    read_as given before _ _ (search rules) (c.put_answer.ensures (read_xml given before) before c.read-answer.ensures.answer_of c.read-answer.ensures.wrote)
