-- The records, or the line of a refusal.
use Rattle.std.proofs.Common.{arith}
use Rattle.theory.specs.PathReader.{read_paths}
use Rattle.text.proofs.Records.{printed}
use Rattle.text.proofs.paths.Goals as goal

pub returns : goal.returns
returns c =
    let text = c.args.text.now in
    let before = c.args.out.now in
    printed text before _ _ (omega arith) (c.put_answer.ensures (read_paths text before) before c.read-answer.ensures.answer_of c.read-answer.ensures.wrote)
