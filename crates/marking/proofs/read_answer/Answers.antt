-- `read_answer` tells what the reader of pieces tells (proofs/Answers.antt).
use Rattle.marking.proofs.Answers.{with_answer}
use Rattle.marking.proofs.read_answer.Goals as goal

pub returns : goal.returns
returns g c = with_answer _ _ c.read_pieces.ensures
