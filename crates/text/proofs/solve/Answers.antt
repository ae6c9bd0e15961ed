-- The text of the code's verdict is that of the answer that is promised.
use Rattle.std.proofs.Common.{arith, rules, ap, length}
use Rattle.lent.proofs.Stores.{put_same}
use Rattle.putting.proofs.Fronts.{first_put, put_front}
use Rattle.text.proofs.Answers.{solver_text_lem, bytes_most, promised}
use Rattle.text.proofs.solve.Goals as goal

pub put_solved-requires : goal.put_solved-requires
put_solved-requires c = omega (arith, bytes_most _ _ _ _ _ c.solve-verdict.ensures, ap length c.new-page.ensures.whole)

pub returns : goal.returns
returns c =
    let w = c.solve-verdict.ensures in
    let page = c.new-page.ensures in
    record {
      text =
          put_front (put_same (solver_text_lem _ _ _ _ _ w)
          (first_put c.new-page.result c.put_solved.new.page page.whole page.blank c.written.ensures (search rules)
          c.put_solved.ensures.put));
      promise = promised _ _ _ _ _ w;
    }
