-- The text of the code's verdict is that of the answer that is promised.
use Rattle.std.proofs.Common.{ap, subst, rules}
use Rattle.meaning.specs.Promises.{MarkerPromise}
use Rattle.meaning.specs.Text.{marked_text}
use Rattle.lent.proofs.Stores.{put_same}
use Rattle.putting.proofs.Fronts.{first_put, put_front}
use Rattle.text.proofs.mark.Goals as goal

pub returns : goal.returns
returns c =
    let m = c.mark-verdict.ensures in
    let page = c.new-page.ensures in
    record {
      text =
          put_front (put_same (ap marked_text m.is)
          (first_put c.new-page.result c.put_mark.new.page page.whole page.blank c.written.ensures (search rules)
          c.put_mark.ensures.put));
      promise = subst (MarkerPromise c.args.constraints.now c.args.answer.now) m.is m.promise;
    }
