-- A buffer that was filled is shown as it is, and else the line of the refusal (proofs/Fronts.antt).
use Rattle.std.proofs.Common.{rules}
use Rattle.putting.proofs.Fronts.{first_put, written_shown, refused_shown}
use Rattle.putting.proofs.put_answer.Goals as goal

pub returns-in-Ok : goal.returns-in-Ok
returns-in-Ok c = written_shown c.in-Ok.is

pub returns-in-Err : goal.returns-in-Err
returns-in-Err c =
    let page = c.new-page.ensures in
    refused_shown c.in-Err.is (first_put c.new-page.result c.refused.new.self page.whole page.blank c.written.ensures
    (search rules) c.refused.ensures.put)
