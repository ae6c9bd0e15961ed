use Rattle.sheet.specs.Bytes.{plain}
use Rattle.sheet.proofs.Small.{move_any, move_letter}
use Rattle.sheet.proofs.Sheet.put_move.Goals as goal

pub returns-then-test-ne42 : goal.returns-then-test-ne42
returns-then-test-ne42 c =
    let a = c.args in
    move_letter (plain a.self.now) a.axis a.test a.x a.y c.put_axis.ensures c.if-test-ne42.true c.put.ensures

pub returns-else-test-ne42 : goal.returns-else-test-ne42
returns-else-test-ne42 c =
    let a = c.args in
    move_any (plain a.self.now) a.axis a.test a.x a.y c.put_axis.ensures c.if-test-ne42.false
