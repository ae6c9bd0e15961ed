-- The digits of a number are those of its tenth and one more.
use Rattle.std.proofs.Common.{rules, arith, length, ap}
use Rattle.putting.proofs.Numbers.{decimal_one, decimal_longer, put_tenth, put_lone}
use Rattle.putting.proofs.Page.+number.Goals as goal
use Rattle.putting.proofs.Page.+number.Goals.{then-n-ge10, else-n-ge10}

pub number-requires : goal.number-requires
number-requires t c = (search rules, omega (arith, decimal_longer c.args.n c.if-n-ge10.true))

pub put-requires : goal.put-requires
put-requires t c =
    elim c.if-n-ge10.branch [
      | then-n-ge10 w ↦ rw w.self-is (omega (
        arith,
        decimal_longer c.args.n w.if-n-ge10.true,
        w.number.ensures.put.end,
        w.number.ensures.put.same_length,
      ))
      | else-n-ge10 w ↦ let e = ap length (decimal_one c.args.n w.if-n-ge10.false) in rw w.self-is (omega (arith, e))
    ]

pub returns-clause-put : goal.returns-clause-put
returns-clause-put t c =
    elim c.if-n-ge10.branch [
      | then-n-ge10 w ↦ put_tenth c.args.self.now c.if-n-ge10.self c.put.new.self c.args.n w.if-n-ge10.true w.self-is
          w.number.ensures.put c.put.ensures.put
      | else-n-ge10 w ↦ put_lone c.args.self.now c.if-n-ge10.self c.put.new.self c.args.n w.if-n-ge10.false w.self-is
          c.put.ensures.put
    ]
