use native.Mathlib.Omega.{arith}
use Rattle.xmlreader.proofs.Records.{first_none, first_more, first_all}
use Rattle.xmlreader.proofs.gathered.Gathered.put.Goals as goal

pub loop-i-init : goal.loop-i-init
loop-i-init c = first_none c.args.self.now c.args.nodes.now

pub loop-i-preserved : goal.loop-i-preserved
loop-i-preserved c =
    first_more c.args.self.now c.loop-i.i c.args.nodes.now c.loop-i.nodes c.put.new.out c.loop-i-test.true c.loop-i.invariant c.put.ensures

pub returns : goal.returns
returns c =
    let a = c.loop-i.auto.i-end in
    let b = c.loop-i-test.false in
    first_all c.args.self.now c.loop-i.i c.args.nodes.now c.loop-i.nodes (omega arith) c.loop-i.invariant
