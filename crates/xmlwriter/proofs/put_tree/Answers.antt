-- What is linked is the forest under the document node.
use Rattle.std.proofs.Common.{arith}
use Rattle.xmlwriter.specs.Links.{forest_in}
use Rattle.xmlwriter.proofs.put_tree.Goals as goal

pub put_elements-requires : goal.put_elements-requires
put_elements-requires c = record { forest = forest_in c.args.nodes.now; linked = c.link.ensures; room = omega (arith, c.requires.1) }

pub returns : goal.returns
returns c = c.put_elements.ensures (forest_in c.args.nodes.now) c.link.ensures
