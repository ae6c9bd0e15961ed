-- By whether the label is 0.
use borrow.Author.Tests.{eq-eqb, ne_eqb}
use Rattle.meaning.specs.Finite.{pick}
use Rattle.meaning.specs.Xml.{name_of}
use Rattle.xmlwriter.proofs.links.name_of.Goals as goal

pub returns-then-label-eq0 : goal.returns-then-label-eq0
unfolding name_of pick
returns-then-label-eq0 c = rw (eq-eqb _ _ c.if-label-eq0.true)

pub returns-else-label-eq0 : goal.returns-else-label-eq0
unfolding name_of pick
returns-else-label-eq0 c = rw (ne_eqb _ _ c.if-label-eq0.false)
