-- A first child and a next sibling have larger numbers, so that it ends.
use Rattle.xmlwriter.proofs.Elements.{left}
use Rattle.xmlwriter.proofs.links.Links.+put_elements.Given as goal

abbrev pub decreases-put_elements : goal.decreases-put_elements
decreases-put_elements l = left l.v
