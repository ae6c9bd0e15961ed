-- _ or a letter.
use borrow.Author.Tests.{eq-eqb, ne_eqb}
use Rattle.meaning.specs.Finite.{◌or◌}
use Rattle.theory.specs.Xml.{is_name}
use Rattle.xmlreader.proofs.is_name.Goals as goal

pub returns-then-byte-eq95 : goal.returns-then-byte-eq95
unfolding is_name ◌or◌
returns-then-byte-eq95 c = rw (eq-eqb _ _ c.if-byte-eq95.true)

pub returns-else-byte-eq95 : goal.returns-else-byte-eq95
unfolding is_name ◌or◌
returns-else-byte-eq95 c = rw (ne_eqb _ _ c.if-byte-eq95.false) c.is_letter.ensures
