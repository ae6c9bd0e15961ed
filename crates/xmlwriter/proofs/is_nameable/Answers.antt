-- 0, or what `is_letter` says.
use borrow.Author.Tests.{eq-eqb, ne_eqb}
use Rattle.meaning.specs.Finite.{◌or◌}
use Rattle.meaning.specs.Xml.{is_nameable}
use Rattle.xmlwriter.proofs.is_nameable.Goals as goal

pub returns-then-label-eq0 : goal.returns-then-label-eq0
unfolding is_nameable ◌or◌
returns-then-label-eq0 c = rw (eq-eqb _ _ c.if-label-eq0.true)

pub returns-else-label-eq0 : goal.returns-else-label-eq0
unfolding is_nameable ◌or◌
returns-else-label-eq0 c = rw (ne_eqb _ _ c.if-label-eq0.false) c.is_letter.ensures
