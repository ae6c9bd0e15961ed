-- `constraints::record_at` meets its contract: the record is found exactly below the number of whole records.
use borrow.Author.Tests.{lt-ltb, le-ltb}
use Rattle.meaning.specs.Finite.{pick}
use Rattle.constraints.specs.Record.{record_at, record_of}
use Rattle.constraints.proofs.record_at.Goals as goal

pub returns-then-position-file : goal.returns-then-position-file
unfolding record_at record_of pick
returns-then-position-file c = rw (lt-ltb _ _ c.if-position-file.true, ← c.kind_of.ensures)

pub returns-else-position-file : goal.returns-else-position-file
unfolding record_at record_of pick
returns-else-position-file c = rw (le-ltb _ _ c.if-position-file.false)
