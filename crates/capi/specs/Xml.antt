-- What writer and reader of XML tell C: the number of the answer, every byte of the buffer, and the promise of trees as XML.
use Rattle.std.specs.Prelude.{◌≡◌, List, ℕ}
use Rattle.meaning.specs.Results.{fill_wrote, fill_number}
use Rattle.meaning.specs.Xml.{WriterPromise, ReaderPromise}
use Rattle.theory.specs.Xml.{write_xml, read_xml}

pub record WritesXml (nodes buffer : List ℕ) (r : ℕ) (after : List ℕ) : Type 0 where
  pub number : r ≡ fill_number (write_xml nodes buffer)
  pub wrote : after ≡ fill_wrote (write_xml nodes buffer) buffer
  pub promise : WriterPromise nodes buffer (write_xml nodes buffer) after

pub record ReadsXml (text buffer : List ℕ) (r : ℕ) (after : List ℕ) : Type 0 where
  pub number : r ≡ fill_number (read_xml text buffer)
  pub wrote : after ≡ fill_wrote (read_xml text buffer) buffer
  pub promise : ReaderPromise text buffer (read_xml text buffer) after
