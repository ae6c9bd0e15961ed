-- What is put at the front of the buffer: what writer and reader of XML promise of any bytes, or the line of a refusal.
use Rattle.std.specs.Prelude.{List, ℕ, replicate}
use Rattle.meaning.specs.Results.{fill_wrote}
use Rattle.meaning.specs.Text.{fill_text}
use Rattle.meaning.specs.Xml.{WriterPromise, ReaderPromise}
use Rattle.theory.specs.Xml.{write_xml, read_xml}
use Rattle.putting.specs.Fronts.{Fronted}

-- buffers as short as question 17 lets in
abbrev pub text_room : List ℕ
text_room = replicate 512 0

abbrev pub nodes_room : List ℕ
nodes_room = replicate 256 0

pub record WrittenAs (nodes before : List ℕ) (r : ℕ) (after : List ℕ) : Type 0 where
  pub output : Fronted (fill_text (write_xml nodes text_room)) before r after
  pub promise : WriterPromise nodes text_room (write_xml nodes text_room) (fill_wrote (write_xml nodes text_room) text_room)

pub record ReadAs (text before : List ℕ) (r : ℕ) (after : List ℕ) : Type 0 where
  pub output : Fronted (fill_text (read_xml text nodes_room)) before r after
  pub promise : ReaderPromise text nodes_room (read_xml text nodes_room) (fill_wrote (read_xml text nodes_room) nodes_room)
