-- The rows of the table hold of the meaning: computed writer and reader keep their promises and each promise leaves no other answer, so it is enough
-- that computing gives each row's answer. Of a buffer both ask only that it is long enough.
use mathlib.Core.Path.{◌≡◌, ap, subst, ◌∙◌}
use mathlib.Core.List.{List, Memᴰ}
use Prim.Native.Nat.{ℕ}
use native.Mathlib.Omega.{arith}
use lib.ListN.{replicate, length-replicate}
use Rattle.meaning.specs.Files.{judge_nodes}
use Rattle.meaning.specs.Results.{Fill, fill_wrote}
use Rattle.meaning.specs.Xml.{WriterPromise, ReaderPromise}
use Rattle.meaning.proofs.Tests.{pick_yes, le_yes}
use Rattle.theory.specs.Xml.{write_xml, read_xml}
use Rattle.theory.specs.XmlTable.{Row, to_write, to_read, OnlyAnswer, Holds, table}
use Rattle.theory.proofs.Rows.{rows_hold}
use Rattle.theory.proofs.XmlComputed.{computed, stated, table_computed}
use Rattle.theory.proofs.XmlPromise.{write_alike, write_keeps, write_unique, written_unique, read_keeps, read_unique, read_buffer_unique}

only_written : (nodes buffer : List ℕ) (r : Fill) → write_xml nodes buffer ≡ r → OnlyAnswer (WriterPromise nodes buffer) buffer r
only_written nodes buffer r e = record {
  promised = subst (λ (s : Fill). WriterPromise nodes buffer s (fill_wrote s buffer)) e (write_keeps nodes buffer);
  only = λ {s} {after} p. (write_unique nodes buffer s after p ∙ e, written_unique nodes buffer s after p ∙ ap (λ (k : Fill). fill_wrote k buffer) e);
}

only_read : (text buffer : List ℕ) (r : Fill) → read_xml text buffer ≡ r → OnlyAnswer (ReaderPromise text buffer) buffer r
only_read text buffer r e = record {
  promised = subst (λ (s : Fill). ReaderPromise text buffer s (fill_wrote s buffer)) e (read_keeps text buffer);
  only = λ {s} {after} p. (read_unique text buffer s after p ∙ e, read_buffer_unique text buffer s after p ∙ ap (λ (k : Fill). fill_wrote k buffer) e);
}

row_holds : (row : Row) → computed row ≡ stated row → Holds row
unfolding write_xml read_xml
row_holds (to_write nodes r) e =
    λ buffer l. let n = length-replicate {A = ℕ} 512 0 in only_written nodes buffer r (write_alike (judge_nodes nodes) buffer (replicate 512 0) l (omega arith) ∙ e)
row_holds (to_read text r) e = λ buffer l. only_read text buffer r (pick_yes _ _ (le_yes l) ∙ e)

pub table_holds : (row : Row) → Memᴰ row table → Holds row
table_holds = rows_hold computed stated Holds row_holds table table_computed
