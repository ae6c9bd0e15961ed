-- The rows of the table hold of the meaning: the computed reader keeps the promise and the promise leaves no other answer, so it is enough that
-- computing gives each row's answer.
use mathlib.Core.Path.{◌≡◌, ap, subst, ◌∙◌}
use mathlib.Core.List.{List, Memᴰ}
use Prim.Native.Nat.{ℕ, ◌≤◌}
use lib.ListN.{length}
use Rattle.meaning.specs.Results.{Fill, fill_wrote}
use Rattle.meaning.specs.Promises.{PathsPromise}
use Rattle.meaning.proofs.Tests.{pick_yes, le_yes}
use Rattle.theory.specs.PathReader.{text_paths, answer_of, read_paths}
use Rattle.theory.specs.PathTable.{Row, OnlyRead, Holds, table}
use Rattle.theory.proofs.Rows.{rows_hold}
use Rattle.theory.proofs.PathComputed.{computed, stated, table_computed}
use Rattle.theory.proofs.PathPromise.{read_keeps, answer_unique, buffer_unique}

read_in_room : (text buffer : List ℕ) → 1024 ≤ length buffer → read_paths text buffer ≡ answer_of (text_paths text)
unfolding read_paths
read_in_room text buffer l = pick_yes _ _ (le_yes l)

only_read : (text buffer : List ℕ) (r : Fill) → read_paths text buffer ≡ r → OnlyRead text buffer r
only_read text buffer r e = record {
  promised = subst (λ (s : Fill). PathsPromise text buffer s (fill_wrote s buffer)) e (read_keeps text buffer);
  only = λ {s} {after} p. (answer_unique text buffer s after p ∙ e, buffer_unique text buffer s after p ∙ ap (λ (k : Fill). fill_wrote k buffer) e);
}

row_holds : (row : Row) → computed row ≡ stated row → Holds row
row_holds row e = λ buffer l. only_read row.text buffer row.answer (read_in_room row.text buffer l ∙ e)

pub table_holds : (row : Row) → Memᴰ row table → Holds row
table_holds = rows_hold computed stated Holds row_holds table table_computed
