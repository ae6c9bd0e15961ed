-- Node records and texts, and what is answered, as one table, worked out by hand from docs/FORMAT.md ("Trees as XML"). A row is said of the promises
-- of the meaning alone: whatever buffer that question 17 passes is lent, its answer is promised, and no other is.
use Rattle.std.specs.Prelude.{◌≡◌, List, [], ◌∷◌, ◌++◌, ℕ, zero, suc, ◌≤◌, length}
use Prim.Native.String.{String}
use Rattle.meaning.specs.Ascii.{ascii}
use Rattle.meaning.specs.Results.{Fill, fill_refused, fill_written, fill_wrote}
use Rattle.meaning.specs.Xml.{WriterPromise, ReaderPromise}
use Rattle.theory.specs.PathTable.{four}

-- what is given to writer or reader, and what it answers
pub data Row : Type 0 where
  to_write : List ℕ → Fill → Row
  to_read : List ℕ → Fill → Row

-- the promise holds of r and the buffer as r leaves it, and of nothing else
pub record OnlyAnswer (Promise : Fill → List ℕ → Type 0) (buffer : List ℕ) (r : Fill) : Type 0 where
  pub promised : Promise r (fill_wrote r buffer)
  pub only : {s : Fill} {after : List ℕ} → Promise s after → (s ≡ r) × (after ≡ fill_wrote r buffer)

abbrev pub Holds : Row → Type 0
Holds (to_write nodes r) = (buffer : List ℕ) → 512 ≤ length buffer → OnlyAnswer (WriterPromise nodes buffer) buffer r
Holds (to_read text r) = (buffer : List ℕ) → 256 ≤ length buffer → OnlyAnswer (ReaderPromise text buffer) buffer r

-- ---- the rows

abbrev pub writes : List ℕ → String → Row
writes nodes text = to_write nodes (fill_written (ascii text))

abbrev pub reads : String → List ℕ → Row
reads text nodes = to_read (ascii text) (fill_written nodes)

abbrev pub refuses : String → Row
refuses text = to_read (ascii text) (fill_refused 16)

-- the document node and one element
abbrev pub alone : ℕ → List ℕ
alone label = four 1 0 0 0 ++ four 1 1 0 label

-- d is node 4, the child of node 2, and stands before node 3 in the text; read again, it is node 3
abbrev pub by_depth : List ℕ
by_depth = alone 97 ++ four 1 2 1 98 ++ four 1 3 1 99 ++ four 1 4 2 100

abbrev pub in_document_order : List ℕ
in_document_order = alone 97 ++ four 1 2 1 98 ++ four 1 3 2 100 ++ four 1 4 1 99

-- so many elements inside one another
abbrev pub ends : ℕ → List ℕ
ends zero = []
ends (suc k) = ascii "</a>" ++ ends k

abbrev pub opened : ℕ → List ℕ → List ℕ
opened zero rest = ascii "<a/>" ++ rest
opened (suc k) rest = ascii "<a>" ++ opened k rest

abbrev pub nested : ℕ → List ℕ
nested k = opened k (ends k)

-- each the child of the one before, from node i on
abbrev pub chained : ℕ → ℕ → List ℕ
chained zero i = []
chained (suc k) i = four 1 (suc i) i 97 ++ chained k (suc i)

unfoldable pub table : List Row
table =
    writes (alone 97) "<a/>"
    ∷ writes (alone 0) "<_/>"
    ∷ writes (alone 90) "<Z/>"
    ∷ writes by_depth "<a><b><d/></b><c/></a>"
    ∷ writes in_document_order "<a><b><d/></b><c/></a>"
    ∷ writes (alone 65 ++ four 1 2 1 97 ++ four 1 3 1 0) "<A><a/><_/></A>"
    ∷ to_write (four 1 0 0 0 ++ chained 63 0) (fill_written (nested 62))
    ∷ to_write (alone 97 ++ (1 ∷ [])) (fill_refused 8)
    ∷ to_write (alone 97 ++ four 2 0 1 0) (fill_refused 9)
    ∷ to_write [] (fill_refused 10)
    ∷ to_write (four 1 0 0 0) (fill_refused 10)
    ∷ to_write (four 1 0 0 0 ++ chained 64 0) (fill_refused 10)
    ∷ to_write (alone 97 ++ four 1 2 0 97) (fill_refused 11)
    ∷ to_write (alone 95) (fill_refused 15)
    ∷ to_write (alone 64) (fill_refused 15)
    ∷ to_write (alone 91) (fill_refused 15)
    ∷ to_write (alone 97 ++ four 1 2 1 123) (fill_refused 15)
    ∷ reads "<a/>" (alone 97)
    ∷ reads "<_/>" (alone 0)
    ∷ reads "<a><b><d/></b><c/></a>" in_document_order
    ∷ reads "<A><a/><_/></A>" (alone 65 ++ four 1 2 1 97 ++ four 1 3 1 0)
    ∷ to_read (nested 62) (fill_written (four 1 0 0 0 ++ chained 63 0))
    ∷ to_read (nested 63) (fill_refused 16)
    ∷ refuses ""
    ∷ refuses "<a></a>"
    ∷ refuses "<a/>\n"
    ∷ refuses " <a/>"
    ∷ refuses "<a />"
    ∷ refuses "<a/><b/>"
    ∷ refuses "<a><b/></A>"
    ∷ refuses "<a><b/>"
    ∷ refuses "<a>b</a>"
    ∷ refuses "<ab/>"
    ∷ refuses "<1/>"
    ∷ refuses "</a>"
    ∷ []
