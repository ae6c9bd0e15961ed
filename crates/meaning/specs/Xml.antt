-- Trees as XML (docs/FORMAT.md): ordered labelled trees apart from any numbering, when a numbered tree is one, the text of one, its node records in
-- document order, and what writer and reader are to answer. The document node is no part of an ordered tree, nor are places.
use Rattle.std.specs.Prelude.{◌≡◌, ◌↔◌, Bool, true, List, [], ◌∷◌, ◌++◌, ℕ, suc, ◌+◌, ◌≤◌, ◌<◌, length, eqb}
use Rattle.meaning.specs.Finite.{Yes, pick, ◌and◌, ◌or◌}
use Rattle.meaning.specs.Tree.{Node, Label, Tree, Parent, Above}
use Rattle.meaning.specs.ReadOff.{NodeRecord, blank_record, tree_of, node_bytes}
use Rattle.meaning.specs.Files.{refused_nodes, accepted_nodes, judge_nodes}
use Rattle.meaning.specs.Ascii.{ascii}
use Rattle.meaning.specs.Paths.{is_letter}
use Rattle.meaning.specs.Results.{Fill, fill_refused, fill_written, fill_wrote}

-- ---- ordered labelled trees

-- elements side by side: none, or a first one, by its label and the elements inside it, and those after it
pub data Forest : Type 0 where
  no_element : Forest
  element : Label → Forest → Forest → Forest

-- an ordered labelled tree: the outermost element
pub record Element : Type 0 where
  pub label : Label
  pub children : Forest

abbrev pub alone : Element → Forest
alone e = element e.label e.children no_element

-- how many elements, those inside others too
unfoldable pub count : Forest → ℕ
count no_element = 0
count (element l c r) = suc (count c + count r)

-- ---- when a numbered tree is an ordered one

-- of the children of u numbered i or above, v has the smallest number
pub record NextChild (t : Tree) (u : Node) (i : ℕ) (v : Node) : Type 0 where
  pub from : i ≤ v
  pub is_child : Parent t u v
  pub none_between : (w : Node) → i ≤ w → w < v → ¬ Parent t u w

-- the children of u numbered i or above, in the order of their numbers, with all that is below them, are the forest
abbrev pub Children : Tree → Node → ℕ → Forest → Type 0
Children t u i no_element = (v : Node) → i ≤ v → ¬ Parent t u v
Children t u i (element l c r) = (v : Node) × NextChild t u i v × (t.label v ≡ l) × Children t v 0 c × Children t u (suc v) r

-- t is the ordered tree e: what stands under the document node is e alone
abbrev pub IsOrdered : Tree → Element → Type 0
IsOrdered t e = Children t 0 0 (alone e)

-- ---- its text

-- what 15 asks of a label: 0 or a letter
unfoldable pub is_nameable : Label → Bool
is_nameable l = eqb l 0 or is_letter l

unfoldable pub all_nameable : Forest → Bool
all_nameable no_element = true
all_nameable (element l c r) = is_nameable l and all_nameable c and all_nameable r

-- "`_` as the name of a blank"; "Letters keep their case"
unfoldable pub name_of : Label → ℕ
name_of l = pick (eqb l 0) 95 l

-- "`<a>` to `</a>`, or `<a/>` for a leaf", by the name, the elements inside and their text
unfoldable pub enclosed : ℕ → Forest → List ℕ → List ℕ
enclosed n no_element inside = ascii "<" ++ (n ∷ ascii "/>")
enclosed n (element l c r) inside = ascii "<" ++ (n ∷ ascii ">" ++ (inside ++ (ascii "</" ++ (n ∷ ascii ">"))))

unfoldable pub forest_text : Forest → List ℕ
forest_text no_element = []
forest_text (element l c r) = enclosed (name_of l) c (forest_text c) ++ forest_text r

unfoldable pub element_text : Element → List ℕ
element_text e = enclosed (name_of e.label) e.children (forest_text e.children)

-- the text of this tree, which the writer can name and which has at most 64 nodes, the document node counted
pub record XmlForm (text : List ℕ) (e : Element) : Type 0 where
  pub is : text ≡ element_text e
  pub nameable : Yes (all_nameable (alone e))
  pub few : suc (count (alone e)) ≤ 64

-- ---- its node records in document order

-- the records of a forest under the node u, from the number i on: each element, then all that is inside it, then those after it
unfoldable pub forest_records : Node → Node → Forest → List NodeRecord
forest_records u i no_element = []
forest_records u i (element l c r) = record { up = u; label = l } ∷ (forest_records i (suc i) c ++ forest_records u (suc i + count c) r)

-- the document node is node 0
unfoldable pub document_records : Element → List NodeRecord
document_records e = blank_record ∷ forest_records 0 1 (alone e)

-- ---- what is answered

-- 15 of each node
unfoldable pub records_nameable : List NodeRecord → Bool
records_nameable [] = true
records_nameable (v ∷ vs) = is_nameable v.label and records_nameable vs

-- r is the writer's answer to node records and a lent buffer, and `after` is the buffer afterwards
pub record WriterPromise (nodes buffer : List ℕ) (r : Fill) (after : List ℕ) : Type 0 where
  -- 8 to 11 come first, then 17, then 15
  pub refuses : {q : ℕ} → judge_nodes nodes ≡ refused_nodes q → r ≡ fill_refused q
  pub short_buffer : {vs : List NodeRecord} → judge_nodes nodes ≡ accepted_nodes vs → length buffer < 512 → r ≡ fill_refused 17
  pub no_name : {vs : List NodeRecord} → judge_nodes nodes ≡ accepted_nodes vs → 512 ≤ length buffer → ¬ Yes (records_nameable vs) → r ≡ fill_refused 15
  -- every other tree is written, as the one ordered tree that it is
  pub writes : {vs : List NodeRecord} → judge_nodes nodes ≡ accepted_nodes vs → 512 ≤ length buffer → Yes (records_nameable vs)
      → (e : Element) × IsOrdered (tree_of vs) e × (r ≡ fill_written (element_text e))
  pub only : {vs : List NodeRecord} → judge_nodes nodes ≡ accepted_nodes vs → {e f : Element} → IsOrdered (tree_of vs) e → IsOrdered (tree_of vs) f → e ≡ f
  -- every byte of the buffer
  pub wrote : after ≡ fill_wrote r buffer
  pub same_length : length after ≡ length buffer

-- r is the reader's answer to a text and a lent buffer, and `after` is the buffer afterwards
pub record ReaderPromise (text buffer : List ℕ) (r : Fill) (after : List ℕ) : Type 0 where
  -- 17, asked before 16
  pub short_buffer : length buffer < 256 → r ≡ fill_refused 17
  pub no_form : 256 ≤ length buffer → ((e : Element) → ¬ XmlForm text e) → r ≡ fill_refused 16
  -- every other text is read, as this tree and no other
  pub writes : 256 ≤ length buffer → {e : Element} → XmlForm text e → r ≡ fill_written (node_bytes 0 (document_records e))
  pub only : {e f : Element} → XmlForm text e → XmlForm text f → e ≡ f
  pub wrote : after ≡ fill_wrote r buffer
  pub same_length : length after ≡ length buffer

-- ---- there and back

-- some node records and some buffer of which the writer, keeping its promise, writes the text
pub record Produced (text : List ℕ) : Type 0 where
  pub nodes : List ℕ
  pub buffer : List ℕ
  pub after : List ℕ
  pub promised : WriterPromise nodes buffer (fill_written text) after

-- these node records pass 8 to 11 and are the ordered tree
abbrev pub RecordsOf : List ℕ → Element → Type 0
RecordsOf nodes e = (vs : List NodeRecord) × (judge_nodes nodes ≡ accepted_nodes vs) × IsOrdered (tree_of vs) e

-- "The tree read is the one written, numbered in document order": the text was written of the nodes, and read as the answer s
pub record ReadBack (nodes : List ℕ) (s : Fill) : Type 0 where
  pub tree : Element
  pub was_written : RecordsOf nodes tree
  pub reads : s ≡ fill_written (node_bytes 0 (document_records tree))
  pub was_read : RecordsOf (node_bytes 0 (document_records tree)) tree
  -- a node's parent is the node before it or above that
  pub in_order : (v : Node) → suc v < length (document_records tree) → Above (tree_of (document_records tree)) ((tree_of (document_records tree)).parent (suc v)) v
  pub same_size : length (node_bytes 0 (document_records tree)) ≡ length nodes

-- what is owed to all who write and read
pub record ThereAndBack : Type 0 where
  -- a text of the form is one that the writer produces, so that 16 is said of all others and of no other
  pub form_iff : (text : List ℕ) → ((e : Element) × XmlForm text e) ↔ Produced text
  -- what was written is read
  pub read_back : {nodes text buffer after lent later : List ℕ} {s : Fill}
      → WriterPromise nodes buffer (fill_written text) after → 256 ≤ length lent → ReaderPromise text lent s later → ReadBack nodes s
  -- what was read is written, as the text that it was
  pub write_back : {text nodes buffer after lent later : List ℕ} {s : Fill}
      → ReaderPromise text buffer (fill_written nodes) after → 512 ≤ length lent → WriterPromise nodes lent s later → s ≡ fill_written text
  -- "two trees give the same text only if they are the same ordered labelled tree"
  pub same_text : {nodes others text buffer after lent later : List ℕ}
      → WriterPromise nodes buffer (fill_written text) after → WriterPromise others lent (fill_written text) later → (e : Element) × RecordsOf nodes e × RecordsOf others e
