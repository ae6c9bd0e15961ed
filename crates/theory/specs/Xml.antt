-- Trees as XML, computed: the ordered tree that a numbered one is, and the reader of a text. The reader has fuel, since it goes by the bytes and
-- not by a tree: 64, as no more than 63 elements are asked for. proofs/XmlOrdered and XmlReader show what each decides.
use Rattle.std.specs.Prelude.{Bool, true, false, List, [], ◌∷◌, ℕ, zero, suc, ◌-◌, length, get_or, drop, eqb, leb, ltb}
use Rattle.meaning.specs.Tree.{Node, Label, Tree}
use Rattle.meaning.specs.Finite.{pick, ◌and◌, ◌or◌}
use Rattle.meaning.specs.ReadOff.{tree_of, node_bytes}
use Rattle.meaning.specs.Files.{JudgedNodes, refused_nodes, accepted_nodes, judge_nodes}
use Rattle.meaning.specs.Paths.{is_letter}
use Rattle.meaning.specs.Results.{Fill, fill_refused, fill_written}
use Rattle.meaning.specs.Xml.{Forest, no_element, element, Element, alone, count, element_text, document_records, records_nameable}
use Rattle.theory.specs.Reader.{Got, nothing, got, and_then, front}

-- ---- the ordered tree

-- the children of u among the k numbers from i on: a child's own children have larger numbers than it has
unfoldable pub forest_from : Tree → ℕ → ℕ → Node → Forest
forest_from t zero i u = no_element
forest_from t (suc k) i u =
    let c = forest_from t k (suc i) i in
    let r = forest_from t k (suc i) u in
    pick (ltb 0 i and eqb (t.parent i) u) (element (t.label i) c r) r

-- the outermost element is node 1
unfoldable pub element_of : Tree → Element
element_of t = record { label = t.label 1; children = forest_from t (t.size - 2) 2 1 }

-- 17, then 15
unfoldable pub written_of : JudgedNodes → List ℕ → Fill
written_of (refused_nodes q) buffer = fill_refused q
written_of (accepted_nodes vs) buffer =
    pick (leb 512 (length buffer)) (pick (records_nameable vs) (fill_written (element_text (element_of (tree_of vs)))) (fill_refused 15)) (fill_refused 17)

-- 8 to 11 first
unfoldable pub write_xml : List ℕ → List ℕ → Fill
write_xml nodes buffer = written_of (judge_nodes nodes) buffer

-- ---- the reader

-- the second byte is the name, where an element starts
abbrev pub name_at : List ℕ → ℕ
name_at bs = get_or bs 1 0

unfoldable pub is_name : ℕ → Bool
is_name b = eqb b 95 or is_letter b

unfoldable pub label_named : ℕ → Label
label_named b = pick (eqb b 95) 0 b

-- < and a name
unfoldable pub opens : List ℕ → Bool
opens bs = front bs (60 ∷ name_at bs ∷ []) and is_name (name_at bs)

-- at least one element
unfoldable pub some : Forest → Bool
some no_element = false
some (element l c r) = true

-- as many elements as follow
unfoldable pub forest_at : ℕ → List ℕ → Got Forest
forest_at zero bs = nothing
forest_at (suc k) bs =
    let n = name_at bs in
    let p = drop 2 bs in
    let leaf = and_then (forest_at k (drop 2 p)) λ r q. got (element (label_named n) no_element r) q in
    let whole = and_then (forest_at k (drop 1 p)) λ c q.
    pick (some c and front q (60 ∷ 47 ∷ n ∷ 62 ∷ [])) (and_then (forest_at k (drop 4 q)) λ r s. got (element (label_named n) c r) s) nothing in
    pick (opens bs) (pick (front p (47 ∷ 62 ∷ [])) leaf (pick (front p (62 ∷ [])) whole nothing)) (got no_element bs)

-- one element and no byte after it, of at most 63
unfoldable pub outermost : Got Forest → Got Element
outermost nothing = nothing
outermost (got no_element q) = nothing
outermost (got (element l c no_element) q) =
    let e : Element = record { label = l; children = c } in pick (eqb (length q) 0 and leb (suc (count (alone e))) 64) (got e q) nothing
outermost (got (element l c (element m d s)) q) = nothing

unfoldable pub text_element : List ℕ → Got Element
text_element text = outermost (forest_at 64 text)

-- 16
unfoldable pub read_of : Got Element → Fill
read_of nothing = fill_refused 16
read_of (got e q) = fill_written (node_bytes 0 (document_records e))

-- 17 first
unfoldable pub read_xml : List ℕ → List ℕ → Fill
read_xml text buffer = pick (leb 256 (length buffer)) (read_of (text_element text)) (fill_refused 17)
