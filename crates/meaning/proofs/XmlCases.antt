-- The text and the records of a few trees, and the limits of the questions, by computing: worked out by hand from docs/FORMAT.md ("Trees as XML"). A
-- change of a byte, of an order or of a number shows here.
use mathlib.Core.Path.{◌≡◌, refl}
use mathlib.Core.Bool.{true, false}
use mathlib.Core.List.{[], ◌∷◌}
use Prim.Native.Nat.{ℕ, zero, suc}
use lib.ListN.{length}
use Rattle.meaning.specs.Finite.{pick, ◌and◌, ◌or◌}
use Rattle.meaning.specs.Tree.{is_capital}
use Rattle.meaning.specs.ReadOff.{node_bytes}
use Rattle.meaning.specs.Files.{quads, node_fine, nodes_fine, node_of, all_nodes, refused_nodes, accepted_nodes, judge_nodes}
use Rattle.meaning.specs.Ascii.{ascii}
use Rattle.meaning.specs.Paths.{is_small, is_letter}
use Rattle.meaning.specs.Xml.{Forest, no_element, element, Element, count, is_nameable, all_nameable, name_of, enclosed, forest_text, element_text, forest_records, document_records}

-- an a with two elements inside it: a blank that has a c inside it, and a B
abbrev tree : Element
tree = record { label = 97; children = element 0 (element 99 no_element no_element) (element 66 no_element no_element) }

tree_text : element_text tree ≡ ascii "<a><_><c/></_><B/></a>"
unfolding element_text forest_text enclosed name_of ascii pick
tree_text = refl

-- the blank is node 2, what is inside it comes before the B
tree_records : node_bytes 0 (document_records tree) ≡ 1 ∷ 0 ∷ 0 ∷ 0 ∷ 1 ∷ 1 ∷ 0 ∷ 97 ∷ 1 ∷ 2 ∷ 1 ∷ 0 ∷ 1 ∷ 3 ∷ 2 ∷ 99 ∷ 1 ∷ 4 ∷ 1 ∷ 66 ∷ []
unfolding node_bytes document_records forest_records count
tree_records = refl

-- ---- question 15

named : (is_nameable 0 ≡ true) × (is_nameable 65 ≡ true) × (is_nameable 90 ≡ true) × (is_nameable 97 ≡ true) × (is_nameable 122 ≡ true)
unfolding is_nameable is_letter is_small is_capital ◌and◌ ◌or◌
named = (refl, refl, refl, refl, refl)

not_named : (is_nameable 1 ≡ false) × (is_nameable 64 ≡ false) × (is_nameable 91 ≡ false) × (is_nameable 95 ≡ false) × (is_nameable 96 ≡ false) × (is_nameable 123 ≡ false)
unfolding is_nameable is_letter is_small is_capital ◌and◌ ◌or◌
not_named = (refl, refl, refl, refl, refl, refl)

-- it is asked of elements inside others and of later ones too
inner_not_named : (all_nameable (element 97 (element 95 no_element no_element) no_element) ≡ false) × (all_nameable (element 97 no_element (element 95 no_element no_element)) ≡ false)
unfolding all_nameable is_nameable is_letter is_small is_capital ◌and◌ ◌or◌
inner_not_named = (refl, refl)

-- ---- questions 8 to 11 of node records alone

two_nodes_pass : judge_nodes (1 ∷ 0 ∷ 0 ∷ 0 ∷ 1 ∷ 1 ∷ 0 ∷ 97 ∷ []) ≡ accepted_nodes (record { up = 0; label = 0 } ∷ record { up = 0; label = 97 } ∷ [])
unfolding judge_nodes quads all_nodes nodes_fine node_fine node_of pick ◌and◌ ◌or◌
two_nodes_pass = refl

cut_record : judge_nodes (1 ∷ 0 ∷ 0 ∷ 0 ∷ 1 ∷ 1 ∷ 0 ∷ []) ≡ refused_nodes 8
unfolding judge_nodes quads all_nodes pick
cut_record = refl

-- a place record; asked before 10
place_record_lem : (judge_nodes (1 ∷ 0 ∷ 0 ∷ 0 ∷ 1 ∷ 1 ∷ 0 ∷ 97 ∷ 2 ∷ 0 ∷ 1 ∷ 0 ∷ []) ≡ refused_nodes 9) × (judge_nodes (2 ∷ 0 ∷ 0 ∷ 0 ∷ []) ≡ refused_nodes 9)
unfolding judge_nodes quads all_nodes pick ◌and◌
place_record_lem = (refl, refl)

one_node : judge_nodes (1 ∷ 0 ∷ 0 ∷ 0 ∷ []) ≡ refused_nodes 10
unfolding judge_nodes quads all_nodes pick ◌and◌
one_node = refl

named_document : judge_nodes (1 ∷ 0 ∷ 0 ∷ 97 ∷ 1 ∷ 1 ∷ 0 ∷ 97 ∷ []) ≡ refused_nodes 11
unfolding judge_nodes quads all_nodes nodes_fine node_fine pick ◌and◌
named_document = refl

-- ---- the longest text

-- one inside the other
chain : ℕ → Forest
chain zero = no_element
chain (suc k) = element 97 (chain k) no_element

longest : (count (chain 63) ≡ 63) × (length (forest_text (chain 63)) ≡ 438)
unfolding count chain forest_text enclosed name_of ascii pick
longest = (refl, refl)
