-- The computed writer and reader give each row's answer: one statement, by computing.
use mathlib.Core.Path.{◌≡◌, refl}
use mathlib.Core.List.{map}
use lib.ListN.{replicate}
use Rattle.meaning.specs.Finite.{pick, ◌and◌, ◌or◌}
use Rattle.meaning.specs.Tree.{is_capital}
use Rattle.meaning.specs.ReadOff.{tree_of, node_bytes}
use Rattle.meaning.specs.Files.{quads, node_fine, nodes_fine, node_of, all_nodes, judge_nodes}
use Rattle.meaning.specs.Ascii.{ascii}
use Rattle.meaning.specs.Paths.{is_small, is_letter}
use Rattle.meaning.specs.Results.{Fill}
use Rattle.meaning.specs.Xml.{count, is_nameable, name_of, enclosed, forest_text, element_text, forest_records, document_records, records_nameable}
use Rattle.theory.specs.Reader.{front}
use Rattle.theory.specs.Xml.{forest_from, element_of, written_of, is_name, label_named, opens, some, forest_at, outermost, text_element, read_of}
use Rattle.theory.specs.XmlTable.{Row, to_write, to_read, table}

abbrev pub computed : Row → Fill
computed (to_write nodes r) = written_of (judge_nodes nodes) (replicate 512 0)
computed (to_read text r) = read_of (text_element text)

abbrev pub stated : Row → Fill
stated (to_write nodes r) = r
stated (to_read text r) = r

pub table_computed : map computed table ≡ map stated table
unfolding table ascii written_of judge_nodes quads all_nodes nodes_fine node_fine node_of records_nameable is_nameable element_of forest_from tree_of element_text forest_text enclosed name_of read_of text_element outermost forest_at opens some front is_name label_named is_letter is_small is_capital count pick ◌and◌ ◌or◌ node_bytes document_records forest_records
table_computed = refl
