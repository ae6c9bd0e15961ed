-- Writer and reader ask of the buffer only that it is long enough, so what is printed is what is promised of the shortest one; and what the programs
-- read is enough: what is kept of node records read in pieces, and the first 439 bytes of a text, get the answer of the whole. No refusal is a tree.
use mathlib.Core.Path.{◌≡◌, refl, sym, ap, subst, ◌∙◌}
use mathlib.Core.List.{List}
use Prim.Native.Nat.{ℕ, ◌≤◌, ◌<◌}
use native.Mathlib.Decide.{dec_le}
use native.Mathlib.Omega.{arith}
use lib.ListN.{length, take, length-replicate}
use lib.Seq.{length-take-le, take_all}
use lib.Dec.{leb}
use Rattle.meaning.specs.Ascii.{ascii}
use Rattle.meaning.specs.Finite.{pick, ◌and◌}
use Rattle.meaning.specs.Files.{JudgedNodes, refused_nodes, judge_nodes}
use Rattle.meaning.specs.Results.{Fill, fill_refused}
use Rattle.meaning.specs.Text.{before_last, digits_of, decimal, numbered, fill_text}
use Rattle.meaning.specs.Xml.{Element}
use Rattle.theory.specs.Reader.{Got, nothing, front}
use Rattle.theory.specs.Xml.{written_of, write_xml, opens, forest_at, outermost, text_element, read_of, read_xml}
use Rattle.theory.proofs.XmlReader.{no_form, form_short}
use Rattle.theory.proofs.XmlPromise.{write_alike, write_keeps, read_alike, read_keeps}
use Rattle.answers.specs.Pieces.{kept, joined}
use Rattle.answers.proofs.ShorterNodes.{nodes_as_joined}
use Rattle.putting.specs.Fronts.{Fronted}
use Rattle.xmltext.specs.Printing.{text_room, nodes_room, WrittenAs, ReadAs}

-- ---- the buffer

pub written_as : (nodes before : List ℕ) (k : ℕ) (last : List ℕ) → 512 ≤ length before → Fronted (fill_text (write_xml nodes before)) before k last → WrittenAs nodes before k last
unfolding write_xml
written_as nodes before k last l f =
    let e : length text_room ≡ 512 = length-replicate {A = ℕ} 512 0 in
    record {
      output = subst (λ (q : Fill). Fronted (fill_text q) before k last) (write_alike (judge_nodes nodes) before text_room l (omega arith)) f;
      promise = write_keeps nodes text_room;
    }

pub read_as : (text before : List ℕ) (k : ℕ) (last : List ℕ) → 256 ≤ length before → Fronted (fill_text (read_xml text before)) before k last → ReadAs text before k last
read_as text before k last l f =
    let e : length nodes_room ≡ 256 = length-replicate {A = ℕ} 256 0 in
    record {
      output = subst (λ (q : Fill). Fronted (fill_text q) before k last) (read_alike text before nodes_room l (omega arith)) f;
      promise = read_keeps text nodes_room;
    }

-- ---- what is read

pub nodes_read : (pieces : List (List ℕ)) (buffer : List ℕ) → write_xml (kept pieces) buffer ≡ write_xml (joined pieces) buffer
unfolding write_xml
nodes_read pieces buffer = ap (λ (j : JudgedNodes). written_of j buffer) (nodes_as_joined pieces)

long_text : (text : List ℕ) → 438 < length text → text_element text ≡ nothing
long_text text l = no_form text (λ e f. let s = form_short f in omega arith)

pub text_read : (text buffer : List ℕ) → read_xml (take 439 text) buffer ≡ read_xml text buffer
unfolding read_xml
text_read text buffer = ap (λ (g : Got Element). pick (leb 256 (length buffer)) (read_of g) (fill_refused 17)) (by (dec_le (length text) 439))
  where
    by : Dec (length text ≤ 439) → text_element (take 439 text) ≡ text_element text
    by (yes l) = ap text_element (take_all 439 text l)
    by (no l) = let n = length-take-le 439 text (omega arith) in long_text (take 439 text) (omega arith) ∙ sym (long_text text (omega arith))

-- ---- what is refused

-- neither program takes the line of the other's refusal for a tree
pub refusal_no_tree : (judge_nodes (fill_text (fill_refused 16)) ≡ refused_nodes 8)
    × (text_element (fill_text (fill_refused 8)) ≡ nothing) × (text_element (fill_text (fill_refused 9)) ≡ nothing) × (text_element (fill_text (fill_refused 10)) ≡ nothing)
    × (text_element (fill_text (fill_refused 11)) ≡ nothing) × (text_element (fill_text (fill_refused 15)) ≡ nothing)
unfolding judge_nodes text_element outermost forest_at opens front fill_text numbered ascii decimal digits_of before_last pick ◌and◌
refusal_no_tree = (refl, refl, refl, refl, refl, refl)
