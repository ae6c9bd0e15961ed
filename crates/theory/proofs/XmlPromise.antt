-- The computed writer and reader keep their promises, and each promise leaves one answer.
use mathlib.Core.Path.{◌≡◌, refl, sym, ap, ◌∙◌}
use mathlib.Core.Logic.{⊎_elim}
use mathlib.Core.List.{List, [], ◌∷◌}
use Prim.Native.Nat.{ℕ, suc, ◌≤◌, ◌<◌}
use native.Mathlib.Nat.{le_trans}
use native.Mathlib.Omega.{arith}
use lib.ListN.{length}
use lib.Dec.{leb}
use Rattle.meaning.specs.Finite.{Yes, pick, ◌and◌, ◌or◌, neg}
use Rattle.meaning.specs.Tree.{is_capital}
use Rattle.meaning.specs.Paths.{is_small, is_letter}
use Rattle.meaning.specs.ReadOff.{NodeRecord, tree_of, node_bytes}
use Rattle.meaning.specs.Files.{JudgedNodes, refused_nodes, accepted_nodes, judge_nodes}
use Rattle.meaning.specs.Results.{Fill, fill_refused, fill_written, fill_wrote}
use Rattle.meaning.specs.Xml.{Element, alone, count, IsOrdered, element_text, XmlForm, document_records, is_nameable, records_nameable, WriterPromise, ReaderPromise}
use Rattle.meaning.proofs.Tests.{clash, yes_case, pick_yes, pick_no, pick_has, is_le, le_yes}
use Rattle.meaning.proofs.XmlTrees.{ordered_unique, document_size, document_ordered, ordered_nameable}
use Rattle.theory.specs.Reader.{Got, nothing, got}
use Rattle.theory.specs.Xml.{element_of, written_of, write_xml, text_element, read_of, read_xml}
use Rattle.theory.proofs.Filled.{Fits, kept_length}
use Rattle.theory.proofs.AnswerFile.{length_node_bytes}
use Rattle.theory.proofs.XmlOrdered.{ordered_is, ordered_only, ordered_count}
use Rattle.theory.proofs.XmlReader.{form_unique, form_read, form_of, no_form, not_read, form_short}
use Rattle.theory.proofs.XmlQuestions.{Accepted, nodes_accepted, accepted_shape, document_accepted}

-- 17 is asked before 15
short_before_label : written_of (accepted_nodes (record { up = 0; label = 0 } ∷ record { up = 0; label = 95 } ∷ [])) [] ≡ fill_refused 17
unfolding written_of records_nameable is_nameable is_letter is_small is_capital pick ◌and◌ ◌or◌
short_before_label = refl

-- ---- accepted records are exactly one ordered tree

pub record OneOrdered (vs : List NodeRecord) (e : Element) : Type 0 where
  pub ordered : IsOrdered (tree_of vs) e
  pub only : (f : Element) → IsOrdered (tree_of vs) f → f ≡ e
  pub counted : suc (count (alone e)) ≡ length vs
  pub few : suc (count (alone e)) ≤ 64

pub accepted_ordered : (vs : List NodeRecord) → Accepted vs → OneOrdered vs (element_of (tree_of vs))
accepted_ordered vs a =
    let s = accepted_shape vs a in
    let o = ordered_is (tree_of vs) s in
    let c : suc (count (alone (element_of (tree_of vs)))) ≡ length vs = unfold tree_of in ordered_count (tree_of vs) s (element_of (tree_of vs)) o in
    let f = a.few in
    record { ordered = o; only = ordered_only (tree_of vs) s; counted = c; few = omega arith }

pub document_element : (e : Element) → suc (count (alone e)) ≤ 64 → element_of (tree_of (document_records e)) ≡ e
document_element e l = sym ((accepted_ordered (document_records e) (document_accepted e l)).only e (document_ordered e))

-- ---- the writer's promise

-- accepted records without a refused label have a text of the form
pub written_form : (vs : List NodeRecord) → Accepted vs → Yes (records_nameable vs) → XmlForm (element_text (element_of (tree_of vs))) (element_of (tree_of vs))
written_form vs a y =
    let o = accepted_ordered vs a in
    record { is = refl; nameable = ordered_nameable vs (element_of (tree_of vs)) y o.ordered; few = o.few }

write_fits : (nodes buffer : List ℕ) (j : JudgedNodes) → judge_nodes nodes ≡ j → Fits buffer (written_of j buffer)
unfolding written_of
write_fits nodes buffer (refused_nodes q) e = tt
write_fits nodes buffer (accepted_nodes vs) e =
    pick_has (Fits buffer) (leb 512 (length buffer)) _ _
    (λ l. pick_has (Fits buffer) (records_nameable vs) _ _
    (λ y. let s = form_short (written_form vs (nodes_accepted nodes vs e) y) in let b : 512 ≤ length buffer = is_le l in omega arith) tt)
    tt

-- 17, then 15, then the text
pub write_short : (vs : List NodeRecord) (buffer : List ℕ) → length buffer < 512 → written_of (accepted_nodes vs) buffer ≡ fill_refused 17
unfolding written_of
write_short vs buffer l = pick_no _ _ (λ y. let b : 512 ≤ length buffer = is_le y in omega arith)

pub write_no_name : (vs : List NodeRecord) (buffer : List ℕ) → 512 ≤ length buffer → ¬ Yes (records_nameable vs) → written_of (accepted_nodes vs) buffer ≡ fill_refused 15
unfolding written_of
write_no_name vs buffer l n = pick_yes _ _ (le_yes l) ∙ pick_no _ _ n

pub write_wide : (vs : List NodeRecord) (buffer : List ℕ) → 512 ≤ length buffer → Yes (records_nameable vs)
    → written_of (accepted_nodes vs) buffer ≡ fill_written (element_text (element_of (tree_of vs)))
unfolding written_of
write_wide vs buffer l y = pick_yes _ _ (le_yes l) ∙ pick_yes _ _ y

-- of the buffer it asks only that it is long enough
pub write_alike : (j : JudgedNodes) (b c : List ℕ) → 512 ≤ length b → 512 ≤ length c → written_of j b ≡ written_of j c
unfolding written_of
write_alike (refused_nodes q) b c l m = refl
write_alike (accepted_nodes vs) b c l m = pick_yes _ _ (le_yes l) ∙ sym (pick_yes _ _ (le_yes m))

pub write_keeps : (nodes buffer : List ℕ) → WriterPromise nodes buffer (write_xml nodes buffer) (fill_wrote (write_xml nodes buffer) buffer)
unfolding write_xml
write_keeps nodes buffer = record {
  refuses = λ e. ap (λ (j : JudgedNodes). written_of j buffer) e ∙ (unfold written_of in refl);
  short_buffer = λ {vs} e l. ap (λ (j : JudgedNodes). written_of j buffer) e ∙ write_short vs buffer l;
  no_name = λ {vs} e l n. ap (λ (j : JudgedNodes). written_of j buffer) e ∙ write_no_name vs buffer l n;
  writes = λ {vs} e l y. (
    element_of (tree_of vs),
    (accepted_ordered vs (nodes_accepted nodes vs e)).ordered,
    ap (λ (j : JudgedNodes). written_of j buffer) e ∙ write_wide vs buffer l y,
  );
  only = λ {vs} h {e} {f} p q. ordered_unique (tree_of vs) e f p q;
  wrote = refl;
  same_length = kept_length buffer (written_of (judge_nodes nodes) buffer) (write_fits nodes buffer (judge_nodes nodes) refl);
}

-- the promise leaves one answer
module _ (nodes buffer : List ℕ) (r : Fill) (after : List ℕ) (p : WriterPromise nodes buffer r after) where
  write_at : (j : JudgedNodes) → judge_nodes nodes ≡ j → r ≡ written_of j buffer
  unfolding written_of
  write_at (refused_nodes q) e = p.refuses e
  write_at (accepted_nodes vs) e = ⊎_elim wide (λ z. p.short_buffer e (narrow z) ∙ sym (pick_no _ _ (λ y. clash y z))) (yes_case (leb 512 (length buffer)))
    where
      narrow : Yes (neg (leb 512 (length buffer))) → length buffer < 512
      narrow z = let n : ¬ (512 ≤ length buffer) = λ h. clash (le_yes h) z in omega arith

      wide : Yes (leb 512 (length buffer))
          → r ≡ pick (leb 512 (length buffer)) (pick (records_nameable vs) (fill_written (element_text (element_of (tree_of vs)))) (fill_refused 15)) (fill_refused 17)
      wide l =
          ⊎_elim
          (λ y. let w = p.writes e (is_le l) y in
          w.2 ∙ ap (λ (f : Element). fill_written (element_text f)) ((accepted_ordered vs (nodes_accepted nodes vs e)).only w.0 w.1) ∙ sym (pick_yes _ _ l ∙ pick_yes _ _ y))
          (λ z. p.no_name e (is_le l) (λ y. clash y z) ∙ sym (pick_yes _ _ l ∙ pick_no _ _ (λ y. clash y z)))
          (yes_case (records_nameable vs))

  pub write_unique : r ≡ write_xml nodes buffer
  unfolding write_xml
  write_unique = write_at (judge_nodes nodes) refl

  pub written_unique : after ≡ fill_wrote (write_xml nodes buffer) buffer
  written_unique = p.wrote ∙ ap (λ (k : Fill). fill_wrote k buffer) write_unique

-- ---- the reader's promise

pub document_length : (e : Element) → suc (count (alone e)) ≤ 64 → length (node_bytes 0 (document_records e)) ≤ 256
document_length e l = let a = length_node_bytes 0 (document_records e) in let b = document_size e in omega arith

read_fits : (text buffer : List ℕ) → 256 ≤ length buffer → (g : Got Element) → text_element text ≡ g → Fits buffer (read_of g)
unfolding read_of
read_fits text buffer l nothing d = tt
read_fits text buffer l (got e q) d = le_trans (document_length e (form_of d).few) l

read_xml_fits : (text buffer : List ℕ) → Fits buffer (read_xml text buffer)
unfolding read_xml
read_xml_fits text buffer = pick_has (Fits buffer) (leb 256 (length buffer)) _ _ (λ l. read_fits text buffer (is_le l) (text_element text) refl) tt

pub read_alike : (text b c : List ℕ) → 256 ≤ length b → 256 ≤ length c → read_xml text b ≡ read_xml text c
unfolding read_xml
read_alike text b c l m = pick_yes _ _ (le_yes l) ∙ sym (pick_yes _ _ (le_yes m))

pub read_wide : (text buffer : List ℕ) (e : Element) → 256 ≤ length buffer → XmlForm text e → read_xml text buffer ≡ fill_written (node_bytes 0 (document_records e))
unfolding read_xml read_of
read_wide text buffer e l f = pick_yes _ _ (le_yes l) ∙ ap read_of (form_read f)

pub read_none : (text buffer : List ℕ) → 256 ≤ length buffer → ((e : Element) → ¬ XmlForm text e) → read_xml text buffer ≡ fill_refused 16
unfolding read_xml read_of
read_none text buffer l n = pick_yes _ _ (le_yes l) ∙ ap read_of (no_form text n)

pub read_keeps : (text buffer : List ℕ) → ReaderPromise text buffer (read_xml text buffer) (fill_wrote (read_xml text buffer) buffer)
read_keeps text buffer = record {
  short_buffer = λ l. unfold read_xml in pick_no _ _ (λ y. let b : 256 ≤ length buffer = is_le y in omega arith);
  no_form = λ l n. read_none text buffer l n;
  writes = λ l {e} f. read_wide text buffer e l f;
  only = form_unique;
  wrote = refl;
  same_length = kept_length buffer (read_xml text buffer) (read_xml_fits text buffer);
}

module _ (text buffer : List ℕ) (r : Fill) (after : List ℕ) (p : ReaderPromise text buffer r after) where
  read_at : 256 ≤ length buffer → (g : Got Element) → text_element text ≡ g → r ≡ read_of g
  unfolding read_of
  read_at l nothing d = p.no_form l (not_read text d)
  read_at l (got e q) d = p.writes l (form_of d)

  pub read_unique : r ≡ read_xml text buffer
  unfolding read_xml
  read_unique =
      ⊎_elim (λ y. read_at (is_le y) (text_element text) refl ∙ sym (pick_yes _ _ y))
      (λ z. let n : ¬ (256 ≤ length buffer) = λ h. clash (le_yes h) z in p.short_buffer (omega arith) ∙ sym (pick_no _ _ (λ y. clash y z)))
      (yes_case (leb 256 (length buffer)))

  pub read_buffer_unique : after ≡ fill_wrote (read_xml text buffer) buffer
  read_buffer_unique = p.wrote ∙ ap (λ (k : Fill). fill_wrote k buffer) read_unique
