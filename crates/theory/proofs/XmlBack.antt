-- There and back: what was written is read as the tree that it was, in document order; what was read is written as the text that it was; two trees
-- give one text only if they are one ordered tree; and the texts of the form are those that the writer produces.
use mathlib.Core.Path.{◌≡◌, refl, sym, ap, ◌∙◌, subst}
use mathlib.Core.Logic.{⊎_elim, ◌↔◌}
use mathlib.Core.List.{List}
use Prim.Native.Nat.{ℕ, ◌≤◌}
use native.Mathlib.Omega.{arith}
use lib.ListN.{length, replicate, length-replicate}
use lib.Dec.{leb}
use Rattle.meaning.specs.ReadOff.{NodeRecord, tree_of, node_bytes}
use Rattle.meaning.specs.Files.{JudgedNodes, refused_nodes, accepted_nodes, judge_nodes}
use Rattle.meaning.specs.Results.{Fill, fill_refused, fill_written, fill_wrote}
use Rattle.meaning.specs.Xml.{Element, element_text, XmlForm, document_records, records_nameable, WriterPromise, ReaderPromise, Produced, RecordsOf, ReadBack, ThereAndBack}
use Rattle.meaning.proofs.Tests.{clash, yes_case, pick_yes, pick_no}
use Rattle.meaning.proofs.XmlTrees.{document_size, document_ordered, document_order, document_nameable}
use Rattle.theory.specs.Reader.{Got, nothing, got}
use Rattle.theory.specs.Xml.{element_of, written_of, write_xml, text_element, read_of, read_xml}
use Rattle.theory.proofs.AnswerFile.{length_node_bytes}
use Rattle.theory.proofs.XmlReader.{text_unique, form_of, form_short}
use Rattle.theory.proofs.XmlQuestions.{nodes_accepted, document_judged, judged_length}
use Rattle.theory.proofs.XmlPromise.{accepted_ordered, document_element, document_length, written_form, write_wide, write_keeps, write_unique, read_unique}

-- ---- what was written

-- the text is that of the one ordered tree that accepted records are
record Wrote (nodes text : List ℕ) : Type 0 where
  records : List NodeRecord
  accepts : judge_nodes nodes ≡ accepted_nodes records
  form : XmlForm text (element_of (tree_of records))

write_is : (nodes buffer text : List ℕ) → write_xml nodes buffer ≡ fill_written text → Wrote nodes text
unfolding write_xml written_of
write_is nodes buffer text d = go (judge_nodes nodes) refl d
  where
    none : {q : ℕ} → fill_refused q ≡ fill_written text → Wrote nodes text
    none e = let k : ◌≡◌ {A = ℕ} 0 1 = cc in absurd (omega arith)

    go : (j : JudgedNodes) → judge_nodes nodes ≡ j → written_of j buffer ≡ fill_written text → Wrote nodes text
    go (refused_nodes q) e h = none h
    go (accepted_nodes vs) e h =
        ⊎_elim
        (λ l. ⊎_elim
        (λ y. let f = written_form vs (nodes_accepted nodes vs e) y in
        let b : fill_written (element_text (element_of (tree_of vs))) ≡ fill_written text = sym (pick_yes _ _ l ∙ pick_yes _ _ y) ∙ h in
        let c : text ≡ element_text (element_of (tree_of vs)) = cc in
        record { records = vs; accepts = e; form = record { is = c; nameable = f.nameable; few = f.few } })
        (λ z. none (sym (pick_yes _ _ l ∙ pick_no _ _ (λ y. clash y z)) ∙ h))
        (yes_case (records_nameable vs)))
        (λ z. none (sym (pick_no _ _ (λ y. clash y z)) ∙ h))
        (yes_case (leb 512 (length buffer)))

pub write_few : (nodes buffer text : List ℕ) → write_xml nodes buffer ≡ fill_written text → length text ≤ 438
write_few nodes buffer text d = form_short (write_is nodes buffer text d).form

promised_wrote : {nodes text buffer after : List ℕ} → WriterPromise nodes buffer (fill_written text) after → Wrote nodes text
promised_wrote {nodes} {text} {buffer} {after} p = write_is nodes buffer text (sym (write_unique nodes buffer (fill_written text) after p))

wrote_records : {nodes text : List ℕ} (w : Wrote nodes text) → RecordsOf nodes (element_of (tree_of w.records))
wrote_records {nodes} w = (w.records, w.accepts, (accepted_ordered w.records (nodes_accepted nodes w.records w.accepts)).ordered)

-- ---- what was read

-- the records are those of the tree whose text it is
read_is : (text buffer bs : List ℕ) → read_xml text buffer ≡ fill_written bs → (e : Element) × XmlForm text e × (bs ≡ node_bytes 0 (document_records e))
unfolding read_xml read_of
read_is text buffer bs d =
    ⊎_elim (λ y. go (text_element text) refl (sym (pick_yes _ _ y) ∙ d))
    (λ z. none (sym (pick_no _ _ (λ y. clash y z)) ∙ d))
    (yes_case (leb 256 (length buffer)))
  where
    none : {q : ℕ} → fill_refused q ≡ fill_written bs → (e : Element) × XmlForm text e × (bs ≡ node_bytes 0 (document_records e))
    none e = let k : ◌≡◌ {A = ℕ} 0 1 = cc in absurd (omega arith)

    go : (g : Got Element) → text_element text ≡ g → read_of g ≡ fill_written bs → (e : Element) × XmlForm text e × (bs ≡ node_bytes 0 (document_records e))
    go nothing e h = none h
    go (got t q) e h = (t, form_of e, cc)

pub read_few : (text buffer bs : List ℕ) → read_xml text buffer ≡ fill_written bs → length bs ≤ 256
read_few text buffer bs d =
    let w = read_is text buffer bs d in
    let a = document_length w.0 w.1.few in
    let b = ap length w.2 in
    omega arith

document_writes : (text : List ℕ) (e : Element) (buffer : List ℕ) → XmlForm text e → 512 ≤ length buffer → write_xml (node_bytes 0 (document_records e)) buffer ≡ fill_written text
unfolding write_xml
document_writes text e buffer f l =
    ap (λ (j : JudgedNodes). written_of j buffer) (document_judged e f.few)
    ∙ write_wide (document_records e) buffer l (document_nameable e f.nameable)
    ∙ ap (λ (k : Element). fill_written (element_text k)) (document_element e f.few)
    ∙ ap fill_written (sym f.is)

-- ---- there and back

form_iff : (text : List ℕ) → ((e : Element) × XmlForm text e) ↔ Produced text
form_iff text = (λ w. produced w.0 w.1, λ p. let w = promised_wrote p.promised in (element_of (tree_of w.records), w.form))
  where
    produced : (e : Element) → XmlForm text e → Produced text
    produced e f =
        let n : List ℕ = node_bytes 0 (document_records e) in
        let b : List ℕ = replicate 512 0 in
        let k = length-replicate {A = ℕ} 512 0 in
        let d = document_writes text e b f (omega arith) in
        record { nodes = n; buffer = b; after = fill_wrote (write_xml n b) b; promised = subst (λ (r : Fill). WriterPromise n b r (fill_wrote (write_xml n b) b)) d (write_keeps n b) }

read_back : {nodes text buffer after lent later : List ℕ} {s : Fill}
    → WriterPromise nodes buffer (fill_written text) after → 256 ≤ length lent → ReaderPromise text lent s later → ReadBack nodes s
read_back {nodes} p l q =
    let w = promised_wrote p in
    let vs = w.records in
    let e = element_of (tree_of vs) in
    let o = accepted_ordered vs (nodes_accepted nodes vs w.accepts) in
    let few = o.few in
    let a = length_node_bytes 0 (document_records e) in
    let b = document_size e in
    let c = o.counted in
    let n = judged_length nodes vs w.accepts in
    record {
      tree = e;
      was_written = wrote_records w;
      reads = q.writes l w.form;
      was_read = (document_records e, document_judged e few, document_ordered e);
      in_order = document_order e;
      same_size = omega arith;
    }

write_back : {text nodes buffer after lent later : List ℕ} {s : Fill}
    → ReaderPromise text buffer (fill_written nodes) after → 512 ≤ length lent → WriterPromise nodes lent s later → s ≡ fill_written text
write_back {text} {nodes} {buffer} {after} {lent} {later} {s} q l p =
    let w = read_is text buffer nodes (sym (read_unique text buffer (fill_written nodes) after q)) in
    write_unique nodes lent s later p ∙ ap (λ (x : List ℕ). write_xml x lent) w.2 ∙ document_writes text w.0 lent w.1 l

same_text : {nodes others text buffer after lent later : List ℕ}
    → WriterPromise nodes buffer (fill_written text) after → WriterPromise others lent (fill_written text) later → (e : Element) × RecordsOf nodes e × RecordsOf others e
same_text {others = others} p q =
    let v = promised_wrote p in
    let w = promised_wrote q in
    let f = v.form in
    let g = w.form in
    let d = text_unique _ _ g.nameable f.nameable (sym g.is ∙ f.is) in
    (element_of (tree_of v.records), wrote_records v, subst (RecordsOf others) d (wrote_records w))

pub there_and_back : ThereAndBack
there_and_back = record { form_iff = form_iff; read_back = read_back; write_back = write_back; same_text = same_text }
