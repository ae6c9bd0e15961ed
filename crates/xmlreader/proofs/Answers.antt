-- What the reader answers, from what its parts have found: 17 for a short buffer, 16 where no element stands from the start to the end of the text, and
-- otherwise the records of the outermost element, with the document node before them. By the theory a text that is of the form is of one element only,
-- so what was found is what is meant.
use mathlib.Core.Path.{◌≡◌, refl, sym, ap, ◌∙◌, subst}
use mathlib.Core.Bool.{true, false, false≢true}
use mathlib.Core.List.{List, [], ◌∷◌, ◌++◌, map, append-nil}
use Prim.Native.Nat.{ℕ, ◌+◌, ◌*◌, ◌≤◌, ◌<◌}
use native.Mathlib.Omega.{arith}
use borrow.Author.Tests.{true-eqb}
use lib.ListN.{length, get_or, drop, replicate, length-map, get_or-append, get_or-map}
use lib.Seq.{sets-eq}
use Rattle.std.specs.Bool.{◌==◌}
use Rattle.std.proofs.Common.{Result, Ok, Err}
use Rattle.meaning.specs.Finite.{Yes}
use Rattle.meaning.specs.ReadOff.{NodeRecord, blank_record, node_bytes}
use Rattle.meaning.specs.Results.{Fill, fill_refused, fill_written, fill_wrote}
use Rattle.meaning.specs.Xml.{Forest, Element, alone, count, all_nameable, forest_text, forest_records, document_records, XmlForm}
use Rattle.meaning.proofs.Tests.{pick_no, is_le}
use Rattle.meaning.proofs.XmlTrees.{document_size}
use Rattle.questions.specs.declared.Question.{Question}
use Rattle.questions.specs.declared.Question.TheVariants.{XmlBuffer}
use Rattle.questions.specs.declared.Question.TheVariants as asked
use Rattle.questions.specs.Number.{number}
use Rattle.theory.specs.Xml.{read_xml, opens}
use Rattle.theory.proofs.XmlReader.{element_forest}
use Rattle.theory.proofs.XmlPromise.{read_wide, read_none}
use Rattle.lent.specs.Filling.{AnswerOf}
use Rattle.lent.specs.Putting.{Put}
use Rattle.lent.proofs.Answered.{put_filled}
use Rattle.xmlreader.specs.declared.gathered.Gathered.{Gathered}
use Rattle.xmlreader.specs.Gathering.{Fresh, NodesWritten}
use Rattle.xmlreader.specs.Reading.{Single, Found, Missed}
use Rattle.xmlreader.proofs.Forests.{one_split}
use Rattle.xmlreader.proofs.Found.{single_is, put_count}
use Rattle.xmlreader.proofs.Single.{miss_start}

nothing_left : (l : List ℕ) → true ≡ (length l == 0) → l ≡ []
nothing_left [] e = refl
nothing_left (a ∷ l) e = absurd (let h = true-eqb (length (a ∷ l)) 0 e in omega arith)

-- what was put behind the document node is a column of the records
column : (g : NodeRecord → ℕ) (e : Element) {total : ℕ} {x : List ℕ} → g blank_record ≡ 0 → Put (replicate 64 0) 1 (map g (forest_records 0 1 (alone e))) total x
    → (i : ℕ) → i < length (document_records e) → get_or x i 0 ≡ g (get_or (document_records e) i blank_record)
unfolding document_records
column g e z p i l =
    let vs = map g (forest_records 0 1 (alone e)) in
    let rest : List ℕ = drop (1 + length vs) (replicate 64 0) in
    let w = p.within in
    let d = p.end in
    let n = length-map (document_records e) g in
    ap (λ (k : List ℕ). get_or k i 0) (p.stored ∙ sets-eq vs (replicate 64 0) 1 (omega arith) ∙ ap (λ (k : ℕ). (k ∷ []) ++ vs ++ rest) (sym z))
    ∙ get_or-append (map g (document_records e)) rest 0 i (omega arith)
    ∙ ap (get_or (map g (document_records e)) i) (sym z)
    ∙ get_or-map g (document_records e) i blank_record

module _ (text buffer : List ℕ) where
  abbrev pub ReadAnswer : Result ℕ Question → List ℕ → Type 0
  ReadAnswer r after = AnswerOf (read_xml text buffer) r × (after ≡ fill_wrote (read_xml text buffer) buffer)

  answered : (a : Fill) → read_xml text buffer ≡ a → (r : Result ℕ Question) (after : List ℕ)
      → AnswerOf a r → after ≡ fill_wrote a buffer → ReadAnswer r after
  answered a e r after h w = (subst (λ (x : Fill). AnswerOf x r) (sym e) h, w ∙ ap (λ (x : Fill). fill_wrote x buffer) (sym e))

  -- a refusal leaves the buffer as it was
  refusal : (q : Question) → read_xml text buffer ≡ fill_refused (number q) → ReadAnswer (Err q) buffer
  unfolding fill_wrote
  refusal q e = answered (fill_refused (number q)) e (Err q) buffer refl refl

  pub short : length buffer < 256 → ReadAnswer (Err XmlBuffer) buffer
  short l = refusal XmlBuffer (unfold read_xml in pick_no _ _ (λ y. let h : 256 ≤ length buffer = is_le y in omega arith))

  module _ (wide : 256 ≤ length buffer) where
    no_form : ((e : Element) → ¬ XmlForm text e) → ReadAnswer (Err asked.XmlForm) buffer
    no_form n = refusal asked.XmlForm (read_none text buffer wide n)

    form_text : (e : Element) → XmlForm text e → text ≡ forest_text (alone e) ++ []
    form_text e f = f.is ∙ sym (element_forest e) ∙ sym (append-nil _)

    missed : Missed Single text 1 → ReadAnswer (Err asked.XmlForm) buffer
    missed m = no_form λ e f. let a = m (alone e) [] tt (form_text e f) f.nameable in let c = f.few in omega arith

    pub none_starts : ¬ Yes (opens text) → ReadAnswer (Err asked.XmlForm) buffer
    none_starts n = missed (miss_start text 1 n)

    module _ {g : Gathered} (fresh : Fresh g) where
      pub missed_all : {q : Question} → q ≡ asked.XmlForm → Missed Single text g.count → ReadAnswer (Err q) buffer
      missed_all e m = rw e (missed (subst (Missed Single text) fresh.count m))

      module _ {rest : List ℕ} {h : Gathered} (f : Found Single text 0 g rest h) where
        abbrev outermost : Element
        outermost = let s = single_is f.forest rest f.sort in record { label = s.0; children = s.1 }

        is_outermost : f.forest ≡ alone outermost
        is_outermost = (single_is f.forest rest f.sort).2

        text_is : text ≡ forest_text (alone outermost) ++ rest
        text_is = f.is ∙ ap (λ (w : Forest). forest_text w ++ rest) is_outermost

        nameable : Yes (all_nameable (alone outermost))
        nameable = subst (λ (w : Forest). Yes (all_nameable w)) is_outermost f.nameable

        counted : h.count ≡ 1 + count (alone outermost)
        counted =
            put_count (λ (v : NodeRecord). v.up) 0 g.count f.forest f.put_ups
            ∙ ap (λ (n : ℕ). n + count f.forest) fresh.count ∙ ap (λ (w : Forest). 1 + count w) is_outermost

        pub bytes_left : false ≡ (length rest == 0) → ReadAnswer (Err asked.XmlForm) buffer
        bytes_left z =
            no_form λ e x.
            let s = one_split outermost.label e.label outermost.children e.children rest [] nameable x.nameable (sym text_is ∙ form_text e x) in
            absurd (false≢true (rw s.1 at z))

        pub room : h.count * 4 ≤ length buffer
        room = let c = h.few in omega arith

        module _ (none_left : true ≡ (length rest == 0)) where
          all : rest ≡ []
          all = nothing_left rest none_left

          is_form : XmlForm text outermost
          is_form =
              let c = counted in
              let b = h.few in
              record {
                is = text_is ∙ ap (λ (x : List ℕ). forest_text (alone outermost) ++ x) all ∙ append-nil _ ∙ element_forest outermost;
                nameable = nameable;
                few = omega arith;
              }

          put_column : (p : NodeRecord → ℕ) {l x : List ℕ} → l ≡ replicate 64 0
              → Put l g.count (map p (forest_records 0 g.count f.forest)) h.count x
              → Put (replicate 64 0) 1 (map p (forest_records 0 1 (alone outermost))) h.count x
          put_column p {x = x} e b =
              subst (λ (w : Forest). Put (replicate 64 0) 1 (map p (forest_records 0 1 w)) h.count x) is_outermost
              (subst (λ (n : ℕ). Put (replicate 64 0) n (map p (forest_records 0 n f.forest)) h.count x) fresh.count
              (subst (λ (m : List ℕ). Put m g.count (map p (forest_records 0 g.count f.forest)) h.count x) e b))

          pub written : {after : List ℕ} → NodesWritten h buffer after → ReadAnswer (Ok (h.count * 4)) after
          written {after} k =
              let bytes = node_bytes 0 (document_records outermost) in
              let size : length (document_records outermost) ≡ h.count = (let a = document_size outermost in let c = counted in omega arith) in
              let w = put_filled (k (document_records outermost) size λ i l. (
                column (λ (v : NodeRecord). v.up) outermost refl (put_column (λ (v : NodeRecord). v.up) fresh.ups f.put_ups) i l,
                column (λ (v : NodeRecord). v.label) outermost refl (put_column (λ (v : NodeRecord). v.label) fresh.labels f.put_labels) i l,
              )) in
              answered (fill_written bytes) (read_wide text buffer outermost wide is_form) (Ok (h.count * 4)) after w.0 w.1
