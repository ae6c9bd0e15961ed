-- What is answered and written once the lines have been read: the sheet then has the numbers and the bytes of the records.
use Rattle.std.proofs.Common.{◌≡◌, refl, sym, ap, ◌∙◌, subst, List, [], ◌∷◌, ℕ, ◌≤◌, ◌<◌, length, take, Result, Ok, Err, arith}
use native.Mathlib.Nat.{not-suc-le-zero}
use native.Mathlib.Decide.{dec_le}
use Prim.Native.Nat.{suc-le-suc, zero-le}
use lib.Dec.{leb}
use Rattle.meaning.specs.Finite.{pick}
use Rattle.meaning.specs.Paths.{Path, lines_text, OfForm}
use Rattle.meaning.specs.PathRecords.{Sheet, blank_sheet, lines_sheet, records_of, variables_of, file_bytes}
use Rattle.meaning.specs.Results.{Fill, fill_refused, fill_written, fill_wrote}
use Rattle.meaning.proofs.Tests.{pick_yes, pick_no, is_le, le_yes, eq_yes}
use Rattle.meaning.proofs.PathCounts.{records_few}
use Rattle.questions.specs.declared.Question.{Question}
use Rattle.questions.specs.declared.Question.TheVariants.{Buffer, PathsForm, PathsVariables}
use Rattle.questions.specs.Number.{number}
use Rattle.theory.specs.PathReader.{lines_at, text_paths, paths_answer, answer_of, read_paths}
use Rattle.theory.specs.Reader.{Got, nothing, got, and_then}
use Rattle.theory.proofs.PathForm.{LinesReads, lines_reads}
use Rattle.theory.proofs.PathPromise.{text_form}
use Rattle.lent.specs.Filling.{AnswerOf}
use Rattle.lent.specs.Putting.{Put}
use Rattle.lent.proofs.Answered.{put_filled}
use Rattle.sheet.specs.Bytes.{Bytes, blank_in, Follows}
use Rattle.sheet.proofs.Follow.{blank_follows}
use Rattle.xpath.specs.Reading.{AllRead, LinesRead}
use Rattle.xpath.proofs.LineReturns.{Answer, all_along}

abbrev sheet_of : List Path → Sheet
sheet_of ps = lines_sheet ps blank_sheet

abbrev IsOk : {A B : Type 0} → Result A B → Type 0
IsOk (Ok a) = Unit {0}
IsOk (Err q) = ⊥

abbrev number_of : {A : Type 0} → Result A ℕ → ℕ
number_of (Ok a) = 0
number_of (Err q) = q

abbrev refused : ℕ → Result ℕ ℕ
refused k = Err k

-- ---- the paths of a text

module _ (s : List ℕ) where
  too_long : 1024 < length s → text_paths s ≡ nothing
  unfolding text_paths
  too_long l = pick_no _ _ (λ y. let h : length s ≤ 1024 = is_le y in omega arith)

  abbrev some_line : Got (List Path) → Got (List Path)
  some_line g = and_then g λ ps q. pick (leb 1 (length ps)) (got ps q) nothing

  no_line : length s ≡ 0 → text_paths s ≡ nothing
  unfolding text_paths lines_at
  no_line e =
      let h : length s ≤ 1024 = omega arith in
      pick_yes _ _ (le_yes h) ∙ ap some_line (pick_yes _ _ (eq_yes e))
      ∙ pick_no _ _ (λ y. let k : 1 ≤ 0 = is_le y in not-suc-le-zero k)

  -- a text that is not empty has a line
  has_line : (ps : List Path) → (length s ≡ 0 → ⊥) → s ≡ lines_text ps → 1 ≤ length ps
  unfolding lines_text
  has_line [] n e = absurd (n (ap length e))
  has_line (p ∷ ps) n e = suc-le-suc zero-le

  module _ (l : length s ≤ 1024) (n : length s ≡ 0 → ⊥) (r : Answer) (c : Bytes) where
    some_read : (g : Got (List Path)) → LinesReads 8 s g → AllRead sheet_of g r c → AllRead sheet_of (some_line g) r c
    some_read nothing h k = k
    some_read (got ps q) h k = all_along sheet_of r c (pick_yes _ _ (le_yes (has_line ps n h.0))) k

    text_read : (b : Bytes) → b ≡ blank_in → LinesRead s 8 b r c → AllRead sheet_of (text_paths s) r c
    unfolding text_paths
    text_read b e h =
        all_along sheet_of r c (pick_yes _ _ (le_yes l))
        (some_read (lines_at 8 s) (lines_reads 8 s) (h blank_sheet (subst (Follows blank_sheet) (sym e) blank_follows)))

-- ---- what is answered

module _ (s buffer : List ℕ) where
  abbrev Answers : Result ℕ Question → Type 0
  Answers r = AnswerOf (read_paths s buffer) r × (buffer ≡ fill_wrote (read_paths s buffer) buffer)

  refusal : (q : Question) {n : ℕ} → number q ≡ n → read_paths s buffer ≡ fill_refused n → Answers (Err q)
  refusal q {n} d e = (
    subst (λ (k : Fill). AnswerOf k (Err q)) (sym e) (ap refused d),
    sym (ap (λ (k : Fill). fill_wrote k buffer) e ∙ unfold fill_wrote in refl),
  )

  pub short_answer : length buffer < 1024 → Answers (Err Buffer)
  short_answer l =
      refusal Buffer refl (unfold read_paths in (pick_no _ _ (λ y. let h : 1024 ≤ length buffer = is_le y in
      omega arith)))

  module _ (l : 1024 ≤ length buffer) where
    no_form : (q : Question) → number q ≡ 13 → text_paths s ≡ nothing → Answers (Err q)
    no_form q d e = refusal q d (unfold read_paths answer_of in (pick_yes _ _ (le_yes l) ∙ ap answer_of e))

    pub long_answer : 1024 < length s → Answers (Err PathsForm)
    long_answer h = no_form PathsForm refl (too_long s h)

    pub empty_answer : length s ≡ 0 → Answers (Err PathsForm)
    empty_answer h = no_form PathsForm refl (no_line s h)

    module _ (few_bytes : length s ≤ 1024) (not_empty : length s ≡ 0 → ⊥) (b : Bytes) (blank : b ≡ blank_in)
        (c : Bytes) where
      pub bad_answer : (q : Question) → LinesRead s 8 b (Err q) c → Answers (Err q)
      bad_answer q h = go (text_paths s) refl (text_read s few_bytes not_empty (Err q) c b blank h)
        where
          go : (g : Got (List Path)) → text_paths s ≡ g → AllRead sheet_of g (Err q) c → Answers (Err q)
          go nothing e h = no_form q (ap number_of h) e
          go (got ps t) e h = absurd (subst IsOk (sym h.0) tt)

      module _ (h : LinesRead s 8 b (Ok tt) c) where
        got_paths : (g : Got (List Path)) → AllRead sheet_of g (Ok tt) c
            → (ps : List Path) × (q : List ℕ) × (g ≡ got ps q) × Follows (sheet_of ps) c
        got_paths nothing k = absurd (subst IsOk k tt)
        got_paths (got ps q) k = (ps, q, refl, k.1)

        -- the paths that were read
        found : (ps : List Path) × (q : List ℕ) × (text_paths s ≡ got ps q) × Follows (sheet_of ps) c
        found = got_paths (text_paths s) (text_read s few_bytes not_empty (Ok tt) c b blank h)

        pub many_answer : 16 < c.next → Answers (Err PathsVariables)
        many_answer m =
            let z = found in
            refusal PathsVariables refl (unfold read_paths answer_of paths_answer variables_of in (
            pick_yes _ _ (le_yes l) ∙ ap answer_of z.2
            ∙ pick_no _ _ (λ y. let f : (sheet_of z.0).next ≤ 16 = is_le y in let d = (z.3.few f).0 in omega arith)))

        module _ (m : c.next ≤ 16) where
          few : (ps : List Path) → Follows (sheet_of ps) c → variables_of ps ≤ 16
          unfolding variables_of
          few ps o = go (dec_le (sheet_of ps).next 16)
            where
              go : Dec ((sheet_of ps).next ≤ 16) → (sheet_of ps).next ≤ 16
              go (yes p) = p
              go (no p) = let d = o.many (omega arith) in absurd (omega arith)

          exactly : (ps : List Path) → OfForm s ps → Follows (sheet_of ps) c
              → take c.length c.records ≡ file_bytes (records_of ps)
          unfolding variables_of records_of
          exactly ps f o =
              let v = few ps o in
              let k = records_few ps in
              let n = f.few_lines in
              let q : length (records_of ps) ≤ 46 = omega arith in
              (o.exact v (omega (arith, q))).1

          filled : (ps : List Path) (q : List ℕ) → text_paths s ≡ got ps q → variables_of ps ≤ 16
              → read_paths s buffer ≡ fill_written (file_bytes (records_of ps))
          unfolding read_paths answer_of paths_answer
          filled ps q e v = pick_yes _ _ (le_yes l) ∙ ap answer_of e ∙ pick_yes _ _ (le_yes v)

          pub written_answer : {r : ℕ} {text after : List ℕ} → text ≡ take c.length c.records
              → Put buffer 0 text r after
              → AnswerOf (read_paths s buffer) (Ok r) × (after ≡ fill_wrote (read_paths s buffer) buffer)
          written_answer {r} {text} {after} e p =
              let z = found in
              let v = few z.0 z.3 in
              let x = e ∙ exactly z.0 (text_form s (got z.0 z.1) z.2) z.3 in
              let d = filled z.0 z.1 z.2 v ∙ ap fill_written (sym x) in
              subst (λ (k : Fill). AnswerOf k (Ok r) × (after ≡ fill_wrote k buffer)) (sym d) (put_filled p)
