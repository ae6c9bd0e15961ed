-- The number of what path reader, writer and reader of XML answer; it fits, since at most 180, 438 and 256 bytes are written.
use mathlib.Core.Path.{◌≡◌, refl, sym, ap, ◌∙◌, subst}
use mathlib.Core.List.{List}
use Prim.Native.Nat.{ℕ, ◌<◌, ◌≤◌}
use native.Mathlib.Omega.{arith}
use lib.ListN.{length}
use lib.Dec.{leb}
use Rattle.meaning.specs.Paths.{Path}
use Rattle.meaning.specs.PathRecords.{variables_of}
use Rattle.meaning.specs.Results.{Fill, fill_refused, fill_written, fill_wrote, fill_number, told}
use Rattle.meaning.specs.Promises.{PathsPromise}
use Rattle.meaning.specs.Xml.{WriterPromise, ReaderPromise}
use Rattle.meaning.proofs.Tests.{pick_has, is_le}
use Rattle.theory.specs.Reader.{Got, nothing, got}
use Rattle.theory.specs.PathReader.{text_paths, paths_answer, answer_of, read_paths}
use Rattle.theory.specs.Xml.{write_xml, read_xml}
use Rattle.theory.proofs.PathPromise as paths
use Rattle.theory.proofs.XmlPromise as xml
use Rattle.theory.proofs.XmlBack.{write_few, read_few}
use Rattle.std.specs.Prelude.{Result, Ok, Err}
use Rattle.questions.specs.declared.Question.{Question}
use Rattle.questions.specs.Number.{number, numbered}
use Rattle.lent.specs.Filling.{AnswerOf}
use Rattle.lent.proofs.Answered.{answer_written, answer_refused}
use Rattle.capi.specs.Numbers.{FewBytes, answer_number}
use Rattle.capi.specs.Translates.{Translates}
use Rattle.capi.specs.Xml.{WritesXml, ReadsXml}

-- ---- any answer

-- few bytes are written
abbrev Few : Fill → Type 0
Few (fill_refused q) = Unit {0}
Few (fill_written bs) = length bs ≤ 438

few_written : (a : Fill) → ((bs : List ℕ) → a ≡ fill_written bs → length bs ≤ 438) → Few a
few_written (fill_refused q) f = tt
few_written (fill_written bs) f = f bs refl

few_read : (a : Fill) (n : ℕ) → Few a → (bs : List ℕ) × (a ≡ fill_written bs) × (n ≡ length bs) → n < 65536
few_read a n f w = let l = subst Few w.1 f in let e = w.2 in omega arith

few_bytes : (a : Fill) (r : Result ℕ Question) → Few a → AnswerOf a r → FewBytes r
few_bytes a (Err q) f h = tt
few_bytes a (Ok n) f h = few_read a n f (answer_written a (Ok n) n h refl)

number_is : (a : Fill) (r : Result ℕ Question) → AnswerOf a r → answer_number r ≡ fill_number a
unfolding answer_number fill_number
number_is a (Err q) h = sym (ap fill_number (answer_refused a (Err q) q h refl))
number_is a (Ok n) h = let w = answer_written a (Ok n) n h refl in ap (λ k. told 0 k 0) w.2 ∙ sym (ap fill_number w.1)

-- ---- the path reader

paths_few : (s : List ℕ) (g : Got (List Path)) → text_paths s ≡ g → Few (answer_of g)
unfolding answer_of paths_answer
paths_few s nothing e = tt
paths_few s (got ps q) e =
    pick_has Few (leb (variables_of ps) 16) _ _ (λ y. let l = (paths.right_records (paths.text_form s (got ps q) e) (is_le y)).short in omega arith) tt

read_paths_few : (s buffer : List ℕ) → Few (read_paths s buffer)
unfolding read_paths
read_paths_few s buffer = pick_has Few (leb 1024 (length buffer)) _ _ (λ y. paths_few s (text_paths s) refl) tt

module _ (s buffer : List ℕ) (r : Result ℕ Question) (h : AnswerOf (read_paths s buffer) r) where
  pub paths_bytes : FewBytes r
  paths_bytes = few_bytes (read_paths s buffer) r (read_paths_few s buffer) h

  pub translates : (after : List ℕ) → after ≡ fill_wrote (read_paths s buffer) buffer → {k : ℕ} → k ≡ answer_number r → Translates s buffer k after
  translates after w e = record {
    number = e ∙ number_is (read_paths s buffer) r h;
    wrote = w;
    promise = subst (PathsPromise s buffer (read_paths s buffer)) (sym w) (paths.read_keeps s buffer);
  }

-- ---- trees as XML

module _ (nodes buffer : List ℕ) (r : Result ℕ Question) (h : AnswerOf (write_xml nodes buffer) r) where
  pub writer_bytes : FewBytes r
  writer_bytes = few_bytes (write_xml nodes buffer) r (few_written (write_xml nodes buffer) (write_few nodes buffer)) h

  pub writes_xml : (after : List ℕ) → after ≡ fill_wrote (write_xml nodes buffer) buffer → {k : ℕ} → k ≡ answer_number r → WritesXml nodes buffer k after
  writes_xml after w e = record {
    number = e ∙ number_is (write_xml nodes buffer) r h;
    wrote = w;
    promise = subst (WriterPromise nodes buffer (write_xml nodes buffer)) (sym w) (xml.write_keeps nodes buffer);
  }

module _ (text buffer : List ℕ) (r : Result ℕ Question) (h : AnswerOf (read_xml text buffer) r) where
  pub reader_bytes : FewBytes r
  reader_bytes = few_bytes (read_xml text buffer) r (few_written (read_xml text buffer) (λ bs d. let l = read_few text buffer bs d in omega arith)) h

  pub reads_xml : (after : List ℕ) → after ≡ fill_wrote (read_xml text buffer) buffer → {k : ℕ} → k ≡ answer_number r → ReadsXml text buffer k after
  reads_xml after w e = record {
    number = e ∙ number_is (read_xml text buffer) r h;
    wrote = w;
    promise = subst (ReaderPromise text buffer (read_xml text buffer)) (sym w) (xml.read_keeps text buffer);
  }
