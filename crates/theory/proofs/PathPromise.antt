-- The computed reader keeps the promise of the path reader, and the promise leaves one answer: either no paths have the text, or those that the
-- reader finds, and their records are right by PathFile and PathMeaning.
use mathlib.Core.Path.{◌≡◌, refl, sym, ap, ◌∙◌, subst}
use mathlib.Core.Logic.{⊎_elim}
use mathlib.Core.List.{List, []}
use Prim.Native.Nat.{ℕ, ◌≤◌}
use native.Mathlib.Nat.{le_trans}
use native.Mathlib.Omega.{arith}
use lib.ListN.{length}
use lib.Dec.{leb}
use Rattle.meaning.specs.Finite.{Yes, pick}
use Rattle.meaning.specs.Paths.{Path, OfForm}
use Rattle.meaning.specs.PathRecords.{records_of, variables_of, file_bytes}
use Rattle.meaning.specs.Results.{Fill, fill_wrote}
use Rattle.meaning.specs.Promises.{RightRecords, PathsPromise}
use Rattle.theory.specs.PathReader.{lines_at, text_paths, paths_answer, answer_of, read_paths}
use Rattle.theory.specs.Reader.{Got, nothing, got, and_then}
use Rattle.theory.proofs.Filled.{Fits, kept_length}
use Rattle.theory.proofs.PathReader.{form_unique}
use Rattle.theory.proofs.PathForm.{form_read, read_form}
use Rattle.theory.proofs.PathFile.{bytes_accepted, bytes_few}
use Rattle.meaning.proofs.PathMeaning.{met_iff_selected, ends_iff}
use Rattle.meaning.proofs.Tests.{clash, yes_case, pick_yes, pick_no, pick_has, is_le, le_yes}

-- ---- a text of the form, or none

text_read : (text : List ℕ) (ps : List Path) → OfForm text ps → text_paths text ≡ got ps []
unfolding text_paths
text_read text ps f =
    pick_yes _ _ (le_yes f.short)
    ∙ ap (λ (g : Got (List Path)). and_then g λ ps r. pick (leb 1 (length ps)) (got ps r) nothing) (form_read f)
    ∙ pick_yes _ _ (le_yes f.some_line)

no_form : (text : List ℕ) → ((ps : List Path) → ¬ OfForm text ps) → text_paths text ≡ nothing
unfolding text_paths
no_form text n =
    ⊎_elim
    (λ y. pick_yes _ _ y ∙ go y (lines_at 8 text) refl)
    (λ z. pick_no _ _ (λ y. clash y z))
    (yes_case (leb (length text) 1024))
  where
    go : Yes (leb (length text) 1024) → (g : Got (List Path)) → lines_at 8 text ≡ g → ◌≡◌ {A = Got (List Path)} (and_then g λ ps r. pick (leb 1 (length ps)) (got ps r) nothing) nothing
    go y nothing e = refl
    go y (got ps r) e = pick_no _ _ (λ z. n ps (read_form text ps r e (is_le z) (is_le y)))

-- what was read is of the form
abbrev FormOf : List ℕ → Got (List Path) → Type 0
FormOf text nothing = (ps : List Path) → ¬ OfForm text ps
FormOf text (got ps r) = OfForm text ps

abbrev IsGot : Got (List Path) → Type 0
IsGot nothing = ⊥
IsGot (got ps r) = Unit {0}

-- where something was read
abbrev FormIf : List ℕ → Got (List Path) → Type 0
FormIf text nothing = Unit {0}
FormIf text (got ps r) = OfForm text ps

lines_form : (text : List ℕ) → length text ≤ 1024 → (g : Got (List Path)) → lines_at 8 text ≡ g → FormIf text (and_then g λ ps r. pick (leb 1 (length ps)) (got ps r) nothing)
lines_form text l nothing e = tt
lines_form text l (got ps r) e = pick_has (FormIf text) (leb 1 (length ps)) _ _ (λ y. read_form text ps r e (is_le y) l) tt

paths_form : (text : List ℕ) → FormIf text (text_paths text)
unfolding text_paths
paths_form text = pick_has (FormIf text) (leb (length text) 1024) _ _ (λ y. lines_form text (is_le y) (lines_at 8 text) refl) tt

pub text_form : (text : List ℕ) (g : Got (List Path)) → text_paths text ≡ g → FormOf text g
text_form text nothing e = λ ps f. subst IsGot (sym (text_read text ps f) ∙ e) tt
text_form text (got ps r) e = subst (FormIf text) e (paths_form text)

-- ---- the promise

-- few records, so they fit
fits : (text : List ℕ) (ps : List Path) → OfForm text ps → variables_of ps ≤ 16 → length (file_bytes (records_of ps)) ≤ 1024
fits text ps f h = let e = bytes_few ps f.some_line f.few_lines h in omega arith

answer_fits : (text buffer : List ℕ) → 1024 ≤ length buffer → (g : Got (List Path)) → text_paths text ≡ g → Fits buffer (answer_of g)
unfolding answer_of paths_answer
answer_fits text buffer l nothing e = tt
answer_fits text buffer l (got ps r) e =
    pick_has (Fits buffer) (leb (variables_of ps) 16) _ _ (λ y. let h = fits text ps (text_form text (got ps r) e) (is_le y) in le_trans h l) tt

read_fits : (text buffer : List ℕ) → Fits buffer (read_paths text buffer)
unfolding read_paths
read_fits text buffer = pick_has (Fits buffer) (leb 1024 (length buffer)) _ _ (λ y. answer_fits text buffer (is_le y) (text_paths text) refl) tt

-- what is written can be met exactly when some tree has a node that every line selects
pub right_records : {text : List ℕ} {ps : List Path} → OfForm text ps → variables_of ps ≤ 16 → RightRecords ps
right_records {ps = ps} f h = record { accepts = bytes_accepted ps f.few_lines h; short = bytes_few ps f.some_line f.few_lines h; met_iff = met_iff_selected ps; ends_iff = ends_iff ps }

pub read_keeps : (text buffer : List ℕ) → PathsPromise text buffer (read_paths text buffer) (fill_wrote (read_paths text buffer) buffer)
unfolding read_paths answer_of paths_answer
read_keeps text buffer = record {
  short_buffer = λ l. pick_no _ _ (λ y. let h : 1024 ≤ length buffer = is_le y in omega arith);
  no_form = λ l n. pick_yes _ _ (le_yes l) ∙ ap answer_of (no_form text n);
  too_many = λ l {ps} f h. pick_yes _ _ (le_yes l) ∙ ap answer_of (text_read text ps f) ∙ pick_no _ _ (λ y. let k : variables_of ps ≤ 16 = is_le y in omega arith);
  writes = λ l {ps} f h. (pick_yes _ _ (le_yes l) ∙ ap answer_of (text_read text ps f) ∙ pick_yes _ _ (le_yes h), right_records f h);
  only = form_unique;
  wrote = refl;
  same_length = kept_length buffer (read_paths text buffer) (read_fits text buffer);
}

-- the promise leaves one answer: that of the computed reader
module _ (text buffer : List ℕ) (r : Fill) (after : List ℕ) (p : PathsPromise text buffer r after) where
  read_at : 1024 ≤ length buffer → (g : Got (List Path)) → text_paths text ≡ g → r ≡ answer_of g
  unfolding answer_of paths_answer
  read_at l nothing e = p.no_form l (text_form text nothing e)
  read_at l (got ps q) e =
      let f = text_form text (got ps q) e in
      ⊎_elim (λ y. (p.writes l f (is_le y)).0 ∙ sym (pick_yes _ _ y))
      (λ z. let n : ¬ (variables_of ps ≤ 16) = λ h. clash (le_yes h) z in p.too_many l f (omega arith) ∙ sym (pick_no _ _ (λ y. clash y z)))
      (yes_case (leb (variables_of ps) 16))

  pub answer_unique : r ≡ read_paths text buffer
  unfolding read_paths
  answer_unique =
      ⊎_elim (λ y. read_at (is_le y) (text_paths text) refl ∙ sym (pick_yes _ _ y))
      (λ z. let n : ¬ (1024 ≤ length buffer) = λ h. clash (le_yes h) z in p.short_buffer (omega arith) ∙ sym (pick_no _ _ (λ y. clash y z)))
      (yes_case (leb 1024 (length buffer)))

  pub buffer_unique : after ≡ fill_wrote (read_paths text buffer) buffer
  buffer_unique = p.wrote ∙ ap (λ (k : Fill). fill_wrote k buffer) answer_unique
