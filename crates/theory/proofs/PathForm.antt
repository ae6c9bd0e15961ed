-- What the path reader has read has that text: by induction on the fuel, each part that is taken away is the text of what is answered. So the
-- reader decides whether a text is of the form, and which paths it holds.
use mathlib.Core.Path.{◌≡◌, refl, sym, ap, ◌∙◌, subst}
use mathlib.Core.Bool.{Bool, true, false}
use mathlib.Core.List.{List, [], ◌∷◌, ◌++◌}
use Prim.Native.Nat.{ℕ, zero, suc, ◌≤◌, ◌<◌, zero-le, suc-le-suc}
use native.Mathlib.Omega.{arith}
use lib.ListN.{length, drop}
use lib.Dec.{eqb}
use Rattle.meaning.specs.Finite.{Yes, pick}
use Rattle.meaning.specs.Paths.{Axis, to_self, to_child, to_parent, to_descendant, to_ancestor, to_descendant_or_self, to_ancestor_or_self, to_following_sibling, to_preceding_sibling, is_small, is_letter, Test, Path, Step, having, axis_text, test_byte, path_text, steps_text, step_text, lines_text, OfForm}
use Rattle.theory.specs.PathReader.{after_name, axis_at, test_by, test_at, move_at, path_at, steps_at, step_at, brackets_at, fuel, lines_at}
use Rattle.theory.specs.Reader.{Got, nothing, got, and_then, byte, front}
use Rattle.meaning.proofs.PathSheets.{letter_range}
use Rattle.theory.proofs.PathReader.{move_text, having_text, more_text, lines_read}
use Rattle.meaning.proofs.Tests.{pick_has, is_eq}
use Rattle.theory.proofs.Reader.{front_is, no_bytes}

-- what was read, and the bytes after it, are the bytes
abbrev pub Reads : {A : Type 0} → (A → List ℕ) → List ℕ → Got A → Type 0
Reads text bs nothing = Unit {0}
Reads text bs (got a r) = bs ≡ text a ++ r

then_reads : {A B : Type 0} (ta : A → List ℕ) (tb : B → List ℕ) (bs cs : List ℕ) (g : Got A) (f : A → List ℕ → Got B)
    → Reads ta bs g → ((a : A) (r : List ℕ) → bs ≡ ta a ++ r → Reads tb cs (f a r)) → Reads tb cs (and_then g f)
then_reads ta tb bs cs nothing f h k = tt
then_reads ta tb bs cs (got a r) f h k = k a r h

-- a first byte that is not 0 is there
pub first : (bs : List ℕ) (b : ℕ) → 0 < b → byte bs ≡ b → bs ≡ b ∷ drop 1 bs
first [] b l e = absurd (let h : 0 ≡ b = e in omega arith)
first (a ∷ bs) b l e = ap (λ (k : ℕ). k ∷ bs) e

name_reads : (a : Axis) (bs : List ℕ) (g : Got Axis) → Reads axis_text bs g → Reads axis_text bs (after_name a bs g)
unfolding after_name
name_reads a bs g h = pick_has (Reads axis_text bs) _ _ _ (λ y. front_is bs (axis_text a) y) h

axis_reads : (bs : List ℕ) → Reads axis_text bs (axis_at bs)
unfolding axis_at
axis_reads bs =
    name_reads to_descendant_or_self bs _
    (name_reads to_following_sibling bs _
    (name_reads to_preceding_sibling bs _
    (name_reads to_ancestor_or_self bs _
    (name_reads to_descendant bs _ (name_reads to_ancestor bs _ (name_reads to_parent bs _ (name_reads to_child bs _ (name_reads to_self bs nothing tt))))))))

abbrev test_text : Test → List ℕ
test_text t = test_byte t ∷ []

test_by_lem : (bs : List ℕ) (v : Bool) (e : is_letter (byte bs) ≡ v) → Reads test_text bs (test_by (byte bs) v e (drop 1 bs))
unfolding test_by test_byte
test_by_lem bs true e = let h = (letter_range (byte bs) e).0 in first bs (byte bs) (omega arith) refl
test_by_lem bs false e = pick_has (Reads test_text bs) _ _ _ (λ y. let h : byte bs ≡ 42 = is_eq y in first bs 42 (omega arith) h) tt

test_reads : (bs : List ℕ) → Reads test_text bs (test_at bs)
unfolding test_at
test_reads bs = test_by_lem bs (is_letter (byte bs)) refl

move_reads : (bs : List ℕ) → Reads step_text bs (move_at bs)
unfolding move_at
move_reads bs =
    then_reads axis_text step_text bs bs (axis_at bs) _ (axis_reads bs) λ a r e.
    pick_has (Reads step_text bs) (front r (58 ∷ 58 ∷ [])) _ _
    (λ y. then_reads test_text step_text (drop 2 r) bs (test_at (drop 2 r)) _ (test_reads (drop 2 r)) λ t q d.
    e ∙ ap (λ (k : List ℕ). axis_text a ++ k) (front_is r (58 ∷ 58 ∷ []) y ∙ ap (λ (k : List ℕ). 58 ∷ 58 ∷ k) d) ∙ sym (move_text a t q))
    tt

slash : (bs : List ℕ) → Yes (eqb (byte bs) 47) → bs ≡ 47 ∷ drop 1 bs
slash bs y = let h : byte bs ≡ 47 = is_eq y in first bs 47 (omega arith) h

mutual
  unfolding path_at path_text

  pub path_reads : (k : ℕ) (bs : List ℕ) → Reads path_text bs (path_at k bs)
  path_reads zero bs = tt
  path_reads (suc k) bs =
      pick_has (Reads path_text bs) (eqb (byte bs) 47) _ _
      (λ y. pick_has (Reads path_text bs) (is_small (byte (drop 1 bs))) _ _
      (λ z. then_reads steps_text path_text (drop 1 bs) bs (steps_at k (drop 1 bs)) _ (steps_reads k (drop 1 bs)) λ ss r e. slash bs y ∙ ap (λ (q : List ℕ). 47 ∷ q) e)
      (slash bs y))
      (then_reads steps_text path_text bs bs (steps_at k bs) _ (steps_reads k bs) λ ss r e. e)

  steps_reads : (k : ℕ) (bs : List ℕ) → Reads steps_text bs (steps_at k bs)
  steps_reads zero bs = tt
  steps_reads (suc k) bs =
      then_reads step_text steps_text bs bs (step_at k bs) _ (step_reads k bs) λ s r e.
      pick_has (Reads steps_text bs) (eqb (byte r) 47) _ _
      (λ y. then_reads steps_text steps_text (drop 1 r) bs (steps_at k (drop 1 r)) _ (steps_reads k (drop 1 r)) λ ss q d.
      e ∙ ap (λ (c : List ℕ). step_text s ++ c) (slash r y ∙ ap (λ (c : List ℕ). 47 ∷ c) d) ∙ sym (more_text s ss q))
      e

  step_reads : (k : ℕ) (bs : List ℕ) → Reads step_text bs (step_at k bs)
  step_reads zero bs = tt
  step_reads (suc k) bs = then_reads step_text step_text bs bs (move_at bs) _ (move_reads bs) λ s r e. brackets_reads k bs s r e

  brackets_reads : (k : ℕ) (all : List ℕ) (s : Step) (bs : List ℕ) → all ≡ step_text s ++ bs → Reads step_text all (brackets_at k s bs)
  brackets_reads zero all s bs e = tt
  brackets_reads (suc k) all s bs e =
      pick_has (Reads step_text all) (eqb (byte bs) 91) _ _
      (λ y. then_reads path_text step_text (drop 1 bs) all (path_at k (drop 1 bs)) _ (path_reads k (drop 1 bs)) λ p r d.
      pick_has (Reads step_text all) (eqb (byte r) 93) _ _
      (λ z. brackets_reads k all (having s p) (drop 1 r)
      (let h : byte bs ≡ 91 = is_eq y in
      let g : byte r ≡ 93 = is_eq z in
      e ∙ ap (λ (c : List ℕ). step_text s ++ c) (first bs 91 (omega arith) h ∙ ap (λ (c : List ℕ). 91 ∷ c) (d ∙ ap (λ (c : List ℕ). path_text p ++ c) (first r 93 (omega arith) g)))
      ∙ sym (having_text s p (drop 1 r))))
      tt)
      e

-- the lines that were read are all the bytes, and no more than allowed
abbrev pub LinesReads : ℕ → List ℕ → Got (List Path) → Type 0
LinesReads n bs nothing = Unit {0}
LinesReads n bs (got ps r) = (bs ≡ lines_text ps) × (length ps ≤ n) × (r ≡ [])

line_reads : (n : ℕ) (bs r : List ℕ) (p : Path) (g : Got (List Path)) → bs ≡ path_text p ++ (10 ∷ r) → LinesReads n r g → LinesReads (suc n) bs (and_then g λ ps q. got (p ∷ ps) q)
unfolding lines_text
line_reads n bs r p nothing e h = tt
line_reads n bs r p (got ps q) e h = (e ∙ ap (λ (c : List ℕ). path_text p ++ (10 ∷ c)) h.0, suc-le-suc h.1, h.2)

path_line : (n : ℕ) (bs : List ℕ) (g : Got Path) → Reads path_text bs g → ((r : List ℕ) → LinesReads n r (lines_at n r))
    → LinesReads (suc n) bs (and_then g λ p r. pick (eqb (byte r) 10) (and_then (lines_at n (drop 1 r)) λ ps q. got (p ∷ ps) q) nothing)
path_line n bs nothing e f = tt
path_line n bs (got p r) e f =
    pick_has (LinesReads (suc n) bs) (eqb (byte r) 10) _ _
    (λ y. let h : byte r ≡ 10 = is_eq y in
    line_reads n bs (drop 1 r) p (lines_at n (drop 1 r)) (e ∙ ap (λ (c : List ℕ). path_text p ++ c) (first r 10 (omega arith) h)) (f (drop 1 r)))
    tt

pub lines_reads : (n : ℕ) (bs : List ℕ) → LinesReads n bs (lines_at n bs)
unfolding lines_at lines_text
lines_reads zero bs = pick_has (LinesReads 0 bs) (eqb (length bs) 0) _ _ (λ y. (no_bytes bs y, zero-le, refl)) tt
lines_reads (suc n) bs =
    pick_has (LinesReads (suc n) bs) (eqb (length bs) 0) _ _ (λ y. (no_bytes bs y, zero-le, refl))
    (path_line n bs (path_at (fuel bs) bs) (path_reads (fuel bs) bs) (λ r. lines_reads n r))

-- ---- the reader decides the form

pub form_read : {text : List ℕ} {ps : List Path} → OfForm text ps → lines_at 8 text ≡ got ps []
form_read {ps = ps} f = ap (lines_at 8) f.is ∙ lines_read ps 8 f.few_lines

pub read_form : (text : List ℕ) (ps : List Path) (r : List ℕ) → lines_at 8 text ≡ got ps r → 1 ≤ length ps → length text ≤ 1024 → OfForm text ps
read_form text ps r e l s = let h = subst (LinesReads 8 text) e (lines_reads 8 text) in record { is = h.0; some_line = l; few_lines = h.1; short = s }
