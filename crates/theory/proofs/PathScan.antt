-- Looking ahead over the brackets of a step finds whether the reader goes on with another step after it. It counts brackets alone: the text of a
-- path in brackets opens as many as it closes, and neither names nor tests hold one.
use mathlib.Core.Path.{◌≡◌, refl, ap, ◌∙◌, subst}
use mathlib.Core.Bool.{Bool, true, false≢true}
use mathlib.Core.List.{List, [], ◌∷◌, ◌++◌}
use Prim.Native.Nat.{ℕ, zero, suc}
use native.Mathlib.Omega.{arith}
use lib.ListN.{drop}
use lib.Dec.{eqb}
use Rattle.meaning.specs.Tree.{is_capital}
use Rattle.meaning.specs.Finite.{Yes, pick, ◌and◌, ◌or◌, neg}
use Rattle.meaning.specs.Ascii.{ascii}
use Rattle.meaning.specs.Paths.{Axis, to_self, to_child, to_parent, to_descendant, to_ancestor, to_descendant_or_self, to_ancestor_or_self, to_following_sibling, to_preceding_sibling, is_small, is_letter, Test, letter, any, Path, alone, from_root, from_here, Steps, one, more, Step, move, having, axis_text, test_byte, path_text, steps_text, step_text}
use Rattle.theory.specs.PathReader.{path_at, brackets_at, goes_on}
use Rattle.theory.specs.Reader.{Got, nothing, got, and_then, byte}
use Rattle.theory.proofs.PathReader.{move_text, having_text, more_text}
use Rattle.theory.proofs.PathForm.{Reads, first, path_reads}
use Rattle.meaning.proofs.Tests.{clash, and_left, and_right, and_both, no_neg, pick_no, pick_either, pick_has, is_eq, eq_yes}

-- ---- one byte

-- any other byte between brackets is passed over
pub goes_on_past : (b d : ℕ) (r : List ℕ) → ¬ (b ≡ 91) → ¬ (b ≡ 93) → goes_on (suc d) (b ∷ r) ≡ goes_on (suc d) r
unfolding goes_on
goes_on_past b d r no-open no-close = pick_no _ _ (λ y. no-open (is_eq y)) ∙ pick_no _ _ (λ y. no-close (is_eq y))

pub bracket_opens : (d : ℕ) (r : List ℕ) → goes_on d (91 ∷ r) ≡ goes_on (suc d) r
unfolding goes_on pick
bracket_opens zero r = refl
bracket_opens (suc d) r = refl

pub bracket_closes : (d : ℕ) (r : List ℕ) → goes_on (suc d) (93 ∷ r) ≡ goes_on d r
unfolding goes_on pick
bracket_closes d r = refl

-- outside brackets the first byte decides
pub goes_on_here : (bs : List ℕ) → ¬ Yes (eqb (byte bs) 91) → goes_on 0 bs ≡ eqb (byte bs) 47
unfolding goes_on
goes_on_here [] no-open = refl
goes_on_here (b ∷ bs) no-open = pick_no _ _ no-open

-- ---- the text of a path leaves the count of open brackets as it is

-- no byte of these is a bracket
abbrev no_bracket : List ℕ → Bool
no_bracket [] = true
no_bracket (b ∷ bs) = neg (eqb b 91) and (neg (eqb b 93) and no_bracket bs)

goes_on_plain : (w : List ℕ) → Yes (no_bracket w) → (d : ℕ) (r : List ℕ) → goes_on (suc d) (w ++ r) ≡ goes_on (suc d) r
goes_on_plain [] h d r = refl
goes_on_plain (b ∷ w) h d r =
    goes_on_past b d (w ++ r) (λ e. clash (eq_yes e) (and_left _ h)) (λ e. clash (eq_yes e) (and_left _ (and_right _ h)))
    ∙ goes_on_plain w (and_right _ (and_right _ h)) d r

axis_plain : (a : Axis) → Yes (no_bracket (axis_text a))
unfolding axis_text ascii neg ◌and◌
axis_plain to_self = refl
axis_plain to_child = refl
axis_plain to_parent = refl
axis_plain to_descendant = refl
axis_plain to_ancestor = refl
axis_plain to_descendant_or_self = refl
axis_plain to_ancestor_or_self = refl
axis_plain to_following_sibling = refl
axis_plain to_preceding_sibling = refl

letter_as : (b c : ℕ) → Yes (is_letter b) → Yes (eqb b c) → Yes (is_letter c)
letter_as b c l y = subst (λ (k : ℕ). Yes (is_letter k)) (is_eq y) l

test_plain : (t : Test) → Yes (no_bracket (58 ∷ 58 ∷ test_byte t ∷ []))
unfolding test_byte neg ◌and◌ is_letter is_small is_capital ◌or◌
test_plain (letter b l) =
    and_both (no_neg (λ y. false≢true (letter_as b 91 l y))) (and_both (no_neg (λ y. false≢true (letter_as b 93 l y))) refl)
test_plain any = refl

slash_plain : Yes (no_bracket (47 ∷ []))
unfolding neg ◌and◌
slash_plain = refl

mutual
  unfolding path_text steps_text

  pub goes_on_path : (p : Path) (d : ℕ) (r : List ℕ) → goes_on (suc d) (path_text p ++ r) ≡ goes_on (suc d) r
  goes_on_path alone d r = goes_on_plain (47 ∷ []) slash_plain d r
  goes_on_path (from_root ss) d r = goes_on_plain (47 ∷ []) slash_plain d (steps_text ss ++ r) ∙ goes_on_steps ss d r
  goes_on_path (from_here ss) d r = goes_on_steps ss d r

  goes_on_steps : (ss : Steps) (d : ℕ) (r : List ℕ) → goes_on (suc d) (steps_text ss ++ r) ≡ goes_on (suc d) r
  goes_on_steps (one s) d r = goes_on_step s d r
  goes_on_steps (more s ss) d r =
      ap (goes_on (suc d)) (more_text s ss r)
      ∙ goes_on_step s d (47 ∷ (steps_text ss ++ r))
      ∙ goes_on_plain (47 ∷ []) slash_plain d (steps_text ss ++ r)
      ∙ goes_on_steps ss d r

  goes_on_step : (s : Step) (d : ℕ) (r : List ℕ) → goes_on (suc d) (step_text s ++ r) ≡ goes_on (suc d) r
  goes_on_step (move a t) d r = ap (goes_on (suc d)) (move_text a t r) ∙ goes_on_plain (axis_text a) (axis_plain a) d _ ∙ goes_on_plain (58 ∷ 58 ∷ test_byte t ∷ []) (test_plain t) d r
  goes_on_step (having s p) d r =
      ap (goes_on (suc d)) (having_text s p r)
      ∙ goes_on_step s d (91 ∷ (path_text p ++ (93 ∷ r)))
      ∙ bracket_opens (suc d) (path_text p ++ (93 ∷ r))
      ∙ goes_on_path p (suc d) (93 ∷ r)
      ∙ bracket_closes (suc d) r

-- ---- what is seen ahead is what the reader meets

-- `/` is the first byte after what was read
abbrev SeenAhead : List ℕ → Got Step → Type 0
SeenAhead bs nothing = Unit {0}
SeenAhead bs (got s rest) = goes_on 0 bs ≡ eqb (byte rest) 47

-- brackets with a path in them, then what the reader finds behind them
seen_bracket : (bs : List ℕ) (p : Path) (r : List ℕ) (g : Got Step)
    → byte bs ≡ 91 → drop 1 bs ≡ path_text p ++ r → byte r ≡ 93 → SeenAhead (drop 1 r) g → SeenAhead bs g
seen_bracket bs p r nothing opens reads closes h = tt
seen_bracket bs p r (got s rest) opens reads closes h =
    ap (goes_on 0) (first bs 91 (omega arith) opens)
    ∙ bracket_opens 0 (drop 1 bs)
    ∙ ap (goes_on 1) reads
    ∙ goes_on_path p 0 r
    ∙ ap (goes_on 1) (first r 93 (omega arith) closes)
    ∙ bracket_closes 0 (drop 1 r)
    ∙ h

seen_path : (k : ℕ) (s : Step) (bs : List ℕ) (g : Got Path) → byte bs ≡ 91 → Reads path_text (drop 1 bs) g → ((m : Step) (r : List ℕ) → SeenAhead r (brackets_at k m r))
    → SeenAhead bs (and_then g λ p r. pick (eqb (byte r) 93) (brackets_at k (having s p) (drop 1 r)) nothing)
seen_path k s bs nothing opens reads later = tt
seen_path k s bs (got p r) opens reads later =
    pick_has (SeenAhead bs) (eqb (byte r) 93) _ _
    (λ z. seen_bracket bs p r (brackets_at k (having s p) (drop 1 r)) opens reads (is_eq z) (later (having s p) (drop 1 r)))
    tt

seen_brackets : (k : ℕ) (s : Step) (bs : List ℕ) → SeenAhead bs (brackets_at k s bs)
unfolding brackets_at
seen_brackets zero s bs = tt
seen_brackets (suc k) s bs =
    pick_either (SeenAhead bs) (eqb (byte bs) 91) _ _
    (λ y. seen_path k s bs (path_at k (drop 1 bs)) (is_eq y) (path_reads k (drop 1 bs)) (seen_brackets k))
    (goes_on_here bs)

pub goes_on_brackets : (k : ℕ) (m q : Step) (bs rest : List ℕ) → brackets_at k m bs ≡ got q rest → goes_on 0 bs ≡ eqb (byte rest) 47
goes_on_brackets k m q bs rest e = subst (SeenAhead bs) e (seen_brackets k m bs)
