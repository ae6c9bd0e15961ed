-- The path reader reads every text of the form, if it has fuel enough: by induction on the path, since what stands behind a path, ] or the end of a
-- line, begins no more of it. So no two lists of lines have one text.
use mathlib.Core.Path.{◌≡◌, refl, sym, ap, ◌∙◌, subst}
use mathlib.Core.Logic.{◌⊎◌, inl, inr}
use mathlib.Core.Bool.{Bool, true, false, Bool-set, false≢true}
use mathlib.Core.List.{List, [], ◌∷◌, ◌++◌, append_assoc}
use Prim.Native.Nat.{ℕ, zero, suc, ◌+◌, ◌*◌, ◌≤◌, ◌<◌}
use native.Mathlib.Nat.{not-suc-le-zero, le_of_suc-le-suc}
use native.Mathlib.Omega.{arith}
use lib.ListN.{length, drop, length-append}
use lib.Dec.{eqb}
use Rattle.meaning.specs.Tree.{is_capital}
use Rattle.meaning.specs.Finite.{Yes, pick, ◌and◌, ◌or◌}
use Rattle.meaning.specs.Ascii.{ascii}
use Rattle.meaning.specs.Paths.{Axis, to_self, to_child, to_parent, to_descendant, to_ancestor, to_descendant_or_self, to_ancestor_or_self, to_following_sibling, to_preceding_sibling, is_small, is_letter, Test, letter, any, Path, alone, from_root, from_here, Steps, one, more, Step, move, having, axis_text, test_byte, path_text, steps_text, step_text, lines_text, OfForm}
use Rattle.theory.specs.PathReader.{after_name, axis_at, test_by, test_at, move_at, path_at, steps_at, step_at, brackets_at, fuel, lines_at}
use Rattle.theory.specs.Reader.{Got, nothing, got, and_then, byte, front}
use Rattle.meaning.proofs.PathSheets.{small_range}
use Rattle.meaning.proofs.Tests.{pick_yes, pick_no, is_eq}

-- ---- an axis, :: and a test

axis_read : (a : Axis) (r : List ℕ) → axis_at (axis_text a ++ 58 ∷ r) ≡ got a (58 ∷ r)
unfolding axis_at after_name front axis_text ascii pick ◌and◌
axis_read to_self r = refl
axis_read to_child r = refl
axis_read to_parent r = refl
axis_read to_descendant r = refl
axis_read to_ancestor r = refl
axis_read to_descendant_or_self r = refl
axis_read to_ancestor_or_self r = refl
axis_read to_following_sibling r = refl
axis_read to_preceding_sibling r = refl

test_by_letter : (b : ℕ) (v : Bool) (e : is_letter b ≡ v) (l : Yes (is_letter b)) (r : List ℕ) → test_by b v e r ≡ got (letter b l) r
unfolding test_by
test_by_letter b true e l r = ap (λ (k : Yes (is_letter b)). got (letter b k) r) (Bool-set (is_letter b) true e l)
test_by_letter b false e l r = absurd (false≢true (sym e ∙ l))

test_read : (t : Test) (r : List ℕ) → test_at (test_byte t ∷ r) ≡ got t r
unfolding test_at test_byte
test_read (letter b l) r = test_by_letter b (is_letter b) refl l r
test_read any r = unfold test_by is_letter is_small is_capital pick ◌and◌ ◌or◌ in refl

move_read : (a : Axis) (t : Test) (r : List ℕ) → move_at (axis_text a ++ 58 ∷ 58 ∷ test_byte t ∷ r) ≡ got (move a t) r
unfolding move_at
move_read a t r =
    ap (λ (g : Got Axis). and_then g λ a r. pick (front r (58 ∷ 58 ∷ [])) (and_then (test_at (drop 2 r)) λ t q. got (move a t) q) nothing) (axis_read a (58 ∷ test_byte t ∷ r))
    ∙ pick_yes _ _ (unfold front ◌and◌ in refl)
    ∙ ap (λ (g : Got Test). and_then g λ t q. got (move a t) q) (test_read t r)

-- ---- steps begin with a small letter

axis_first : (a : Axis) (r : List ℕ) → Yes (is_small (byte (axis_text a ++ r)))
unfolding axis_text ascii is_small ◌and◌
axis_first to_self r = refl
axis_first to_child r = refl
axis_first to_parent r = refl
axis_first to_descendant r = refl
axis_first to_ancestor r = refl
axis_first to_descendant_or_self r = refl
axis_first to_ancestor_or_self r = refl
axis_first to_following_sibling r = refl
axis_first to_preceding_sibling r = refl

pub move_text : (a : Axis) (t : Test) (r : List ℕ) → step_text (move a t) ++ r ≡ axis_text a ++ (58 ∷ 58 ∷ test_byte t ∷ r)
unfolding step_text
move_text a t r = append_assoc (axis_text a) _ r

pub having_text : (s : Step) (p : Path) (r : List ℕ) → step_text (having s p) ++ r ≡ step_text s ++ (91 ∷ (path_text p ++ (93 ∷ r)))
unfolding step_text
having_text s p r = append_assoc (step_text s) (91 ∷ path_text p ++ (93 ∷ [])) r ∙ ap (λ (q : List ℕ). step_text s ++ (91 ∷ q)) (append_assoc (path_text p) (93 ∷ []) r)

pub more_text : (s : Step) (ss : Steps) (r : List ℕ) → steps_text (more s ss) ++ r ≡ step_text s ++ (47 ∷ (steps_text ss ++ r))
unfolding steps_text
more_text s ss r = append_assoc (step_text s) _ r

step_first : (s : Step) (r : List ℕ) → Yes (is_small (byte (step_text s ++ r)))
step_first (move a t) r = subst (λ (q : List ℕ). Yes (is_small (byte q))) (sym (move_text a t r)) (axis_first a _)
step_first (having s p) r = subst (λ (q : List ℕ). Yes (is_small (byte q))) (sym (having_text s p r)) (step_first s _)

steps_first : (ss : Steps) (r : List ℕ) → Yes (is_small (byte (steps_text ss ++ r)))
unfolding steps_text
steps_first (one s) r = step_first s r
steps_first (more s ss) r = subst (λ (q : List ℕ). Yes (is_small (byte q))) (sym (more_text s ss r)) (step_first s _)

-- ---- every path is read

-- what may follow a path: ] or the end of a line
abbrev pub Stops : List ℕ → Type 0
Stops r = (byte r ≡ 93) ⊎ (byte r ≡ 10)

not_byte : (r : List ℕ) (b : ℕ) → ¬ (93 ≡ b) → ¬ (10 ≡ b) → Stops r → ¬ Yes (eqb (byte r) b)
not_byte r b n m (inl e) y = n (sym e ∙ is_eq y)
not_byte r b n m (inr e) y = m (sym e ∙ is_eq y)

not_slash : (r : List ℕ) → Stops r → ¬ Yes (eqb (byte r) 47)
not_slash r = not_byte r 47 (λ e. omega arith) (λ e. omega arith)

not_open : (r : List ℕ) → Stops r → ¬ Yes (eqb (byte r) 91)
not_open r = not_byte r 91 (λ e. omega arith) (λ e. omega arith)

not_small : (r : List ℕ) → Stops r → ¬ Yes (is_small (byte r))
unfolding is_small ◌and◌
not_small r (inl e) y = false≢true (subst (λ (b : ℕ). Yes (is_small b)) e y)
not_small r (inr e) y = false≢true (subst (λ (b : ℕ). Yes (is_small b)) e y)

-- a small letter is not /
small_not_slash : (b : ℕ) → Yes (is_small b) → ¬ Yes (eqb b 47)
small_not_slash b l y = let h = (small_range b l).0 in let e : b ≡ 47 = is_eq y in omega arith

-- no bracket follows
brackets_none : (s : Step) (r : List ℕ) → ¬ Yes (eqb (byte r) 91) → (k : ℕ) → 4 * length r < k → brackets_at k s r ≡ got s r
unfolding brackets_at
brackets_none s r n zero l = absurd (omega arith)
brackets_none s r n (suc k) l = pick_no _ _ n

-- one bracket more
brackets_one : (s : Step) (p : Path) (r : List ℕ) (q : Got Step) (k : ℕ) → path_at k (path_text p ++ (93 ∷ r)) ≡ got p (93 ∷ r) → brackets_at k (having s p) r ≡ q
    → brackets_at (suc k) s (91 ∷ (path_text p ++ (93 ∷ r))) ≡ q
unfolding brackets_at pick
brackets_one s p r q k e h =
    ap (λ (g : Got Path). and_then g λ p r. pick (eqb (byte r) 93) (brackets_at k (having s p) (drop 1 r)) nothing) e ∙ h

step_move : (a : Axis) (t : Test) (r : List ℕ) (k : ℕ) → step_at (suc k) (step_text (move a t) ++ r) ≡ brackets_at k (move a t) r
unfolding step_at
step_move a t r k =
    ap (λ (bs : List ℕ). and_then (move_at bs) λ s r. brackets_at k s r) (move_text a t r)
    ∙ ap (λ (g : Got Step). and_then g λ s r. brackets_at k s r) (move_read a t r)

steps_one : (s : Step) (r : List ℕ) (k : ℕ) → Stops r → step_at k (step_text s ++ r) ≡ got s r → steps_at (suc k) (step_text s ++ r) ≡ got (one s) r
unfolding steps_at
steps_one s r k h e =
    ap (λ (g : Got Step). and_then g λ s r. pick (eqb (byte r) 47) (and_then (steps_at k (drop 1 r)) λ ss q. got (more s ss) q) (got (one s) r)) e
    ∙ pick_no _ _ (not_slash r h)

steps_more : (s : Step) (ss : Steps) (r q : List ℕ) (k : ℕ) → step_at k (step_text s ++ (47 ∷ q)) ≡ got s (47 ∷ q) → steps_at k q ≡ got ss r → steps_at (suc k) (step_text s ++ (47 ∷ q)) ≡ got (more s ss) r
unfolding steps_at pick
steps_more s ss r q k e d =
    ap (λ (g : Got Step). and_then g λ s r. pick (eqb (byte r) 47) (and_then (steps_at k (drop 1 r)) λ ss q. got (more s ss) q) (got (one s) r)) e
    ∙ ap (λ (g : Got Steps). and_then g λ ss q. got (more s ss) q) d

path_alone : (r : List ℕ) (k : ℕ) → Stops r → path_at (suc k) (47 ∷ r) ≡ got alone r
unfolding path_at
path_alone r k h = pick_yes _ _ refl ∙ pick_no _ _ (not_small r h)

path_root : (ss : Steps) (r q : List ℕ) (k : ℕ) → Yes (is_small (byte q)) → steps_at k q ≡ got ss r → path_at (suc k) (47 ∷ q) ≡ got (from_root ss) r
unfolding path_at
path_root ss r q k l e = pick_yes _ _ refl ∙ pick_yes _ _ l ∙ ap (λ (g : Got Steps). and_then g λ ss r. got (from_root ss) r) e

path_here : (ss : Steps) (r q : List ℕ) (k : ℕ) → Yes (is_small (byte q)) → steps_at k q ≡ got ss r → path_at (suc k) q ≡ got (from_here ss) r
unfolding path_at
path_here ss r q k l e = pick_no _ _ (small_not_slash (byte q) l) ∙ ap (λ (g : Got Steps). and_then g λ ss r. got (from_here ss) r) e

length_step : (s : Step) (r : List ℕ) → length r < length (step_text s ++ r)
length_step (move a t) r =
    let e = ap length (move_text a t r) in
    let d = length-append (axis_text a) (58 ∷ 58 ∷ test_byte t ∷ r) in
    omega arith
length_step (having s p) r =
    let e = ap length (having_text s p r) in
    let d = length_step s (91 ∷ (path_text p ++ (93 ∷ r))) in
    let b = length-append (path_text p) (93 ∷ r) in
    omega arith

bracketed : (s : Step) (p : Path) (r : List ℕ) (q : Got Step)
    → ((k : ℕ) → 4 * length (path_text p ++ (93 ∷ r)) + 3 < k → path_at k (path_text p ++ (93 ∷ r)) ≡ got p (93 ∷ r))
    → ((k : ℕ) → 4 * length r < k → brackets_at k (having s p) r ≡ q)
    → (k : ℕ) → 4 * length {A = ℕ} (91 ∷ (path_text p ++ (93 ∷ r))) < k → brackets_at k s (91 ∷ (path_text p ++ (93 ∷ r))) ≡ q
bracketed s p r q f h zero l = absurd (not-suc-le-zero l)
bracketed s p r q f h (suc k) l = let b = length-append (path_text p) (93 ∷ r) in brackets_one s p r q k (f k (omega arith)) (h k (omega arith))

-- what the reader of a step finds is what the reader of brackets finds after it
mutual
  unfolding path_text

  pub path_read : (p : Path) (r : List ℕ) → Stops r → (k : ℕ) → 4 * length (path_text p ++ r) + 3 < k → path_at k (path_text p ++ r) ≡ got p r
  path_read alone r h zero l = absurd (not-suc-le-zero l)
  path_read alone r h (suc k) l = path_alone r k h
  path_read (from_root ss) r h zero l = absurd (not-suc-le-zero l)
  path_read (from_root ss) r h (suc k) l = path_root ss r (steps_text ss ++ r) k (steps_first ss r) (steps_read ss r h k (omega arith))
  path_read (from_here ss) r h zero l = absurd (not-suc-le-zero l)
  path_read (from_here ss) r h (suc k) l = path_here ss r (steps_text ss ++ r) k (steps_first ss r) (steps_read ss r h k (omega arith))

  steps_read : (ss : Steps) (r : List ℕ) → Stops r → (k : ℕ) → 4 * length (steps_text ss ++ r) + 2 < k → steps_at k (steps_text ss ++ r) ≡ got ss r
  steps_read (one s) r h zero l = absurd (not-suc-le-zero l)
  steps_read (one s) r h (suc k) l = steps_one s r k h (step_read s r (got s r) (brackets_none s r (not_open r h)) k (omega arith))
  steps_read (more s ss) r h zero l = absurd (not-suc-le-zero l)
  steps_read (more s ss) r h (suc k) l =
      let q = steps_text ss ++ r in
      let e = ap length (more_text s ss r) in
      let d = length_step s (47 ∷ q) in
      ap (steps_at (suc k)) (more_text s ss r)
      ∙ steps_more s ss r q k
      (step_read s (47 ∷ q) (got s (47 ∷ q)) (brackets_none s (47 ∷ q) (λ y. absurd (false≢true y))) k (omega arith))
      (steps_read ss r h k (omega arith))

  step_read : (s : Step) (r : List ℕ) (q : Got Step) → ((k : ℕ) → 4 * length r < k → brackets_at k s r ≡ q) → (k : ℕ) → 4 * length (step_text s ++ r) + 1 < k → step_at k (step_text s ++ r) ≡ q
  step_read (move a t) r q h zero l = absurd (not-suc-le-zero l)
  step_read (move a t) r q h (suc k) l = let d = length_step (move a t) r in step_move a t r k ∙ h k (omega arith)
  step_read (having s p) r q h k l =
      let e = ap length (having_text s p r) in
      ap (step_at k) (having_text s p r)
      ∙ step_read s (91 ∷ (path_text p ++ (93 ∷ r))) q (bracketed s p r q (λ j m. path_read p (93 ∷ r) (inl refl) j m) h) k (omega arith)

-- ---- no two have one text

abbrev read : {A : Type 0} → A → Got A → A
read z nothing = z
read z (got a r) = a

line_read : (p : Path) (ps : List Path) (n : ℕ) → lines_at n (lines_text ps) ≡ got ps [] → lines_at (suc n) (path_text p ++ (10 ∷ lines_text ps)) ≡ got (p ∷ ps) []
unfolding lines_at pick fuel
line_read p ps n e =
    let r : List ℕ = 10 ∷ lines_text ps in
    let bs = path_text p ++ r in
    pick_no _ _ (λ y. let d : length bs ≡ 0 = is_eq y in let b = length-append (path_text p) r in omega arith)
    ∙ ap (λ (g : Got Path). and_then g λ p r. pick (eqb (byte r) 10) (and_then (lines_at n (drop 1 r)) λ ps q. got (p ∷ ps) q) nothing)
    (path_read p r (inr refl) (4 * length bs + 4) (omega arith))
    ∙ ap (λ (g : Got (List Path)). and_then g λ ps q. got (p ∷ ps) q) e

pub lines_read : (ps : List Path) (n : ℕ) → length ps ≤ n → lines_at n (lines_text ps) ≡ got ps []
unfolding lines_text
lines_read [] zero l = unfold lines_at pick in refl
lines_read [] (suc n) l = unfold lines_at pick in refl
lines_read (p ∷ ps) zero l = absurd (not-suc-le-zero l)
lines_read (p ∷ ps) (suc n) l = line_read p ps n (lines_read ps n (le_of_suc-le-suc l))

lines_text_unique : (ps qs : List Path) → lines_text ps ≡ lines_text qs → ps ≡ qs
lines_text_unique ps qs e =
    let n = length ps + length qs in
    ap (read ps) (sym (lines_read ps n (omega arith)) ∙ ap (lines_at n) e ∙ lines_read qs n (omega arith))

pub form_unique : {text : List ℕ} {ps qs : List Path} → OfForm text ps → OfForm text qs → ps ≡ qs
form_unique {ps = ps} {qs = qs} f g = lines_text_unique ps qs (sym f.is ∙ g.is)
