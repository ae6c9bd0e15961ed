-- The readers of a path, its steps, a step and its brackets, return by return: what the callees answered gives what is answered.
use Rattle.std.proofs.Common.{◌≡◌, refl, sym, ap, ◌∙◌, subst, true, false, List, [], ◌∷◌, ℕ, zero, suc, ◌+◌, ◌-◌, ◌*◌, ◌≤◌, ◌<◌, length, drop, take, get_or, Option, None, Some, Bor, eqb, arith}
use Rattle.std.proofs.lemmas.Bool.{false≢true}
use Rattle.std.proofs.lemmas.List.{take_all}
use Rattle.std.specs.Prelude.{unwrap_or}
use native.Mathlib.Nat.{not-suc-le-zero, le_trans}
use Rattle.meaning.specs.Finite.{Yes, pick}
use Rattle.meaning.specs.Tree.{Var}
use Rattle.meaning.specs.Paths.{is_small, Test, test_byte, Path, from_root, from_here, Steps, one, more, Step, move, having}
use Rattle.meaning.specs.Paths as spec
use Rattle.meaning.specs.PathRecords.{Sheet, next_taken, rooted, path_sheet, steps_sheet, step_sheet}
use Rattle.meaning.proofs.Tests.{pick_yes, pick_no, eq_yes, is_eq}
use Rattle.meaning.proofs.PathSheets.{path_next, step_next}
use Rattle.theory.specs.PathReader.{move_at, path_at, steps_at, step_at, brackets_at}
use Rattle.theory.specs.Reader.{Got, nothing, got, and_then, byte}
use Rattle.axes.specs.declared.Axis.{Axis}
use Rattle.axes.specs.Moving.{axis_for, MoveRead}
use Rattle.sheet.specs.Bytes.{Bytes, root_in, numbered_in, rooted_in, move_in, root_for, Follows, For}
use Rattle.sheet.proofs.Follow.{numbered_follows, rooted_follows, move_follows}
use Rattle.steps.specs.Reading.{ReadTo, PathRead, StepsRead, StepRead, BracketsRead}

abbrev IsSome : {A : Type 0} → Option A → Type 0
IsSome None = ⊥
IsSome (Some x) = Unit {0}

abbrev bytes_of : Option (List ℕ) → List ℕ
bytes_of None = []
bytes_of (Some q) = q

-- ---- what follows what was got

module _ {A : Type 0} (f : A → Sheet) where
  pub read_nothing : (g : Got A) (c : Bytes) → ReadTo f g None c → g ≡ nothing
  read_nothing nothing c h = refl
  read_nothing (got a q) c h = absurd (subst IsSome (sym h.0) tt)

  pub read_got : (g : Got A) (q : List ℕ) (c : Bytes) → ReadTo f g (Some q) c
      → (a : A) × (g ≡ got a q) × Follows (f a) c
  read_got nothing q c h = absurd (subst IsSome h tt)
  read_got (got a p) q c h = (a, sym (ap (λ (k : Option (List ℕ)). got a (bytes_of k)) h.0), h.1)

  pub read_along : (r : Option (List ℕ)) (c : Bytes) {g k : Got A} → g ≡ k → ReadTo f k r c → ReadTo f g r c
  read_along r c e h = subst (λ z. ReadTo f z r c) (sym e) h

  pub read_map : {B : Type 0} (k : B → A) (g : Got B) (r : Option (List ℕ)) (c : Bytes) → ReadTo (λ b. f (k b)) g r c
      → ReadTo f (and_then g (λ b q. got (k b) q)) r c
  read_map k nothing r c h = h
  read_map k (got b q) r c h = h

-- ---- the first byte

-- the bytes begin with this one
pub begins : (s : List ℕ) (c : ℕ) → 1 ≤ length s → get_or s 0 0 ≡ c → s ≡ c ∷ take (length s - 1) (drop 1 s)
begins [] c l e = absurd (omega arith)
begins (b ∷ s) c l e =
    ap (λ (k : ℕ). k ∷ s) e ∙ ap (λ (k : List ℕ). c ∷ k) (sym (take_all (length (b ∷ s) - 1) s (omega arith)))

-- they do not
pub past : (s : List ℕ) (c : ℕ) → 0 < c → (1 ≤ length s → get_or s 0 0 ≡ c → ⊥) → byte s ≡ c → ⊥
past [] c l n e = omega (arith, l, e)
past (b ∷ s) c l n e = n (omega arith) e

pub byte_yes : {s q : List ℕ} {c : ℕ} → s ≡ c ∷ q → Yes (eqb (byte s) c)
byte_yes h = eq_yes (ap byte h)

pub byte_no : (s : List ℕ) (c : ℕ) → (byte s ≡ c → ⊥) → ¬ Yes (eqb (byte s) c)
byte_no s c n y = n (is_eq y)

pub behind : {s q : List ℕ} {c : ℕ} → s ≡ c ∷ q → drop 1 s ≡ q
behind h = ap (drop 1) h

-- the number that the code has for the root
pub root_back : (w : Var) → unwrap_or (root_for w) 0 ≡ w
root_back zero = refl
root_back (suc w) = refl

module _ (s : List ℕ) (x : ℕ) (b : Bytes) where
  -- ---- a path

  pub path_here : (r : Option (List ℕ)) (c : Bytes) → (byte s ≡ 47 → ⊥) → StepsRead s x b r c → PathRead s x b r c
  unfolding path_at step_sheet
  path_here r c n h v X zero o p l = absurd (not-suc-le-zero l)
  path_here r c n h v X (suc k) o p l =
      read_along (λ p. path_sheet p X v) r c (pick_no _ _ (byte_no s 47 n))
      (read_map (λ p. path_sheet p X v) from_here (steps_at k s) r c (h v X k o p (omega arith)))

  module _ (q : List ℕ) (i : s ≡ 47 ∷ q) (some : 0 < b.next) (u : Bytes) (e : u ≡ rooted_in b) where
    root_follows : (v : Sheet) → Follows v b → Follows (rooted v) u
    root_follows v o = subst (Follows (rooted v)) (sym e) (rooted_follows v b o some)

    pub path_alone : is_small (byte q) ≡ false → PathRead s x b (Some q) u
    unfolding path_at step_sheet
    path_alone n v X zero o p l = absurd (not-suc-le-zero l)
    path_alone n v X (suc k) o p l =
        read_along (λ p. path_sheet p X v) (Some q) u
        (pick_yes _ _ (byte_yes i) ∙ pick_no _ _ (λ y. false≢true
        (sym n ∙ sym (ap (λ (k : List ℕ). is_small (byte k)) (behind i)) ∙ y)))
        (ap (λ (k : List ℕ). Some k) (sym (behind i)), root_follows v o)

    pub path_root : (r : Option (List ℕ)) (y : ℕ) (c : Bytes) → y ≡ root_in u → is_small (byte q) ≡ true
        → StepsRead q y u r c → PathRead s x b r c
    unfolding path_at step_sheet
    path_root r y c d n h v X zero o p l = absurd (not-suc-le-zero l)
    path_root r y c d n h v X (suc k) o p l =
        let f = root_follows v o in
        let z = ap length i in
        read_along (λ p. path_sheet p X v) r c
        (pick_yes _ _ (byte_yes i)
        ∙ pick_yes _ _ (ap (λ (k : List ℕ). is_small (byte k)) (behind i) ∙ n)
        ∙ ap (λ (z : List ℕ). and_then (steps_at k z) λ ss q. got (from_root ss) q) (behind i))
        (read_map (λ p. path_sheet p X v) from_root (steps_at k q) r c
        (h (rooted v) (rooted v).root_at k f
        (λ z. d ∙ ap (λ (w : Option ℕ). unwrap_or w 0) (f.few z).1 ∙ root_back (rooted v).root_at) (omega arith)))

  -- ---- steps

  module _ (n : Bytes) (e : n ≡ numbered_in b) (y : ℕ) (d : y ≡ b.next) where
    -- what the step's reader answered, at the sheet with a number less
    step_answer : (r : Option (List ℕ)) (c : Bytes) → StepRead s x y n r c → (v : Sheet) (X : Var) (k : ℕ)
        → Follows v b → For v x X
        → 4 * length s + 1 < k → ReadTo (λ m. step_sheet m X v.next (next_taken v)) (step_at k s) r c
    unfolding next_taken
    step_answer r c h v X k o p l =
        h (next_taken v) X v.next k (subst (Follows (next_taken v)) (sym e) (numbered_follows v b o))
        (λ z. p (omega arith))
        (λ z. d ∙ (o.few (omega arith)).0) l

    abbrev rest : ℕ → Got Step → Got Steps
    rest k g =
        and_then g λ m q. pick (eqb (byte q) 47) (and_then (steps_at k (drop 1 q)) λ ss q. got (more m ss) q)
        (got (one m) q)

    pub steps_bad : (c : Bytes) → StepRead s x y n None c → StepsRead s x b None c
    unfolding steps_at
    steps_bad c h v X zero o p l = absurd (not-suc-le-zero l)
    steps_bad c h v X (suc k) o p l =
        let g = read_nothing (λ m. step_sheet m X v.next (next_taken v)) (step_at k s) c
        (step_answer None c h v X k o p (omega arith)) in
        read_along (λ ss. steps_sheet ss X v) None c (ap (rest k) g) refl

    module _ (q : List ℕ) (c : Bytes) (h : StepRead s x y n (Some q) c) where
      pub steps_one : (byte q ≡ 47 → ⊥) → StepsRead s x b (Some q) c
      unfolding steps_at step_sheet
      steps_one i v X zero o p l = absurd (not-suc-le-zero l)
      steps_one i v X (suc k) o p l =
          let g = read_got (λ m. step_sheet m X v.next (next_taken v)) (step_at k s) q c
          (step_answer (Some q) c h v X k o p (omega arith)) in
          read_along (λ ss. steps_sheet ss X v) (Some q) c (ap (rest k) g.1 ∙ pick_no _ _ (byte_no q 47 i)) (refl, g.2)

      pub steps_more : (a : List ℕ) (r : Option (List ℕ)) (t : Bytes) → q ≡ 47 ∷ a → length q < length s
          → StepsRead a y c r t → StepsRead s x b r t
      unfolding steps_at step_sheet next_taken
      steps_more a r t w j f v X zero o p l = absurd (not-suc-le-zero l)
      steps_more a r t w j f v X (suc k) o p l =
          let g = read_got (λ m. step_sheet m X v.next (next_taken v)) (step_at k s) q c
          (step_answer (Some q) c h v X k o p (omega arith)) in
          let u = step_sheet g.0 X v.next (next_taken v) in
          let z = ap length w in
          read_along (λ ss. steps_sheet ss X v) r t
          (ap (rest k) g.1 ∙ pick_yes _ _ (byte_yes w)
          ∙ ap (λ (a : List ℕ). and_then (steps_at k a) λ ss q. got (more g.0 ss) q) (behind w))
          (read_map (λ ss. steps_sheet ss X v) (more g.0) (steps_at k a) r t
          (f u v.next k g.2 (λ a. d ∙ (o.few (let m = step_next g.0 X v.next (next_taken v) in omega arith)).0)
          (omega (arith, z, j, l))))

-- ---- a move

pub move_none : (g : Got Step) → MoveRead g None → g ≡ nothing
move_none nothing h = refl
move_none (got a r) h = absurd (subst IsSome (sym h.3) tt)

abbrev moved_axis : Axis → Option (Axis × ℕ × List ℕ) → Axis
moved_axis d None = d
moved_axis d (Some m) = m.0

abbrev moved_byte : Option (Axis × ℕ × List ℕ) → ℕ
moved_byte None = 0
moved_byte (Some m) = m.1

abbrev moved_rest : Option (Axis × ℕ × List ℕ) → List ℕ
moved_rest None = []
moved_rest (Some m) = m.2

-- the move that was read
pub move_some : (g : Got Step) (b : Axis) (c : ℕ) (r : Bor (List ℕ)) → MoveRead g (Some (b, c, r))
    → (a : spec.Axis) × (t : Test) × (axis_for a ≡ b) × (test_byte t ≡ c) × (g ≡ got (move a t) r.now)
move_some nothing b c r h = absurd (subst IsSome h tt)
move_some (got m q) b c r h =
    let e = sym h.3 in (
      h.0,
      h.1,
      ap (moved_axis b) e,
      ap moved_byte e,
      ap (λ (k : Step). got k q) h.2 ∙ ap (λ (k : Option (Axis × ℕ × List ℕ)). got (move h.0 h.1) (moved_rest k)) e,
    )

-- its records on a sheet
pub moved_follows : (a : spec.Axis) (t : Test) (b : Axis) (c x y X Y : ℕ) (v : Sheet) (w u : Bytes) → axis_for a ≡ b
    → test_byte t ≡ c → u ≡ move_in b c x y w
    → Follows v w → For v x X → For v y Y → Follows (step_sheet (move a t) X Y v) u
unfolding step_sheet
moved_follows a t b c x y X Y v w u e f g o p q =
    subst (Follows (step_sheet (move a t) X Y v)) (ap (λ (k : Axis). move_in k (test_byte t) x y w) e
    ∙ ap (λ (k : ℕ). move_in b k x y w) f ∙ sym g) (move_follows v w x y X Y o p q a t)

pub sheet_next : (m : Step) (v : Sheet) (X Y y : ℕ) → For v y Y → For (step_sheet m X Y v) y Y
sheet_next m v X Y y q h = q (le_trans (step_next m X Y v) h)

-- ---- a step

module _ (s : List ℕ) (x y : ℕ) (b : Bytes) where
  pub step_not : (c : Bytes) → MoveRead (move_at s) None → StepRead s x y b None c
  unfolding step_at
  step_not c h v X Y zero o p q l = absurd (not-suc-le-zero l)
  step_not c h v X Y (suc k) o p q l =
      read_along (λ m. step_sheet m X Y v) None c (ap (λ (g : Got Step). and_then g λ m t. brackets_at k m t)
      (move_none (move_at s) h)) refl

  pub step_is : (a : Axis) (t : ℕ) (e : Bor (List ℕ)) → MoveRead (move_at s) (Some (a, t, e)) → length e.now < length s
      → (u : Bytes) (r : Option (List ℕ)) (c : Bytes) → u ≡ move_in a t x y b → BracketsRead e.now y u r c
      → StepRead s x y b r c
  unfolding step_at
  step_is a t e h i u r c f w v X Y zero o p q l = absurd (not-suc-le-zero l)
  step_is a t e h i u r c f w v X Y (suc k) o p q l =
      let z = move_some (move_at s) a t e h in
      read_along (λ m. step_sheet m X Y v) r c (ap (λ (g : Got Step). and_then g λ m t. brackets_at k m t) z.4)
      (w v (move z.0 z.1) X Y k (moved_follows z.0 z.1 a t x y X Y v b u z.2 z.3 f o p q)
      (sheet_next (move z.0 z.1) v X Y y q) (omega arith))

-- ---- its brackets

module _ (s : List ℕ) (y : ℕ) (b : Bytes) where
  pub brackets_none : (byte s ≡ 91 → ⊥) → BracketsRead s y b (Some s) b
  unfolding brackets_at
  brackets_none n v m X Y zero o q l = absurd (not-suc-le-zero l)
  brackets_none n v m X Y (suc k) o q l =
      read_along (λ z. step_sheet z X Y v) (Some s) b (pick_no _ _ (byte_no s 91 n)) (refl, o)

  module _ (p : List ℕ) (e : s ≡ 91 ∷ p) where
    abbrev closed : ℕ → Step → Got Path → Got Step
    closed k m g = and_then g λ p t. pick (eqb (byte t) 93) (brackets_at k (having m p) (drop 1 t)) nothing

    opened : (k : ℕ) (m : Step) → brackets_at (suc k) m s ≡ closed k m (path_at k p)
    unfolding brackets_at
    opened k m = pick_yes _ _ (byte_yes e) ∙ ap (λ (t : List ℕ). closed k m (path_at k t)) (behind e)

    inner : (r : Option (List ℕ)) (c : Bytes) → PathRead p y b r c → (v : Sheet) (m : Step) (X Y : Var) (k : ℕ)
        → Follows (step_sheet m X Y v) b
        → For (step_sheet m X Y v) y Y → 4 * length s < suc k → ReadTo (λ p. path_sheet p Y (step_sheet m X Y v))
        (path_at k p) r c
    inner r c h v m X Y k o q l = let z = ap length e in h (step_sheet m X Y v) Y k o q (omega (arith, z, l))

    pub brackets_bad : (c : Bytes) → PathRead p y b None c → BracketsRead s y b None c
    brackets_bad c h v m X Y zero o q l = absurd (not-suc-le-zero l)
    brackets_bad c h v m X Y (suc k) o q l =
        let z = read_nothing (λ p. path_sheet p Y (step_sheet m X Y v)) (path_at k p) c
        (inner None c h v m X Y k o q l) in
        read_along (λ z. step_sheet z X Y v) None c (opened k m ∙ ap (closed k m) z) refl

    module _ (t : List ℕ) (c : Bytes) (h : PathRead p y b (Some t) c) where
      pub brackets_open : (byte t ≡ 93 → ⊥) → BracketsRead s y b None c
      brackets_open n v m X Y zero o q l = absurd (not-suc-le-zero l)
      brackets_open n v m X Y (suc k) o q l =
          let z = read_got (λ p. path_sheet p Y (step_sheet m X Y v)) (path_at k p) t c
          (inner (Some t) c h v m X Y k o q l) in
          read_along (λ z. step_sheet z X Y v) None c (opened k m ∙ ap (closed k m) z.1 ∙ pick_no _ _ (byte_no t 93 n))
          refl

      pub brackets_more : (a : List ℕ) (r : Option (List ℕ)) (d : Bytes) → t ≡ 93 ∷ a → length t < length p
          → BracketsRead a y c r d → BracketsRead s y b r d
      unfolding step_sheet
      brackets_more a r d i j f v m X Y zero o q l = absurd (not-suc-le-zero l)
      brackets_more a r d i j f v m X Y (suc k) o q l =
          let z = read_got (λ p. path_sheet p Y (step_sheet m X Y v)) (path_at k p) t c
          (inner (Some t) c h v m X Y k o q l) in
          let w = ap length e in
          let g = ap length i in
          read_along (λ z. step_sheet z X Y v) r d
          (opened k m ∙ ap (closed k m) z.1 ∙ pick_yes _ _ (byte_yes i) ∙ ap (brackets_at k (having m z.0)) (behind i))
          (f v (having m z.0) X Y k z.2 (λ a. q (le_trans (path_next z.0 Y (step_sheet m X Y v)) a))
          (omega (arith, w, g, j, l)))
