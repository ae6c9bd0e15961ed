-- An axis, its name and a test: what the code has read is what the reader of bytes has got.
use Rattle.std.proofs.Common.{◌≡◌, refl, sym, ap, ◌∙◌, subst, Bool, true, false, ◌||◌, true≢false, List, [], ◌∷◌, ℕ, length, take, drop, get_or, ◌≤◌, nat_eq, eqb, Option, None, Some, MatchOption, Bor}
use Rattle.std.proofs.Common.{arith, ◌-◌, length-drop}
use Rattle.std.proofs.lemmas.Bool.{false≢true}
use Rattle.std.proofs.lemmas.List.{take_all}
use borrow.Author.Tests.{ne_eqb}
use Rattle.meaning.specs.Finite.{Yes, pick, ◌and◌, ◌or◌}
use Rattle.meaning.proofs.Tests.{pick_yes, pick_no, pick_has, not_yes, is_eq, and_left, and_right, yes_not}
use Rattle.meaning.specs.Ascii.{ascii}
use Rattle.meaning.specs.Tree.{is_capital}
use Rattle.meaning.specs.Paths as spec
use Rattle.meaning.specs.Paths.{axis_text, is_small, is_letter, Test, letter, any, test_byte, Step, move}
use Rattle.theory.specs.PathReader.{after_name, axis_at, test_by, test_at, move_at}
use Rattle.theory.specs.Reader.{Got, nothing, got, and_then, front}
use Rattle.axes.specs.declared.Axis.{Axis}
use Rattle.axes.specs.Moving.{axis_for, axis_view, name_got, NameRead, AxisRead, is_tested, MoveRead}

abbrev IsSome : {A : Type 0} → Option A → Type 0
IsSome None = ⊥
IsSome (Some x) = Unit {0}

-- what was read is nothing, if it shows nothing
view_none : (r : Option (Axis × Bor (List ℕ))) → axis_view r ≡ None → r ≡ None
view_none None e = refl
view_none (Some x) e = absurd (subst IsSome e tt)

abbrev some_move : Axis → ℕ → List ℕ → Option (Axis × ℕ × List ℕ)
some_move a t rest = Some (a, t, rest)

abbrev just : Axis → List ℕ → Option (Axis × List ℕ)
just a rest = Some (a, rest)

-- the name stands at the front, or it does not
pub stripped : (s w : List ℕ) (a : Axis) → length w ≤ length s → front s w ≡ true
    → ◌≡◌ {A = Option (Axis × List ℕ)} (Some (a, take (length s - length w) (drop (length w) s))) (name_got s w a)
stripped s w a l h =
    let n = length-drop (length w) s in
    ap (λ (k : List ℕ). just a k) (take_all (length s - length w) (drop (length w) s) (omega arith))
    ∙ sym (pick_yes (just a (drop (length w) s)) None h)

pub not_stripped : (s w : List ℕ) (a : Axis) → front s w ≡ false → ◌≡◌ {A = Option (Axis × List ℕ)} None (name_got s w a)
not_stripped s w a h = sym (pick_no (just a (drop (length w) s)) None (not_yes h))

module _ (s : List ℕ) (a : spec.Axis) (r : Option (Axis × Bor (List ℕ))) where
  -- one name, and nothing else
  pub name_alone : NameRead s (axis_text a) (axis_for a) r → AxisRead (after_name a s nothing) r
  unfolding after_name pick
  name_alone h = go (front s (axis_text a)) h
    where
      go : (b : Bool) → axis_view r ≡ pick b (Some (axis_for a, drop (length (axis_text a)) s)) None
          → AxisRead (pick b (got a (drop (length (axis_text a)) s)) nothing) r
      go true h = h
      go false h = view_none r h

  -- a name, and else what was read otherwise
  pub name_first : (g : Got spec.Axis) (q : Option (Axis × Bor (List ℕ))) → NameRead s (axis_text a) (axis_for a) q
      → MatchOption q (AxisRead g r) (λ x. r ≡ Some x) → AxisRead (after_name a s g) r
  unfolding after_name pick
  name_first g q h m = go (front s (axis_text a)) q h m
    where
      go : (b : Bool) (q : Option (Axis × Bor (List ℕ)))
          → axis_view q ≡ pick b (Some (axis_for a, drop (length (axis_text a)) s)) None
          → MatchOption q (AxisRead g r) (λ x. r ≡ Some x) → AxisRead
          (pick b (got a (drop (length (axis_text a)) s)) g) r
      go true None h m = absurd (subst IsSome (sym h) tt)
      go true (Some x) h m = ap axis_view m ∙ h
      go false None h m = m
      go false (Some x) h m = absurd (subst IsSome h tt)

other_first : (s : List ℕ) (c : ℕ) (w : List ℕ) → (get_or s 0 0 ≡ c → ⊥) → front s (c ∷ w) ≡ false
unfolding front ◌and◌
other_first [] c w n = refl
other_first (b ∷ s) c w n = ap (λ (k : Bool). k and front s w) (ne_eqb b c n)

-- a name that begins with another byte is passed over
pub skip : (s : List ℕ) (b : spec.Axis) (c : ℕ) (w : List ℕ) → axis_text b ≡ c ∷ w → (get_or s 0 0 ≡ c → ⊥)
    → (g : Got spec.Axis) (r : Option (Axis × Bor (List ℕ))) → AxisRead g r → AxisRead (after_name b s g) r
unfolding after_name
skip s b c w e n g r h =
    let other : front s (axis_text b) ≡ false = ap (front s) e ∙ other_first s c w n in
    pick_has (λ (k : Got spec.Axis). AxisRead k r) (front s (axis_text b)) _ _ (λ y. absurd (true≢false (sym y ∙ other))) h

-- ---- the names by their first byte

pub with_d : (s : List ℕ) → get_or s 0 0 ≡ 100 → axis_at s ≡ after_name spec.to_descendant_or_self s
    (after_name spec.to_descendant s nothing)
unfolding axis_at after_name front pick axis_text ascii ◌and◌
with_d [] e = absurd (omega arith)
with_d (b ∷ s) e =
    subst (λ (k : ℕ). axis_at (k ∷ s) ≡ after_name spec.to_descendant_or_self (k ∷ s)
    (after_name spec.to_descendant (k ∷ s) nothing)) (sym e) refl

pub with_a : (s : List ℕ) → get_or s 0 0 ≡ 97 → axis_at s ≡ after_name spec.to_ancestor_or_self s
    (after_name spec.to_ancestor s nothing)
unfolding axis_at after_name front pick axis_text ascii ◌and◌
with_a [] e = absurd (omega arith)
with_a (b ∷ s) e =
    subst (λ (k : ℕ). axis_at (k ∷ s) ≡ after_name spec.to_ancestor_or_self (k ∷ s)
    (after_name spec.to_ancestor (k ∷ s) nothing)) (sym e) refl

pub with_p : (s : List ℕ) → get_or s 0 0 ≡ 112 → axis_at s ≡ after_name spec.to_preceding_sibling s
    (after_name spec.to_parent s nothing)
unfolding axis_at after_name front pick axis_text ascii ◌and◌
with_p [] e = absurd (omega arith)
with_p (b ∷ s) e =
    subst (λ (k : ℕ). axis_at (k ∷ s) ≡ after_name spec.to_preceding_sibling (k ∷ s)
    (after_name spec.to_parent (k ∷ s) nothing)) (sym e) refl

pub with_f : (s : List ℕ) → get_or s 0 0 ≡ 102 → axis_at s ≡ after_name spec.to_following_sibling s nothing
unfolding axis_at after_name front pick axis_text ascii ◌and◌
with_f [] e = absurd (omega arith)
with_f (b ∷ s) e =
    subst (λ (k : ℕ). axis_at (k ∷ s) ≡ after_name spec.to_following_sibling (k ∷ s) nothing) (sym e) refl

pub with_c : (s : List ℕ) → get_or s 0 0 ≡ 99 → axis_at s ≡ after_name spec.to_child s nothing
unfolding axis_at after_name front pick axis_text ascii ◌and◌
with_c [] e = absurd (omega arith)
with_c (b ∷ s) e = subst (λ (k : ℕ). axis_at (k ∷ s) ≡ after_name spec.to_child (k ∷ s) nothing) (sym e) refl

pub with_s : (s : List ℕ) → get_or s 0 0 ≡ 115 → axis_at s ≡ after_name spec.to_self s nothing
unfolding axis_at after_name front pick axis_text ascii ◌and◌
with_s [] e = absurd (omega arith)
with_s (b ∷ s) e = subst (λ (k : ℕ). axis_at (k ∷ s) ≡ after_name spec.to_self (k ∷ s) nothing) (sym e) refl

pub with_none : (s : List ℕ) → (get_or s 0 0 ≡ 100 → ⊥) → (get_or s 0 0 ≡ 97 → ⊥) → (get_or s 0 0 ≡ 112 → ⊥)
    → (get_or s 0 0 ≡ 102 → ⊥) → (get_or s 0 0 ≡ 99 → ⊥) → (get_or s 0 0 ≡ 115 → ⊥) → axis_at s ≡ nothing
unfolding axis_at after_name front pick axis_text ascii ◌and◌
with_none [] d a p f c z = refl
with_none (b ∷ s) d a p f c z =
    rw (ne_eqb b 100 d, ne_eqb b 97 a, ne_eqb b 112 p, ne_eqb b 102 f, ne_eqb b 99 c, ne_eqb b 115 z) refl

module _ (s : List ℕ) (a : spec.Axis) (r : Option (Axis × Bor (List ℕ))) where
  pub read_one : axis_at s ≡ after_name a s nothing → NameRead s (axis_text a) (axis_for a) r → AxisRead (axis_at s) r
  read_one e h = subst (λ (g : Got spec.Axis). AxisRead g r) (sym e) (name_alone s a r h)

  pub read_two : (b : spec.Axis) (q : Option (Axis × Bor (List ℕ)))
      → axis_at s ≡ after_name a s (after_name b s nothing)
      → NameRead s (axis_text a) (axis_for a) q → MatchOption q (NameRead s (axis_text b) (axis_for b) r)
      (λ x. r ≡ Some x)
      → AxisRead (axis_at s) r
  read_two b q e h m =
      subst (λ (g : Got spec.Axis). AxisRead g r) (sym e) (name_first s a r (after_name b s nothing) q h (other q m))
    where
      other : (q : Option (Axis × Bor (List ℕ))) → MatchOption q (NameRead s (axis_text b) (axis_for b) r)
          (λ x. r ≡ Some x)
          → MatchOption q (AxisRead (after_name b s nothing) r) (λ x. r ≡ Some x)
      other None h = name_alone s b r h
      other (Some x) h = h

pub read_none : (s : List ℕ) → axis_at s ≡ nothing → AxisRead (axis_at s) None
read_none s e = subst (λ (g : Got spec.Axis). AxisRead g None) (sym e) refl

-- ---- the move behind an axis

abbrev after_axis : Got spec.Axis → Got Step
after_axis g =
    and_then g λ a r. pick (front r (58 ∷ 58 ∷ [])) (and_then (test_at (drop 2 r)) λ t q. got (move a t) q) nothing

-- the axis that was read
axis_some : (g : Got spec.Axis) (a : Axis) (r : Bor (List ℕ)) → AxisRead g (Some (a, r))
    → (b : spec.Axis) × (axis_for b ≡ a) × (g ≡ got b r.now)
axis_some nothing a r h = absurd (subst IsSome h tt)
axis_some (got b rest) a r h =
    (b, sym (ap (first_of_some a) h), sym (ap (λ (k : Option (Axis × List ℕ)). got b (second_of_some k)) h))
  where
    first_of_some : Axis → Option (Axis × List ℕ) → Axis
    first_of_some d None = d
    first_of_some d (Some x) = x.0

    second_of_some : Option (Axis × List ℕ) → List ℕ
    second_of_some None = []
    second_of_some (Some x) = x.1

axis_nothing : (g : Got spec.Axis) → AxisRead g None → g ≡ nothing
axis_nothing nothing h = refl
axis_nothing (got b rest) h = absurd (subst IsSome (sym h) tt)

-- the test was read, or was none
tested : (b : spec.Axis) (t : ℕ) (bs : List ℕ) (q : Bor (List ℕ)) → q.now ≡ bs → (v : Bool) (e : is_letter t ≡ v)
    → (v || eqb t 42) ≡ true
    → MoveRead (and_then (test_by t v e bs) λ t q. got (move b t) q) (Some (axis_for b, t, q))
unfolding test_by pick test_byte
tested b t bs q w true e h = (b, letter t e, refl, ap (λ (k : List ℕ). some_move (axis_for b) t k) w)
tested b t bs q w false e h =
    subst (λ (k : Got Test). MoveRead (and_then k λ t q. got (move b t) q) (Some (axis_for b, t, q)))
    (sym (pick_yes _ _ h)) (
      b,
      any,
      refl,
      ap (λ (k : List ℕ). some_move (axis_for b) t k) w ∙ ap (λ (k : ℕ). some_move (axis_for b) k bs)
          (is_eq h),
    )

not_tested : (b : spec.Axis) (t : ℕ) (bs : List ℕ) (v : Bool) (e : is_letter t ≡ v) → (v || eqb t 42) ≡ false
    → ◌≡◌ {A = Got Step} (and_then (test_by t v e bs) λ t q. got (move b t) q) nothing
unfolding test_by pick
not_tested b t bs true e h = absurd (true≢false h)
not_tested b t bs false e h = ap (λ (k : Got Test). and_then k λ t q. got (move b t) q) (pick_no _ _ (not_yes h))

colons : (b : spec.Axis) (x y : ℕ) (bs : List ℕ) → x ≡ 58 → y ≡ 58
    → after_axis (got b (x ∷ y ∷ bs)) ≡ (and_then (test_at bs) λ t q. got (move b t) q)
unfolding front pick ◌and◌
colons b x y bs c d = rw (c, d) refl

pick_same : {A : Type 0} {x z : A} (b : Bool) → (Yes b → x ≡ z) → pick b x z ≡ z
unfolding pick
pick_same true f = f refl
pick_same false f = refl

no_test : (b : spec.Axis) (rs : List ℕ) → Yes (front rs (58 ∷ 58 ∷ []))
    → (3 ≤ length rs → get_or rs 0 0 ≡ 58 → get_or rs 1 0 ≡ 58 → is_tested (get_or rs 2 0) ≡ true → ⊥)
    → ◌≡◌ {A = Got Step} (and_then (test_at (drop 2 rs)) λ t q. got (move b t) q) nothing
unfolding front test_at
no_test b [] y n = absurd (false≢true y)
no_test b (x ∷ []) y n = absurd (false≢true (and_right (eqb x 58) y))
no_test b (x ∷ z ∷ []) y n =
    not_tested b 0 [] (is_letter 0) refl (unfold is_letter is_small is_capital ◌or◌ ◌and◌ in refl)
no_test b (x ∷ z ∷ t ∷ bs) y n =
    let c : x ≡ 58 = is_eq (and_left (eqb z 58 and true) y) in
    let d : z ≡ 58 = is_eq (and_left true (and_right (eqb x 58) y)) in
    not_tested b t bs (is_letter t) refl (yes_not (n (omega arith) c d))

module _ (s : List ℕ) where
  -- no axis
  pub move_none : AxisRead (axis_at s) None → MoveRead (move_at s) None
  unfolding move_at
  move_none h = subst (λ (g : Got spec.Axis). MoveRead (after_axis g) None) (sym (axis_nothing (axis_at s) h)) refl

  module _ (a : Axis) (r : Bor (List ℕ)) (h : AxisRead (axis_at s) (Some (a, r))) where
    pub move_is : (q : Bor (List ℕ)) → 3 ≤ length r.now → get_or r.now 0 0 ≡ 58 → get_or r.now 1 0 ≡ 58
        → is_tested (get_or r.now 2 0) ≡ true
        → q.now ≡ take (length r.now - 3) (drop 3 r.now) → MoveRead (move_at s) (Some (a, get_or r.now 2 0, q))
    unfolding move_at test_at
    move_is q l c d t w =
        let z = axis_some (axis_at s) a r h in
        subst (λ (k : Axis). MoveRead (after_axis (axis_at s)) (Some (k, get_or r.now 2 0, q))) z.1
        (subst (λ (g : Got spec.Axis). MoveRead (after_axis g) (Some (axis_for z.0, get_or r.now 2 0, q))) (sym z.2)
        (go r.now z.0 l c d t (w ∙ take_all (length r.now - 3) (drop 3 r.now) (let e = length-drop 3 r.now in
        omega arith))))
      where
        go : (rs : List ℕ) (b : spec.Axis) → 3 ≤ length rs → get_or rs 0 0 ≡ 58 → get_or rs 1 0 ≡ 58
            → is_tested (get_or rs 2 0) ≡ true
            → q.now ≡ drop 3 rs → MoveRead (after_axis (got b rs)) (Some (axis_for b, get_or rs 2 0, q))
        go [] b l c d t w = absurd (omega arith)
        go (x ∷ []) b l c d t w = absurd (omega arith)
        go (x ∷ y ∷ []) b l c d t w = absurd (omega arith)
        go (x ∷ y ∷ z ∷ rs) b l c d t w =
            subst (λ (g : Got Step). MoveRead g (Some (axis_for b, z, q))) (sym (colons b x y (z ∷ rs) c d))
            (tested b z rs q w (is_letter z) refl t)

    pub move_not : (3 ≤ length r.now → get_or r.now 0 0 ≡ 58 → get_or r.now 1 0 ≡ 58
        → is_tested (get_or r.now 2 0) ≡ true → ⊥)
        → MoveRead (move_at s) None
    unfolding move_at
    move_not n =
        let z = axis_some (axis_at s) a r h in
        subst (λ (g : Got Step). MoveRead g None) (sym (ap (λ (g : Got spec.Axis). after_axis g) z.2 ∙ go r.now z.0 n))
        refl
      where
        go : (rs : List ℕ) (b : spec.Axis)
            → (3 ≤ length rs → get_or rs 0 0 ≡ 58 → get_or rs 1 0 ≡ 58 → is_tested (get_or rs 2 0) ≡ true → ⊥)
            → after_axis (got b rs) ≡ nothing
        go rs b n = pick_same (front rs (58 ∷ 58 ∷ [])) (λ y. no_test b rs y n)
