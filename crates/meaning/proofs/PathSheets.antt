-- What every sheet has: the variables of its records are below the next number, the root's number has its record, labels are letters. What follows
-- on a sheet keeps its records and gives away no number again. By induction on the path, since a record names only numbers given away before it.
use mathlib.Core.Path.{◌≡◌, refl, sym, subst}
use mathlib.Core.Logic.{⊎_elim}
use mathlib.Core.List.Memᴰ
use mathlib.Core.List.{List, [], ◌∷◌, Memᴰ}
use Prim.Native.Nat.{ℕ, zero, suc, max, ◌≤◌, ◌<◌}
use native.Mathlib.Nat.{le_refl, le_trans, zero-lt-suc, not-suc-le-zero}
use native.Mathlib.Omega.{arith}
use lib.Dec.{leb}
use Rattle.meaning.specs.Tree.{Var, is_capital}
use Rattle.meaning.specs.Constraint.{Constraint, is_same, is_root, named, vars}
use Rattle.meaning.specs.Finite.{Yes}
use Rattle.meaning.specs.Paths.{Axis, to_self, to_child, to_parent, to_descendant, to_ancestor, to_descendant_or_self, to_ancestor_or_self, to_following_sibling, to_preceding_sibling, is_small, is_letter, Test, letter, any, Path, alone, from_root, from_here, Steps, one, more, Step, move, having}
use Rattle.meaning.specs.PathRecords.{Sheet, blank_sheet, next_taken, with_records, rooted_by, rooted, axis_record, move_records, path_sheet, steps_sheet, step_sheet, end_sheet, line_sheet, lines_sheet}
use Rattle.meaning.proofs.Tests.{and_left, and_right, either, is_le}
use Rattle.meaning.proofs.Labels.{capital_range}
use Rattle.meaning.proofs.Constraints.{OnLabelOf, named_most}

-- ---- the records of a move

axis_named : (k : Axis) (x y : Var) → named (axis_record k x y) ≡ suc (max x y)
unfolding named axis_record
axis_named to_self x y = refl
axis_named to_child x y = refl
axis_named to_parent x y = omega arith
axis_named to_descendant x y = refl
axis_named to_ancestor x y = omega arith
axis_named to_descendant_or_self x y = refl
axis_named to_ancestor_or_self x y = omega arith
axis_named to_following_sibling x y = refl
axis_named to_preceding_sibling x y = omega arith

pub move_vars : (k : Axis) (t : Test) (x y : Var) → vars (move_records k t x y) ≡ suc (max x y)
unfolding vars named move_records
move_vars k (letter b l) x y = let e = axis_named k x y in omega arith
move_vars k any x y = let e = axis_named k x y in omega arith

-- its label, if it has one, is a letter
abbrev pub Lettered : Constraint → Type 0
Lettered = OnLabelOf (λ l. Yes (is_letter l))

axis_lettered : (k : Axis) (x y : Var) → Lettered (axis_record k x y)
unfolding axis_record
axis_lettered to_self x y = tt
axis_lettered to_child x y = tt
axis_lettered to_parent x y = tt
axis_lettered to_descendant x y = tt
axis_lettered to_ancestor x y = tt
axis_lettered to_descendant_or_self x y = tt
axis_lettered to_ancestor_or_self x y = tt
axis_lettered to_following_sibling x y = tt
axis_lettered to_preceding_sibling x y = tt

pub small_range : (b : ℕ) → Yes (is_small b) → (97 ≤ b) × (b ≤ 122)
unfolding is_small
small_range b y = (is_le (and_left (leb b 122) y), is_le (and_right (leb 97 b) y))

pub letter_range : (b : ℕ) → Yes (is_letter b) → (65 ≤ b) × (b ≤ 122)
unfolding is_letter
letter_range b l = either {a = is_small b} small capital l
  where
    small : Yes (is_small b) → (65 ≤ b) × (b ≤ 122)
    small y = let r = small_range b y in let m = r.0 in (omega arith, r.1)

    capital : Yes (is_capital b) → (65 ≤ b) × (b ≤ 122)
    capital y = let r = capital_range b y in let m = r.1 in (r.0, omega arith)

move_lettered : (k : Axis) (t : Test) (x y : Var) (c : Constraint) → Memᴰ c (move_records k t x y) → Lettered c
unfolding move_records
move_lettered k (letter b l) x y c m =
    ⊎_elim (λ e. subst Lettered (sym e) (axis_lettered k x y))
    (λ m. ⊎_elim (λ e. subst Lettered (sym e) l) (λ m. absurd (Memᴰ.not-nil m)) (Memᴰ.cases_cons m))
    (Memᴰ.cases_cons m)
move_lettered k any x y c m =
    ⊎_elim (λ e. subst Lettered (sym e) (axis_lettered k x y)) (λ m. absurd (Memᴰ.not-nil m)) (Memᴰ.cases_cons m)

-- ---- what every sheet has

pub record Fine (w : Sheet) : Type 0 where
  pub first : 0 < w.next
  pub root_low : w.root_at < w.next
  pub recorded : 0 < w.root_at → Memᴰ (is_root w.root_at) w.records
  pub low : (c : Constraint) → Memᴰ c w.records → named c ≤ w.next
  pub lettered : (c : Constraint) → Memᴰ c w.records → Lettered c

pub record Grown (w v : Sheet) : Type 0 where
  pub fine : Fine v
  pub next_le : w.next ≤ v.next
  pub keeps : (c : Constraint) → Memᴰ c w.records → Memᴰ c v.records

grown_trans : {u w v : Sheet} → Grown u w → Grown w v → Grown u v
grown_trans g h = record { fine = h.fine; next_le = le_trans g.next_le h.next_le; keeps = λ c m. h.keeps c (g.keeps c m) }

pub blank_fine : Fine blank_sheet
unfolding blank_sheet
blank_fine = record {
  first = le_refl _;
  root_low = le_refl _;
  recorded = λ h. absurd (not-suc-le-zero h);
  low = λ c m. absurd (Memᴰ.not-nil m);
  lettered = λ c m. absurd (Memᴰ.not-nil m);
}

pub next_taken_grown : (w : Sheet) → Fine w → Grown w (next_taken w)
unfolding next_taken
next_taken_grown w f = record {
  fine = record {
    first = zero-lt-suc _;
    root_low = let h = f.root_low in omega arith;
    recorded = f.recorded;
    low = λ c m. let h = f.low c m in omega arith;
    lettered = f.lettered;
  };
  next_le = omega arith;
  keeps = λ c m. m;
}

with_records_grown : (cs : List Constraint) (w : Sheet) → Fine w → ((c : Constraint) → Memᴰ c cs → named c ≤ w.next) → ((c : Constraint) → Memᴰ c cs → Lettered c)
    → Grown w (with_records cs w)
unfolding with_records
with_records_grown cs w f low let-ok = record {
  fine = record {
    first = f.first;
    root_low = f.root_low;
    recorded = λ h. Memᴰ.append_left cs (f.recorded h);
    low = λ c m. ⊎_elim (f.low c) (low c) (Memᴰ.append_cases w.records m);
    lettered = λ c m. ⊎_elim (f.lettered c) (let-ok c) (Memᴰ.append_cases w.records m);
  };
  next_le = le_refl _;
  keeps = λ c m. Memᴰ.append_left cs m;
}

-- after a start at the root: the root has a number and a record
root_named : (x : Var) → named (is_root x) ≤ suc x
unfolding named
root_named x = le_refl _

pub next_low : (w : Sheet) → w.next < (next_taken w).next
unfolding next_taken
next_low w = le_refl _

pub record HasRoot (w v : Sheet) : Type 0 where
  pub grown : Grown w v
  pub positive : 0 < v.root_at

rooted_by_lem : (w : Sheet) → Fine w → (r : Var) → w.root_at ≡ r → HasRoot w (rooted_by r w)
unfolding rooted_by
rooted_by_lem w f zero e = record {
  grown = record {
    fine = record {
      first = zero-lt-suc _;
      root_low = le_refl _;
      recorded = λ h. Memᴰ.append_right w.records (Memᴰ.head refl);
      low = λ c m. ⊎_elim (λ k. let h = f.low c k in omega arith) (λ k. root_record c k) (Memᴰ.append_cases w.records m);
      lettered = λ c m. ⊎_elim (f.lettered c) (λ k. root_lettered c k) (Memᴰ.append_cases w.records m);
    };
    next_le = omega arith;
    keeps = λ c m. Memᴰ.append_left _ m;
  };
  positive = f.first;
}
  where
    only : (c : Constraint) → Memᴰ c (is_root w.next ∷ []) → c ≡ is_root w.next
    only c k = ⊎_elim (λ e. e) (λ m. absurd (Memᴰ.not-nil m)) (Memᴰ.cases_cons k)

    root_record : (c : Constraint) → Memᴰ c (is_root w.next ∷ []) → named c ≤ suc w.next
    root_record c k = subst (λ (d : Constraint). named d ≤ suc w.next) (sym (only c k)) (root_named w.next)

    root_lettered : (c : Constraint) → Memᴰ c (is_root w.next ∷ []) → Lettered c
    root_lettered c k = subst Lettered (sym (only c k)) tt
rooted_by_lem w f (suc r) e = record {
  grown = record { fine = f; next_le = le_refl _; keeps = λ c m. m };
  positive = subst (λ (k : Var). 0 < k) (sym e) (zero-lt-suc r);
}

pub rooted_grown : (w : Sheet) → Fine w → HasRoot w (rooted w)
unfolding rooted
rooted_grown w f = rooted_by_lem w f w.root_at refl

-- ---- the sheet of a path, of steps and of a step

move_grown : (k : Axis) (t : Test) (x y : Var) (w : Sheet) → Fine w → x < w.next → y < w.next → Grown w (with_records (move_records k t x y) w)
move_grown k t x y w f l m =
    with_records_grown (move_records k t x y) w f
    (λ c i. let h = named_most (move_records k t x y) c i in let e = move_vars k t x y in omega arith)
    (move_lettered k t x y)

mutual
  unfolding step_sheet

  pub path_grown : (p : Path) (x : Var) (w : Sheet) → Fine w → x < w.next → Grown w (path_sheet p x w)
  path_grown alone x w f l = (rooted_grown w f).grown
  path_grown (from_root ss) x w f l =
      let r = (rooted_grown w f).grown in
      grown_trans r (steps_grown ss (rooted w).root_at (rooted w) r.fine r.fine.root_low)
  path_grown (from_here ss) x w f l = steps_grown ss x w f l

  pub steps_grown : (ss : Steps) (x : Var) (w : Sheet) → Fine w → x < w.next → Grown w (steps_sheet ss x w)
  steps_grown (one s) x w f l =
      let g = next_taken_grown w f in
      grown_trans g (step_grown s x w.next (next_taken w) g.fine (le_trans l g.next_le) (next_low w))
  steps_grown (more s ss) x w f l =
      let g = next_taken_grown w f in
      let h = step_grown s x w.next (next_taken w) g.fine (le_trans l g.next_le) (next_low w) in
      grown_trans g (grown_trans h (steps_grown ss w.next (step_sheet s x w.next (next_taken w)) h.fine (le_trans (next_low w) h.next_le)))

  pub step_grown : (s : Step) (x y : Var) (w : Sheet) → Fine w → x < w.next → y < w.next → Grown w (step_sheet s x y w)
  step_grown (move k t) x y w f l m = move_grown k t x y w f l m
  step_grown (having s p) x y w f l m =
      let g = step_grown s x y w f l m in
      grown_trans g (path_grown p y (step_sheet s x y w) g.fine (le_trans m g.next_le))

-- ---- lines

pub end_grown : (ss : Steps) (x : Var) (w : Sheet) → Fine w → x < w.next → Grown w (end_sheet ss x w)
unfolding end_sheet
end_grown (one s) x w f l = step_grown s x 0 w f l f.first
end_grown (more s ss) x w f l =
    let g = next_taken_grown w f in
    let h = step_grown s x w.next (next_taken w) g.fine (le_trans l g.next_le) (next_low w) in
    grown_trans g (grown_trans h (end_grown ss w.next (step_sheet s x w.next (next_taken w)) h.fine (le_trans (next_low w) h.next_le)))

same_named : (x : Var) → named (is_same x 0) ≤ suc x
unfolding named
same_named x = omega arith

pub line_grown : (p : Path) (w : Sheet) → Fine w → Grown w (line_sheet p w)
unfolding line_sheet
line_grown alone w f =
    let r = (rooted_grown w f).grown in
    let q : Var = (rooted w).root_at in
    let only : (c : Constraint) → Memᴰ c (is_same q 0 ∷ []) → c ≡ is_same q 0 = λ c k. ⊎_elim (λ e. e) (λ m. absurd (Memᴰ.not-nil m)) (Memᴰ.cases_cons k) in
    grown_trans r (with_records_grown (is_same q 0 ∷ []) (rooted w) r.fine
    (λ c k. subst (λ (d : Constraint). named d ≤ (rooted w).next) (sym (only c k)) (le_trans (same_named q) r.fine.root_low))
    (λ c k. subst Lettered (sym (only c k)) tt))
line_grown (from_root ss) w f =
    let r = (rooted_grown w f).grown in
    grown_trans r (end_grown ss (rooted w).root_at (rooted w) r.fine r.fine.root_low)
line_grown (from_here ss) w f =
    let g = next_taken_grown w f in
    grown_trans g (end_grown ss w.next (next_taken w) g.fine (next_low w))

pub lines_grown : (ps : List Path) (w : Sheet) → Fine w → Grown w (lines_sheet ps w)
unfolding lines_sheet
lines_grown [] w f = record { fine = f; next_le = le_refl _; keeps = λ c m. m }
lines_grown (p ∷ ps) w f = let g = line_grown p w f in grown_trans g (lines_grown ps (line_sheet p w) g.fine)

-- ---- the next number never falls, whatever the sheet

next_taken_next : (w : Sheet) → w.next ≤ (next_taken w).next
unfolding next_taken
next_taken_next w = omega arith

rooted_next_by : (w : Sheet) (r : Var) → w.next ≤ (rooted_by r w).next
unfolding rooted_by
rooted_next_by w zero = omega arith
rooted_next_by w (suc r) = le_refl _

pub rooted_next : (w : Sheet) → w.next ≤ (rooted w).next
unfolding rooted
rooted_next w = rooted_next_by w w.root_at

mutual
  unfolding step_sheet

  pub path_next : (p : Path) (x : Var) (w : Sheet) → w.next ≤ (path_sheet p x w).next
  path_next alone x w = rooted_next w
  path_next (from_root ss) x w = le_trans (rooted_next w) (steps_next ss (rooted w).root_at (rooted w))
  path_next (from_here ss) x w = steps_next ss x w

  pub steps_next : (ss : Steps) (x : Var) (w : Sheet) → w.next ≤ (steps_sheet ss x w).next
  steps_next (one s) x w = le_trans (next_taken_next w) (step_next s x w.next (next_taken w))
  steps_next (more s ss) x w =
      le_trans (next_taken_next w) (le_trans (step_next s x w.next (next_taken w)) (steps_next ss w.next (step_sheet s x w.next (next_taken w))))

  pub step_next : (s : Step) (x y : Var) (w : Sheet) → w.next ≤ (step_sheet s x y w).next
  step_next (move k t) x y w = le_refl _
  step_next (having s p) x y w = le_trans (step_next s x y w) (path_next p y (step_sheet s x y w))
