-- Lines whose tests are made small: their text is the text with its capitals made small, their records are the records with theirs made small, and
-- they select the same nodes. By induction on the path, since of a move only the test has a letter.
use mathlib.Core.Path.{◌≡◌, refl, sym, ap, ◌∙◌, subst}
use mathlib.Core.Logic.{⊎_elim}
use mathlib.Core.List.Memᴰ
use mathlib.Core.List.{List, [], ◌∷◌, ◌++◌, map, map-append, Memᴰ}
use Prim.Native.Nat.{ℕ, zero, suc, ◌+◌, ◌<◌}
use native.Mathlib.Omega.{arith}
use lib.ListN.{length-map}
use Rattle.meaning.specs.Finite.{Yes, pick, ◌and◌}
use Rattle.meaning.specs.Tree.{Var, Node, Label, is_capital, folded, Tree}
use Rattle.meaning.specs.Constraint.{Constraint, is_child, is_below, is_strictly_below, is_same, is_differ, is_root, is_leaf, is_label, is_before}
use Rattle.meaning.specs.Ascii.{ascii}
use Rattle.meaning.specs.Files.{small_labels}
use Rattle.meaning.specs.Paths.{Axis, to_self, to_child, to_parent, to_descendant, to_ancestor, to_descendant_or_self, to_ancestor_or_self, to_following_sibling, to_preceding_sibling, is_small, is_letter, Test, letter, any, Path, alone, from_root, from_here, Steps, one, more, Step, move, having, axis_text, test_byte, path_text, steps_text, step_text, lines_text, OfForm}
use Rattle.meaning.specs.PathRecords.{Sheet, blank_sheet, next_taken, with_records, rooted_by, rooted, axis_record, move_records, path_sheet, steps_sheet, step_sheet, end_sheet, line_sheet, lines_sheet, records_of, variables_of, record_bytes, file_bytes}
use Rattle.meaning.specs.Selection.{Expr, tag, Denotes, test_expr, path_expr, steps_expr, step_expr, Selects}
use Rattle.meaning.specs.Capitals.{small_text, LinesCaseAside}
use Rattle.meaning.proofs.Tests.{and_both, or_left, le_yes}
use Rattle.meaning.proofs.Labels.{capital_range, folded_either, folded_twice, folded_blank}

-- ---- lines made small

letter_small : (b : Label) → Yes (is_letter b) → Yes (is_letter (folded b))
unfolding is_letter is_small
letter_small b l = folded_either (λ k. Yes (is_letter k)) b (λ y. or_left (is_capital (b + 32)) (small y)) (λ n. l)
  where
    small : Yes (is_capital b) → Yes (is_small (b + 32))
    small y =
        let r = capital_range b y in
        let h = r.0 in
        let k = r.1 in
        and_both (le_yes {x = 97} {y = b + 32} (omega arith)) (le_yes {x = b + 32} {y = 122} (omega arith))

abbrev small_test : Test → Test
small_test (letter b l) = letter (folded b) (letter_small b l)
small_test any = any

mutual
  pub small_path : Path → Path
  small_path alone = alone
  small_path (from_root ss) = from_root (small_steps ss)
  small_path (from_here ss) = from_here (small_steps ss)

  small_steps : Steps → Steps
  small_steps (one s) = one (small_step s)
  small_steps (more s ss) = more (small_step s) (small_steps ss)

  small_step : Step → Step
  small_step (move a t) = move a (small_test t)
  small_step (having s p) = having (small_step s) (small_path p)

-- ---- their text

axis_text_lem : (a : Axis) → small_text (axis_text a) ≡ axis_text a
unfolding axis_text ascii folded is_capital pick ◌and◌
axis_text_lem to_self = refl
axis_text_lem to_child = refl
axis_text_lem to_parent = refl
axis_text_lem to_descendant = refl
axis_text_lem to_ancestor = refl
axis_text_lem to_descendant_or_self = refl
axis_text_lem to_ancestor_or_self = refl
axis_text_lem to_following_sibling = refl
axis_text_lem to_preceding_sibling = refl

test_byte_lem : (t : Test) → folded (test_byte t) ≡ test_byte (small_test t)
unfolding test_byte folded is_capital pick ◌and◌
test_byte_lem (letter b l) = refl
test_byte_lem any = refl

-- what stands between steps, brackets and lines
marks : (folded 10 ≡ 10) × (folded 47 ≡ 47) × (folded 58 ≡ 58) × (folded 91 ≡ 91) × (folded 93 ≡ 93)
unfolding folded is_capital pick ◌and◌
marks = (refl, refl, refl, refl, refl)

mutual
  unfolding path_text small_path

  path_text_lem : (p : Path) → small_text (path_text p) ≡ path_text (small_path p)
  path_text_lem alone = rw marks.1
  path_text_lem (from_root ss) = rw (marks.1, steps_text_lem ss)
  path_text_lem (from_here ss) = steps_text_lem ss

  steps_text_lem : (ss : Steps) → small_text (steps_text ss) ≡ steps_text (small_steps ss)
  steps_text_lem (one s) = step_text_lem s
  steps_text_lem (more s ss) = rw (map-append folded (step_text s) (47 ∷ steps_text ss), marks.1, step_text_lem s, steps_text_lem ss)

  step_text_lem : (s : Step) → small_text (step_text s) ≡ step_text (small_step s)
  step_text_lem (move a t) = rw (map-append folded (axis_text a) (58 ∷ 58 ∷ test_byte t ∷ []), marks.2, axis_text_lem a, test_byte_lem t)
  step_text_lem (having s p) =
      rw (map-append folded (step_text s) (91 ∷ path_text p ++ (93 ∷ [])), map-append folded (path_text p) (93 ∷ []), marks.3, marks.4, step_text_lem s, path_text_lem p)

lines_text_lem : (ps : List Path) → small_text (lines_text ps) ≡ lines_text (map small_path ps)
unfolding lines_text
lines_text_lem [] = refl
lines_text_lem (p ∷ ps) = rw (map-append folded (path_text p) (10 ∷ lines_text ps), marks.0, path_text_lem p, lines_text_lem ps)

pub small_form : {text : List ℕ} {ps : List Path} → OfForm text ps → OfForm (small_text text) (map small_path ps)
small_form {text} {ps} f =
    let n = length-map ps small_path in
    let a = f.some_line in
    let b = f.few_lines in
    record {
      is = ap small_text f.is ∙ lines_text_lem ps;
      some_line = omega arith;
      few_lines = omega arith;
      short = let l = f.short in let m = length-map text folded in omega arith;
    }

-- ---- their records

abbrev small_record : Constraint → Constraint
small_record (is_child x y) = is_child x y
small_record (is_below x y) = is_below x y
small_record (is_strictly_below x y) = is_strictly_below x y
small_record (is_same x y) = is_same x y
small_record (is_differ x y) = is_differ x y
small_record (is_root x) = is_root x
small_record (is_leaf x) = is_leaf x
small_record (is_label x l) = is_label x (folded l)
small_record (is_before x y) = is_before x y

abbrev small_sheet : Sheet → Sheet
small_sheet w = record { next = w.next; root_at = w.root_at; records = map small_record w.records }

axis_record_lem : (a : Axis) (x y : Var) → small_record (axis_record a x y) ≡ axis_record a x y
unfolding axis_record
axis_record_lem to_self x y = refl
axis_record_lem to_child x y = refl
axis_record_lem to_parent x y = refl
axis_record_lem to_descendant x y = refl
axis_record_lem to_ancestor x y = refl
axis_record_lem to_descendant_or_self x y = refl
axis_record_lem to_ancestor_or_self x y = refl
axis_record_lem to_following_sibling x y = refl
axis_record_lem to_preceding_sibling x y = refl

move_records_lem : (a : Axis) (t : Test) (x y : Var) → map small_record (move_records a t x y) ≡ move_records a (small_test t) x y
unfolding move_records
move_records_lem a (letter b l) x y = rw (axis_record_lem a x y)
move_records_lem a any x y = rw (axis_record_lem a x y)

with_small : (cs : List Constraint) (w : Sheet) → with_records (map small_record cs) (small_sheet w) ≡ small_sheet (with_records cs w)
unfolding with_records
with_small cs w = rw (map-append small_record w.records cs)

rooted_small : (w : Sheet) → rooted (small_sheet w) ≡ small_sheet (rooted w)
unfolding rooted rooted_by
rooted_small w = by w.root_at
  where
    by : (r : Var) → rooted_by r (small_sheet w) ≡ small_sheet (rooted_by r w)
    by zero = rw (map-append small_record w.records (is_root w.next ∷ []))
    by (suc r) = refl

mutual
  unfolding path_sheet small_path next_taken

  path_sheet_lem : (p : Path) (x : Var) (w : Sheet) → path_sheet (small_path p) x (small_sheet w) ≡ small_sheet (path_sheet p x w)
  path_sheet_lem alone x w = rooted_small w
  path_sheet_lem (from_root ss) x w = ap (λ (v : Sheet). steps_sheet (small_steps ss) v.root_at v) (rooted_small w) ∙ steps_sheet_lem ss (rooted w).root_at (rooted w)
  path_sheet_lem (from_here ss) x w = steps_sheet_lem ss x w

  steps_sheet_lem : (ss : Steps) (x : Var) (w : Sheet) → steps_sheet (small_steps ss) x (small_sheet w) ≡ small_sheet (steps_sheet ss x w)
  steps_sheet_lem (one s) x w = step_sheet_lem s x w.next (next_taken w)
  steps_sheet_lem (more s ss) x w =
      ap (steps_sheet (small_steps ss) w.next) (step_sheet_lem s x w.next (next_taken w)) ∙ steps_sheet_lem ss w.next (step_sheet s x w.next (next_taken w))

  step_sheet_lem : (s : Step) (x y : Var) (w : Sheet) → step_sheet (small_step s) x y (small_sheet w) ≡ small_sheet (step_sheet s x y w)
  step_sheet_lem (move a t) x y w = ap (λ (cs : List Constraint). with_records cs (small_sheet w)) (sym (move_records_lem a t x y)) ∙ with_small (move_records a t x y) w
  step_sheet_lem (having s p) x y w = ap (path_sheet (small_path p) y) (step_sheet_lem s x y w) ∙ path_sheet_lem p y (step_sheet s x y w)

end_sheet_lem : (ss : Steps) (x : Var) (w : Sheet) → end_sheet (small_steps ss) x (small_sheet w) ≡ small_sheet (end_sheet ss x w)
unfolding end_sheet small_steps next_taken
end_sheet_lem (one s) x w = step_sheet_lem s x 0 w
end_sheet_lem (more s ss) x w =
    ap (end_sheet (small_steps ss) w.next) (step_sheet_lem s x w.next (next_taken w)) ∙ end_sheet_lem ss w.next (step_sheet s x w.next (next_taken w))

line_sheet_lem : (p : Path) (w : Sheet) → line_sheet (small_path p) (small_sheet w) ≡ small_sheet (line_sheet p w)
unfolding line_sheet small_path next_taken
line_sheet_lem alone w =
    ap (λ (v : Sheet). with_records (is_same v.root_at 0 ∷ []) v) (rooted_small w) ∙ with_small (is_same (rooted w).root_at 0 ∷ []) (rooted w)
line_sheet_lem (from_root ss) w = ap (λ (v : Sheet). end_sheet (small_steps ss) v.root_at v) (rooted_small w) ∙ end_sheet_lem ss (rooted w).root_at (rooted w)
line_sheet_lem (from_here ss) w = end_sheet_lem ss w.next (next_taken w)

lines_sheet_lem : (ps : List Path) (w : Sheet) → lines_sheet (map small_path ps) (small_sheet w) ≡ small_sheet (lines_sheet ps w)
unfolding lines_sheet
lines_sheet_lem [] w = refl
lines_sheet_lem (p ∷ ps) w = ap (lines_sheet (map small_path ps)) (line_sheet_lem p w) ∙ lines_sheet_lem ps (line_sheet p w)

record_bytes_lem : (c : Constraint) (bs : List ℕ) → record_bytes (small_record c) ++ small_labels bs ≡ small_labels (record_bytes c ++ bs)
unfolding record_bytes small_labels
record_bytes_lem (is_child x y) bs = rw folded_blank
record_bytes_lem (is_below x y) bs = rw folded_blank
record_bytes_lem (is_strictly_below x y) bs = rw folded_blank
record_bytes_lem (is_same x y) bs = rw folded_blank
record_bytes_lem (is_differ x y) bs = rw folded_blank
record_bytes_lem (is_root x) bs = rw folded_blank
record_bytes_lem (is_leaf x) bs = rw folded_blank
record_bytes_lem (is_label x l) bs = refl
record_bytes_lem (is_before x y) bs = rw folded_blank

file_bytes_lem : (cs : List Constraint) → file_bytes (map small_record cs) ≡ small_labels (file_bytes cs)
unfolding file_bytes small_labels
file_bytes_lem [] = refl
file_bytes_lem (c ∷ cs) = rw (file_bytes_lem cs, record_bytes_lem c (file_bytes cs))

pub lines_records : (ps : List Path) → file_bytes (records_of (map small_path ps)) ≡ small_labels (file_bytes (records_of ps))
unfolding records_of blank_sheet
lines_records ps = ap (λ (w : Sheet). file_bytes w.records) (lines_sheet_lem ps blank_sheet) ∙ file_bytes_lem (records_of ps)

pub lines_variables : (ps : List Path) → variables_of (map small_path ps) ≡ variables_of ps
unfolding variables_of blank_sheet
lines_variables ps = ap (λ (w : Sheet). w.next) (lines_sheet_lem ps blank_sheet)

-- ---- what they select

module _ (t : Tree) where
  abbrev Leads : Expr → Node → Node → Type 0
  Leads = Denotes t

  over_alike : {d e f g : Node → Node → Type 0} → d ≡ e → f ≡ g
      → ◌≡◌ {A = Node → Node → Type 0} (λ n m. (k : Node) × (k < t.size) × d n k × f k m) (λ n m. (k : Node) × (k < t.size) × e n k × g k m)
  over_alike a b = λ i n m. (k : Node) × (k < t.size) × a i n k × b i k m

  filter_alike : {d e f g : Node → Node → Type 0} → d ≡ e → f ≡ g
      → ◌≡◌ {A = Node → Node → Type 0} (λ n m. d n m × ((k : Node) × (k < t.size) × f m k)) (λ n m. e n m × ((k : Node) × (k < t.size) × g m k))
  filter_alike a b = λ i n m. a i n m × ((k : Node) × (k < t.size) × b i m k)

  tag_alike : (l : Label) → Leads (tag (folded l)) ≡ Leads (tag l)
  tag_alike l = λ i n m. (n ≡ m) × (folded (t.label n) ≡ folded_twice l i)

  test_alike : (k : Test) (e : Expr) → Leads (test_expr (small_test k) e) ≡ Leads (test_expr k e)
  unfolding test_expr
  test_alike (letter b l) e = over_alike refl (tag_alike b)
  test_alike any e = refl

  mutual
    unfolding path_expr small_path

    path_alike : (p : Path) → Leads (path_expr (small_path p)) ≡ Leads (path_expr p)
    path_alike alone = refl
    path_alike (from_root ss) = over_alike refl (steps_alike ss)
    path_alike (from_here ss) = steps_alike ss

    steps_alike : (ss : Steps) → Leads (steps_expr (small_steps ss)) ≡ Leads (steps_expr ss)
    steps_alike (one s) = step_alike s
    steps_alike (more s ss) = over_alike (step_alike s) (steps_alike ss)

    step_alike : (s : Step) → Leads (step_expr (small_step s)) ≡ Leads (step_expr s)
    step_alike (move a k) = test_alike k _
    step_alike (having s p) = filter_alike (step_alike s) (path_alike p)

  selects_alike : (v : Node) (p q : Path) → small_path p ≡ small_path q → Selects t p v → Selects t q v
  selects_alike v p q e s =
      let alike : Leads (path_expr p) ≡ Leads (path_expr q) = sym (path_alike p) ∙ ap (λ (r : Path). Leads (path_expr r)) e ∙ path_alike q in
      record { start = s.start; inside = s.inside; leads = coe 0 1 (i. alike i s.start v) s.leads }

  every_alike : (v : Node) (ps qs : List Path) → map small_path ps ≡ map small_path qs
      → ((p : Path) → Memᴰ p ps → Selects t p v) → (q : Path) → Memᴰ q qs → Selects t q v
  every_alike v [] [] e h q m = absurd (Memᴰ.not-nil m)
  every_alike v [] (r ∷ qs) e h q m = absurd (let z : ◌≡◌ {A = ℕ} 0 1 = cc in omega arith)
  every_alike v (p ∷ ps) [] e h q m = absurd (Memᴰ.not-nil m)
  every_alike v (p ∷ ps) (r ∷ qs) e h q m =
      ⊎_elim (λ d. subst (λ (o : Path). Selects t o v) (sym d) (selects_alike v p r (cc) (h p (Memᴰ.head refl))))
      (λ k. every_alike v ps qs (cc) (λ o l. h o (Memᴰ.tail l)) q k)
      (Memᴰ.cases_cons m)

pub lines_aside : (ps qs : List Path) → map small_path ps ≡ map small_path qs → LinesCaseAside ps qs
lines_aside ps qs e = record {
  variables = sym (lines_variables ps) ∙ ap variables_of e ∙ lines_variables qs;
  records = sym (lines_records ps) ∙ ap (λ (rs : List Path). file_bytes (records_of rs)) e ∙ lines_records qs;
  selected = λ t v. (every_alike t v ps qs e, every_alike t v qs ps (sym e));
}
