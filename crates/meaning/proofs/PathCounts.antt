-- How many variables and records the lines need: the variables of the records are the numbers given away, since each is named by a record, and
-- a number brings two records at most, so that the records are few.
use mathlib.Core.Path.{◌≡◌, refl}
use mathlib.Core.List.{List, [], ◌∷◌, ◌++◌}
use Prim.Native.Nat.{ℕ, zero, suc, max, ◌+◌, ◌*◌, ◌≤◌, ◌<◌}
use native.Mathlib.Nat.{le_refl, le_antisymm}
use native.Mathlib.Omega.{arith}
use lib.ListN.{length, length-append}
use Rattle.meaning.specs.Tree.{Var}
use Rattle.meaning.specs.Constraint.{Constraint, is_same, is_root, named, vars}
use Rattle.meaning.specs.Paths.{Axis, Test, letter, any, Path, alone, from_root, from_here, Steps, one, more, Step, move, having}
use Rattle.meaning.specs.PathRecords.{Sheet, blank_sheet, next_taken, with_records, rooted_by, rooted, move_records, path_sheet, steps_sheet, step_sheet, end_sheet, line_sheet, lines_sheet, records_of, variables_of}
use Rattle.meaning.proofs.Constraints.{named_most, vars_least}
use Rattle.meaning.proofs.PathSheets.{move_vars, Fine, blank_fine, line_grown, lines_grown}

vars_append : (cs ds : List Constraint) → vars (cs ++ ds) ≡ max (vars cs) (vars ds)
unfolding vars
vars_append [] ds = omega arith
vars_append (c ∷ cs) ds = let e = vars_append cs ds in omega arith

-- each number given away is named by a record, and each brings two records at most; `extra` are the records that bring no number
record Counted (extra : ℕ) (w v : Sheet) : Type 0 where
  covered : v.next ≤ vars v.records
  short : length v.records + 2 * w.next ≤ length w.records + 2 * v.next + extra

counted_trans : {j k : ℕ} {u w v : Sheet} → Counted j u w → Counted k w v → Counted (j + k) u v
counted_trans c d = record { covered = d.covered; short = let g = c.short in let h = d.short in omega arith }

move_length : (k : Axis) (q : Test) (x y : Var) → length (move_records k q x y) ≤ 2
unfolding move_records
move_length k (letter b l) x y = le_refl _
move_length k any x y = omega arith

move_counted : (k : Axis) (q : Test) (x y : Var) (w : Sheet) → w.next ≤ max (vars w.records) (suc (max x y)) → Counted 2 w (with_records (move_records k q x y) w)
unfolding with_records
move_counted k q x y w h = record {
  covered = let e = vars_append w.records (move_records k q x y) in let d = move_vars k q x y in omega arith;
  short = let e = length-append w.records (move_records k q x y) in let d = move_length k q x y in omega arith;
}

-- a start at the root: before it all numbers are named, if the root has one
rooted_by_lem : (w : Sheet) (r : Var) → w.root_at ≡ r → (0 < w.root_at → w.next ≤ vars w.records) → Counted 0 w (rooted_by r w)
unfolding rooted_by vars named
rooted_by_lem w zero e h = record {
  covered = let d = vars_append w.records (is_root w.next ∷ []) in omega arith;
  short = let d = length-append w.records (is_root w.next ∷ []) in omega arith;
}
rooted_by_lem w (suc r) e h = record { covered = h (omega arith); short = omega arith }

rooted_counted : (w : Sheet) → (0 < w.root_at → w.next ≤ vars w.records) → Counted 0 w (rooted w)
unfolding rooted
rooted_counted w h = rooted_by_lem w w.root_at refl h

-- a step to a variable that is numbered for it
next_taken_counted : {w v : Sheet} → Counted 2 (next_taken w) v → Counted 0 w v
unfolding next_taken
next_taken_counted c = record { covered = c.covered; short = let h = c.short in omega arith }

-- before a step to y from x all numbers but these are named
abbrev Named : Sheet → Var → Type 0
Named w x = w.next ≤ max (vars w.records) (suc x)

fresh_named : (w : Sheet) (x : Var) → Named (next_taken w) (max x w.next)
unfolding next_taken
fresh_named w x = omega arith

named_next : (v : Sheet) (x : Var) → v.next ≤ vars v.records → Named v x
named_next v x h = omega arith

mutual
  unfolding step_sheet

  path_counted : (p : Path) (x : Var) (w : Sheet) → w.next ≤ vars w.records → Counted 0 w (path_sheet p x w)
  path_counted alone x w h = rooted_counted w (λ _. h)
  path_counted (from_root ss) x w h =
      let c = rooted_counted w (λ _. h) in
      counted_trans c (steps_counted ss (rooted w).root_at (rooted w) (named_next (rooted w) (rooted w).root_at c.covered))
  path_counted (from_here ss) x w h = steps_counted ss x w (named_next w x h)

  steps_counted : (ss : Steps) (x : Var) (w : Sheet) → Named w x → Counted 0 w (steps_sheet ss x w)
  steps_counted (one s) x w h = next_taken_counted (step_counted s x w.next (next_taken w) (fresh_named w x))
  steps_counted (more s ss) x w h =
      let c = next_taken_counted (step_counted s x w.next (next_taken w) (fresh_named w x)) in
      let v = step_sheet s x w.next (next_taken w) in
      counted_trans c (steps_counted ss w.next v (named_next v w.next c.covered))

  step_counted : (s : Step) (x y : Var) (w : Sheet) → Named w (max x y) → Counted 2 w (step_sheet s x y w)
  step_counted (move k q) x y w h = move_counted k q x y w h
  step_counted (having s p) x y w h =
      let c = step_counted s x y w h in counted_trans c (path_counted p y (step_sheet s x y w) c.covered)

end_counted : (ss : Steps) (x : Var) (w : Sheet) → Named w x → Counted 2 w (end_sheet ss x w)
unfolding end_sheet
end_counted (one s) x w h = step_counted s x 0 w (let k : w.next ≤ max (vars w.records) (suc x) = h in omega arith)
end_counted (more s ss) x w h =
    let c = next_taken_counted (step_counted s x w.next (next_taken w) (fresh_named w x)) in
    let v = step_sheet s x w.next (next_taken w) in
    counted_trans c (end_counted ss w.next v (named_next v w.next c.covered))

-- the first line finds a blank sheet
abbrev Begun : Sheet → Type 0
Begun w = w.next ≤ max 1 (vars w.records)

begun_rooted : (w : Sheet) → Fine w → Begun w → 0 < w.root_at → w.next ≤ vars w.records
unfolding named
begun_rooted w f h l =
    let d : suc w.root_at ≤ vars w.records = named_most w.records (is_root w.root_at) (f.recorded l) in omega arith

line_counted : (p : Path) (w : Sheet) → Fine w → Begun w → Counted 2 w (line_sheet p w)
unfolding line_sheet with_records next_taken
line_counted alone w f h =
    let c = rooted_counted w (begun_rooted w f h) in
    let q = (rooted w).root_at in
    record {
      covered = let d = vars_append (rooted w).records (is_same q 0 ∷ []) in let e = c.covered in omega arith;
      short = let d = length-append (rooted w).records (is_same q 0 ∷ []) in let e = c.short in omega arith;
    }
line_counted (from_root ss) w f h =
    let c = rooted_counted w (begun_rooted w f h) in
    counted_trans c (end_counted ss (rooted w).root_at (rooted w) (named_next (rooted w) (rooted w).root_at c.covered))
line_counted (from_here ss) w f h =
    let c = end_counted ss w.next (next_taken w) (omega arith) in
    record { covered = c.covered; short = let d = c.short in omega arith }

blank_begun : Begun blank_sheet
unfolding blank_sheet vars
blank_begun = le_refl _

blank_short : (v : Sheet) (k : ℕ) → length v.records + 2 * blank_sheet.next ≤ length blank_sheet.records + 2 * v.next + k → length v.records + 2 ≤ 2 * v.next + k
unfolding blank_sheet
blank_short v k h = omega arith

covered_begun : (w : Sheet) → w.next ≤ vars w.records → Begun w
covered_begun w h = omega arith

lines_covered : (ps : List Path) (w : Sheet) → Fine w → w.next ≤ vars w.records → (lines_sheet ps w).next ≤ vars (lines_sheet ps w).records
unfolding lines_sheet
lines_covered [] w f h = h
lines_covered (p ∷ ps) w f h = lines_covered ps (line_sheet p w) (line_grown p w f).fine (line_counted p w f (covered_begun w h)).covered

lines_short : (ps : List Path) (w : Sheet) → Fine w → Begun w → length (lines_sheet ps w).records + 2 * w.next ≤ length w.records + 2 * (lines_sheet ps w).next + 2 * length ps
unfolding lines_sheet
lines_short [] w f h = omega arith
lines_short (p ∷ ps) w f h =
    let c = line_counted p w f h in
    let d = lines_short ps (line_sheet p w) (line_grown p w f).fine (covered_begun (line_sheet p w) c.covered) in
    let s = c.short in
    omega arith

-- ---- from a blank sheet

-- "Variable 0 is the node where all lines end; the others are numbered ..": the numbers given away are the variables of the records
pub variables_are : (ps : List Path) → 1 ≤ length ps → variables_of ps ≡ vars (records_of ps)
unfolding variables_of records_of lines_sheet
variables_are [] l = absurd (omega arith)
variables_are (p ∷ ps) l =
    le_antisymm
    (lines_covered ps (line_sheet p blank_sheet) (line_grown p blank_sheet blank_fine).fine (line_counted p blank_sheet blank_fine blank_begun).covered)
    (vars_least _ _ (lines_grown ps (line_sheet p blank_sheet) (line_grown p blank_sheet blank_fine).fine).fine.low)

-- two records for each variable but the first, and two for each line
pub records_few : (ps : List Path) → length (records_of ps) + 2 ≤ 2 * variables_of ps + 2 * length ps
unfolding variables_of records_of lines_sheet
records_few ps = blank_short (lines_sheet ps blank_sheet) (2 * length ps) (lines_short ps blank_sheet blank_fine blank_begun)

-- the start of a first line has a number, and at most one record
first_short : (p : Path) → length (line_sheet p blank_sheet).records + 2 ≤ 2 * (line_sheet p blank_sheet).next + 1
unfolding line_sheet with_records next_taken rooted rooted_by blank_sheet
first_short alone = omega arith
first_short (from_root ss) =
    let w = rooted blank_sheet in
    let c = (end_counted ss 1 w (named_next w 1 (rooted_counted blank_sheet (begun_rooted blank_sheet blank_fine blank_begun)).covered)).short in omega (arith, c)
first_short (from_here ss) = let c = (end_counted ss 1 (next_taken blank_sheet) (omega arith)).short in omega (arith, c)

-- so there is one record less
pub records_most : (ps : List Path) → 1 ≤ length ps → length (records_of ps) + 3 ≤ 2 * variables_of ps + 2 * length ps
unfolding variables_of records_of lines_sheet
records_most [] l = absurd (omega arith)
records_most (p ∷ ps) l =
    let v = line_sheet p blank_sheet in
    let c = lines_short ps v (line_grown p blank_sheet blank_fine).fine (covered_begun v (line_counted p blank_sheet blank_fine blank_begun).covered) in
    let f = first_short p in
    omega arith
