-- The records that are written for a text of paths (docs/FORMAT.md, "Paths"): how variables are numbered and in which order the records stand, as
-- one definition.
use Rattle.std.specs.Prelude.{List, [], ◌∷◌, ◌++◌, ℕ, zero, suc}
use Rattle.meaning.specs.Tree.{Var}
use Rattle.meaning.specs.Constraint.{Constraint, is_child, is_below, is_strictly_below, is_same, is_root, is_label, is_before}
use Rattle.meaning.specs.Files.{quad_of}
use Rattle.meaning.specs.Paths.{Axis, to_self, to_child, to_parent, to_descendant, to_ancestor, to_descendant_or_self, to_ancestor_or_self, to_following_sibling, to_preceding_sibling, Test, letter, any, Path, alone, from_root, from_here, Steps, one, more, Step, move, having}

-- what has been written so far: the next number, the root's number (0 while it has none, since 0 is never the root's), the records
pub record Sheet : Type 0 where
  pub next : Var
  pub root_at : Var
  pub records : List Constraint

-- "Variable 0 is the node where all lines end": the first number left is 1
unfoldable pub blank_sheet : Sheet
blank_sheet = record { next = 1; root_at = 0; records = [] }

-- the next number is given away
unfoldable pub next_taken : Sheet → Sheet
next_taken w = record { next = suc w.next; root_at = w.root_at; records = w.records }

unfoldable pub with_records : List Constraint → Sheet → Sheet
with_records cs w = record { next = w.next; root_at = w.root_at; records = w.records ++ cs }

-- "all roots share one", "root at the first `/` start"
unfoldable pub rooted_by : Var → Sheet → Sheet
rooted_by zero w = record { next = suc w.next; root_at = w.next; records = w.records ++ (is_root w.next ∷ []) }
rooted_by (suc r) w = w

unfoldable pub rooted : Sheet → Sheet
unfolding rooted_by
rooted w = rooted_by w.root_at w

-- "In an axis record x is the node left and y the one reached, the other way round for parent and ancestor axes"; "self is same";
-- "following-sibling and preceding-sibling, the latter with x the node reached"
unfoldable pub axis_record : Axis → Var → Var → Constraint
axis_record to_self x y = is_same x y
axis_record to_child x y = is_child x y
axis_record to_parent x y = is_child y x
axis_record to_descendant x y = is_strictly_below x y
axis_record to_ancestor x y = is_strictly_below y x
axis_record to_descendant_or_self x y = is_below x y
axis_record to_ancestor_or_self x y = is_below y x
axis_record to_following_sibling x y = is_before x y
axis_record to_preceding_sibling x y = is_before y x

-- "for each step its axis record, then any label"
unfoldable pub move_records : Axis → Test → Var → Var → List Constraint
unfolding axis_record
move_records a (letter b l) x y = axis_record a x y ∷ is_label y b ∷ []
move_records a any x y = axis_record a x y ∷ []

-- "the others are numbered as the text first reaches a start or step"
unfoldable mutual
  unfolding next_taken with_records rooted move_records

  -- a path in brackets that follow the node of x
  pub path_sheet : Path → Var → Sheet → Sheet
  path_sheet alone x w = rooted w
  path_sheet (from_root ss) x w = steps_sheet ss (rooted w).root_at (rooted w)
  path_sheet (from_here ss) x w = steps_sheet ss x w

  -- its steps from the node of x: each reaches a node of its own
  pub steps_sheet : Steps → Var → Sheet → Sheet
  steps_sheet (one s) x w = step_sheet s x w.next (next_taken w)
  steps_sheet (more s ss) x w = steps_sheet ss w.next (step_sheet s x w.next (next_taken w))

  -- a step from the node of x to that of y, then its brackets in text order
  pub step_sheet : Step → Var → Var → Sheet → Sheet
  step_sheet (move a t) x y w = with_records (move_records a t x y) w
  step_sheet (having s p) x y w = path_sheet p y (step_sheet s x y w)

-- the steps of a line from the node of x: the last one reaches the node of variable 0
unfoldable pub end_sheet : Steps → Var → Sheet → Sheet
unfolding next_taken step_sheet
end_sheet (one s) x w = step_sheet s x 0 w
end_sheet (more s ss) x w = end_sheet ss w.next (step_sheet s x w.next (next_taken w))

-- a line: "A path that starts with `/` starts at the root; another starts at any node"; "for a line that is `/` alone, same(root, 0)"
unfoldable pub line_sheet : Path → Sheet → Sheet
unfolding rooted with_records next_taken end_sheet
line_sheet alone w = with_records (is_same (rooted w).root_at 0 ∷ []) (rooted w)
line_sheet (from_root ss) w = end_sheet ss (rooted w).root_at (rooted w)
line_sheet (from_here ss) w = end_sheet ss w.next (next_taken w)

unfoldable pub lines_sheet : List Path → Sheet → Sheet
unfolding line_sheet
lines_sheet [] w = w
lines_sheet (p ∷ ps) w = lines_sheet ps (line_sheet p w)

-- the records of the lines, and how many variables they need
unfoldable pub records_of : List Path → List Constraint
unfolding lines_sheet blank_sheet
records_of ps = (lines_sheet ps blank_sheet).records

unfoldable pub variables_of : List Path → ℕ
unfolding lines_sheet blank_sheet
variables_of ps = (lines_sheet ps blank_sheet).next

-- ---- their bytes

unfoldable pub record_bytes : Constraint → List ℕ
record_bytes c = let q = quad_of c in q.first ∷ q.second ∷ q.third ∷ q.fourth ∷ []

unfoldable pub file_bytes : List Constraint → List ℕ
unfolding record_bytes
file_bytes [] = []
file_bytes (c ∷ cs) = record_bytes c ++ file_bytes cs
