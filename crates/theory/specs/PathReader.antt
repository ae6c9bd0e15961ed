-- The path reader as a function of the bytes left: what it has read and the bytes after it, or nothing. With fuel, since it goes by the bytes
-- and not by a path; proofs/PathReader shows that enough fuel reads every text of the form, proofs/PathForm that nothing else is read.
use Rattle.std.specs.Prelude.{◌≡◌, refl, Bool, true, false, List, [], ◌∷◌, ℕ, zero, suc, ◌+◌, ◌*◌, length, drop, eqb, leb}
use Rattle.meaning.specs.Finite.{pick}
use Rattle.meaning.specs.Paths.{Axis, to_self, to_child, to_parent, to_descendant, to_ancestor, to_descendant_or_self, to_ancestor_or_self, to_following_sibling, to_preceding_sibling, is_small, is_letter, Test, letter, any, Path, alone, from_root, from_here, Steps, one, more, Step, move, having, axis_text}
use Rattle.meaning.specs.PathRecords.{records_of, variables_of, file_bytes}
use Rattle.meaning.specs.Results.{Fill, fill_refused, fill_written}
use Rattle.theory.specs.Reader.{Got, nothing, got, and_then, byte, front}

unfoldable pub after_name : Axis → List ℕ → Got Axis → Got Axis
after_name a bs r = pick (front bs (axis_text a)) (got a (drop (length (axis_text a)) bs)) r

-- the longer name first
unfoldable pub axis_at : List ℕ → Got Axis
axis_at bs =
    after_name to_descendant_or_self bs
    (after_name to_following_sibling bs
    (after_name to_preceding_sibling bs
    (after_name to_ancestor_or_self bs
    (after_name to_descendant bs
    (after_name to_ancestor bs
    (after_name to_parent bs
    (after_name to_child bs
    (after_name to_self bs nothing))))))))

unfoldable pub test_by : (b : ℕ) (v : Bool) → is_letter b ≡ v → List ℕ → Got Test
test_by b true e bs = got (letter b e) bs
test_by b false e bs = pick (eqb b 42) (got any bs) nothing

unfoldable pub test_at : List ℕ → Got Test
test_at bs = test_by (byte bs) (is_letter (byte bs)) refl (drop 1 bs)

-- an axis, :: and a test
unfoldable pub move_at : List ℕ → Got Step
move_at bs = and_then (axis_at bs) λ a r. pick (front r (58 ∷ 58 ∷ [])) (and_then (test_at (drop 2 r)) λ t q. got (move a t) q) nothing

-- a step begins as the name of its axis, with a small letter
unfoldable mutual
  pub path_at : ℕ → List ℕ → Got Path
  path_at zero bs = nothing
  path_at (suc k) bs =
      pick (eqb (byte bs) 47)
      (pick (is_small (byte (drop 1 bs))) (and_then (steps_at k (drop 1 bs)) λ ss r. got (from_root ss) r) (got alone (drop 1 bs)))
      (and_then (steps_at k bs) λ ss r. got (from_here ss) r)

  pub steps_at : ℕ → List ℕ → Got Steps
  steps_at zero bs = nothing
  steps_at (suc k) bs = and_then (step_at k bs) λ s r. pick (eqb (byte r) 47) (and_then (steps_at k (drop 1 r)) λ ss q. got (more s ss) q) (got (one s) r)

  pub step_at : ℕ → List ℕ → Got Step
  step_at zero bs = nothing
  step_at (suc k) bs = and_then (move_at bs) λ s r. brackets_at k s r

  -- the brackets that follow what has been read of a step
  pub brackets_at : ℕ → Step → List ℕ → Got Step
  brackets_at zero s bs = nothing
  brackets_at (suc k) s bs =
      pick (eqb (byte bs) 91) (and_then (path_at k (drop 1 bs)) λ p r. pick (eqb (byte r) 93) (brackets_at k (having s p) (drop 1 r)) nothing) (got s bs)

-- whether `/` follows the brackets that stand at the front, `depth` of which are open: the reader looks ahead so, since the last step of a line
-- has no number of its own
unfoldable pub goes_on : ℕ → List ℕ → Bool
goes_on depth [] = false
goes_on zero (b ∷ bs) = pick (eqb b 91) (goes_on 1 bs) (eqb b 47)
goes_on (suc depth) (b ∷ bs) = pick (eqb b 91) (goes_on (suc (suc depth)) bs) (pick (eqb b 93) (goes_on depth bs) (goes_on (suc depth) bs))

-- enough for a path in so many bytes
unfoldable pub fuel : List ℕ → ℕ
fuel bs = 4 * length bs + 4

-- at most so many lines, to the end of the bytes
unfoldable pub lines_at : ℕ → List ℕ → Got (List Path)
lines_at zero bs = pick (eqb (length bs) 0) (got [] []) nothing
lines_at (suc n) bs =
    pick (eqb (length bs) 0) (got [] [])
    (and_then (path_at (fuel bs) bs) λ p r. pick (eqb (byte r) 10) (and_then (lines_at n (drop 1 r)) λ ps q. got (p ∷ ps) q) nothing)

-- the paths of a text of at most 1,024 bytes and at least one line
unfoldable pub text_paths : List ℕ → Got (List Path)
text_paths text = pick (leb (length text) 1024) (and_then (lines_at 8 text) λ ps r. pick (leb 1 (length ps)) (got ps r) nothing) nothing

-- 14, or the records
unfoldable pub paths_answer : List Path → Fill
paths_answer ps = pick (leb (variables_of ps) 16) (fill_written (file_bytes (records_of ps))) (fill_refused 14)

-- 13, then 14
unfoldable pub answer_of : Got (List Path) → Fill
answer_of nothing = fill_refused 13
answer_of (got ps r) = paths_answer ps

-- 7 first
unfoldable pub read_paths : List ℕ → List ℕ → Fill
read_paths text buffer = pick (leb 1024 (length buffer)) (answer_of (text_paths text)) (fill_refused 7)
