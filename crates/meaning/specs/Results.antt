-- What solver, marker and path reader answer of any bytes, the lent buffer afterwards, and the number that a host program is told of each answer.
use Rattle.std.specs.Prelude.{List, ◌++◌, ℕ, ◌+◌, ◌*◌, ◌^◌, length, drop}
use Rattle.meaning.specs.Demand.{Answer, a_tree, a_none, a_spent}
use Rattle.meaning.specs.Marking.{Mark, met, unmet}

-- a refusal has the number of the first question that is answered no
pub data Solved : Type 0 where
  solver_refuses : ℕ → Solved
  solver_answers : Answer → Solved

pub data Marked : Type 0 where
  marker_refuses : ℕ → Marked
  marker_answers : Mark → Marked

-- a part that only fills a lent buffer: the bytes that it writes, or the number of the first question that is answered no
pub data Fill : Type 0 where
  fill_refused : ℕ → Fill
  fill_written : List ℕ → Fill

-- the lent buffer afterwards: only a tree writes, at the front
unfoldable pub written : Solved → List ℕ → List ℕ
written (solver_refuses q) buffer = buffer
written (solver_answers (a_none c)) buffer = buffer
written (solver_answers (a_spent c)) buffer = buffer
written (solver_answers (a_tree c bs)) buffer = bs ++ drop (length bs) buffer

-- of a part that only fills it: what is written stands at its front, or it is as it was
unfoldable pub fill_wrote : Fill → List ℕ → List ℕ
fill_wrote (fill_refused q) buffer = buffer
fill_wrote (fill_written bs) buffer = bs ++ drop (length bs) buffer

-- verdict, middle and low of a host's number
unfoldable pub told : ℕ → ℕ → ℕ → ℕ
told verdict middle low = verdict * 2 ^ 48 + middle * 2 ^ 32 + low

-- tree with the bytes written and the count, none and spent with the count, refused with the question's number
unfoldable pub solved_number : Solved → ℕ
solved_number (solver_answers (a_tree c bs)) = told 0 (length bs) c
solved_number (solver_answers (a_none c)) = told 1 0 c
solved_number (solver_answers (a_spent c)) = told 2 0 c
solved_number (solver_refuses q) = told 3 0 q

-- met, unmet with the kind and the position, refused with the question's number
unfoldable pub marked_number : Marked → ℕ
marked_number (marker_answers met) = told 0 0 0
marked_number (marker_answers (unmet position kind)) = told 1 kind position
marked_number (marker_refuses q) = told 3 0 q

-- written with how many bytes, or refused with the question's number
unfoldable pub fill_number : Fill → ℕ
fill_number (fill_written bs) = told 0 (length bs) 0
fill_number (fill_refused q) = told 3 0 q
