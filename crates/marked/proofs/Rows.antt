-- A row holds if its files are bytes, its buffers are of one side of question 7, and computing gives its result.
use mathlib.Core.Path.{◌≡◌, refl, ap, sym, subst, ◌∙◌}
use mathlib.Core.Logic.{⊎_elim}
use mathlib.Core.Bool.{Bool, true}
use mathlib.Core.List.Memᴰ
use mathlib.Core.List.{List, [], ◌∷◌}
use Prim.Native.Nat.{ℕ, ◌≤◌}
use native.Mathlib.Nat.{le_trans}
use lib.ListN.{length, replicate, length-replicate}
use lib.Dec.{leb}
use Rattle.meaning.specs.Finite.{Yes, pick, ◌and◌}
use Rattle.meaning.specs.Constraint.{vars}
use Rattle.meaning.specs.Files.{Judged, refused, accepted, judge}
use Rattle.meaning.specs.Results.{Solved, solver_refuses, solver_answers, Marked, written}
use Rattle.meaning.specs.Promises.{SolverPromise, MarkerPromise}
use Rattle.meaning.proofs.Tests.{and_left, and_right, is_le, le_yes}
use Rattle.theory.specs.Solve.{solve}
use Rattle.theory.specs.Programs.{solved_by, solver, marker}
use Rattle.theory.proofs.ConstraintFile.{Bytes}
use Rattle.theory.proofs.Promises.{solver_promise, solver_promise_unique, marker_promise, marker_promise_unique}
use Rattle.marked.specs.Table.{Room, exactly, at_least, Lent, Row, solving, marking, OnlySolved, OnlyMarked, Holds}

-- ---- the files are bytes

unfoldable pub small : List ℕ → Bool
small [] = true
small (b ∷ bs) = leb b 255 and small bs

small_bytes : (bs : List ℕ) → Yes (small bs) → Bytes bs
unfolding small
small_bytes [] t b m = absurd (Memᴰ.not-nil m)
small_bytes (c ∷ cs) t b m =
    ⊎_elim (λ (e : b ≡ c). subst (λ (i : ℕ). i ≤ 255) (sym e) (is_le (and_left _ t))) (λ k. small_bytes cs (and_right _ t) b k) (Memᴰ.cases_cons m)

-- ---- of a buffer the solver asks only whether it passes question 7

same_room : (A : ℕ) (j : Judged) (b c : List ℕ) → leb 136 (length b) ≡ leb 136 (length c) → solved_by A j b ≡ solved_by A j c
unfolding solved_by
same_room A (refused q) b c e = refl
same_room A (accepted cs) b c e = ap (λ (t : Bool). pick t (solver_answers (solve A (vars cs) cs)) (solver_refuses 7)) e

-- all buffers of this room are of one side
unfoldable pub sided : Room → Bool
sided (exactly k) = true
sided (at_least k) = leb 136 k

-- a buffer of this room
unfoldable pub sample : Room → List ℕ
sample (exactly k) = replicate k 0
sample (at_least k) = replicate k 0

sample_side : (room : Room) → Yes (sided room) → (b : List ℕ) → Lent room b → leb 136 (length b) ≡ leb 136 (length (sample room))
unfolding sided sample
sample_side (exactly k) s b l = ap (leb 136) (l ∙ sym (length-replicate k 0))
sample_side (at_least k) s b l = le_yes (le_trans (is_le s) l) ∙ sym (ap (leb 136) (length-replicate k 0) ∙ s)

-- ---- a row from what is computed of it

pub data Seen : Type 0 where
  seen_solved : Bool → Bool → Solved → Seen
  seen_marked : Bool → Marked → Seen

unfoldable pub computed : Row → Seen
computed (solving file A room r) = seen_solved (small file) (sided room) (solver A file (sample room))
computed (marking file answer r) = seen_marked (small answer) (marker file answer)

unfoldable pub stated : Row → Seen
stated (solving file A room r) = seen_solved true true r
stated (marking file answer r) = seen_marked true r

only_solved : (A : ℕ) (file buffer : List ℕ) (r : Solved) → Bytes file → solver A file buffer ≡ r → OnlySolved A file buffer r
only_solved A file buffer r b e = record {
  promised = subst (λ (t : Solved). SolverPromise A file buffer t (written t buffer)) e (solver_promise A file buffer b);
  only = λ {s} {after} p. let u = solver_promise_unique A file buffer s after p in (u.0 ∙ e, u.1 ∙ ap (λ (t : Solved). written t buffer) e);
}

only_marked : (file answer : List ℕ) (r : Marked) → Bytes answer → marker file answer ≡ r → OnlyMarked file answer r
only_marked file answer r b e = record {
  promised = subst (MarkerPromise file answer) e (marker_promise file answer b);
  only = λ {s} p. marker_promise_unique file answer s b p ∙ e;
}

pub row_holds : (r : Row) → computed r ≡ stated r → Holds r
unfolding computed stated solver
row_holds (solving file A room r) e =
    λ buffer l. only_solved A file buffer r (small_bytes file (cc)) (same_room A (judge file) buffer (sample room) (sample_side room (cc) buffer l) ∙ (cc))
row_holds (marking file answer r) e = only_marked file answer r (small_bytes answer (cc)) (cc)
