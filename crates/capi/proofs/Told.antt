-- What C is told of an answer, taken apart, and of two files that get one answer.
use mathlib.Core.Path.{◌≡◌, refl, sym, ap, ◌∙◌, subst}
use mathlib.Core.List.{List, [], ◌++◌}
use Prim.Native.Nat.{ℕ, ◌≤◌}
use native.Mathlib.Decide.{dec_le}
use native.Mathlib.Omega.{arith}
use lib.ListN.{length, drop}
use Rattle.meaning.specs.Constraint.{Constraint, vars}
use Rattle.meaning.specs.Demand.{Answer, a_tree, a_none, a_spent}
use Rattle.meaning.specs.Files.{Judged, refused, accepted, judge}
use Rattle.meaning.specs.Results.{Solved, solver_refuses, solver_answers, written, told, solved_number}
use Rattle.meaning.specs.Promises.{Answered, SolverPromise, SameRoom, OneAnswer}
use Rattle.meaning.proofs.Records.{refused_small}
use Rattle.meaning.proofs.Said.{answered, count_within}
use Rattle.capi.specs.Solves.{Solves}
use Rattle.capi.specs.Told.{verdict, middle, ToldSame}

-- ---- a result taken apart

-- what an answer puts at the front of the buffer
unfoldable pub front_of : Solved → List ℕ
front_of (solver_refuses q) = []
front_of (solver_answers (a_tree c bs)) = bs
front_of (solver_answers (a_none c)) = []
front_of (solver_answers (a_spent c)) = []

pub written_front : (r : Solved) (buffer : List ℕ) → written r buffer ≡ front_of r ++ drop (length (front_of r)) buffer
unfolding written front_of
written_front (solver_refuses q) buffer = refl
written_front (solver_answers (a_tree c bs)) buffer = refl
written_front (solver_answers (a_none c)) buffer = refl
written_front (solver_answers (a_spent c)) buffer = refl

abbrev pub verdict_number : Solved → ℕ
verdict_number (solver_answers (a_tree c bs)) = 0
verdict_number (solver_answers (a_none c)) = 1
verdict_number (solver_answers (a_spent c)) = 2
verdict_number (solver_refuses q) = 3

-- the parts of the number fit their places
abbrev pub Fits : Solved → Type 0
Fits (solver_answers (a_tree c bs)) = (c ≤ 4294967295) × (length bs ≤ 136)
Fits (solver_answers (a_none c)) = c ≤ 4294967295
Fits (solver_answers (a_spent c)) = c ≤ 4294967295
Fits (solver_refuses q) = q ≤ 7

pub middle_is : (r : Solved) → Fits r → middle (solved_number r) ≡ length (front_of r)
unfolding middle solved_number told front_of
middle_is (solver_answers (a_tree c bs)) f = let l = f.0 in let k = f.1 in omega arith
middle_is (solver_answers (a_none c)) f = omega arith
middle_is (solver_answers (a_spent c)) f = omega arith
middle_is (solver_refuses q) f = omega arith

pub verdict_is : (r : Solved) → Fits r → verdict (solved_number r) ≡ verdict_number r
unfolding verdict solved_number told
verdict_is (solver_answers (a_tree c bs)) f = let l = f.0 in let k = f.1 in omega arith
verdict_is (solver_answers (a_none c)) f = omega arith
verdict_is (solver_answers (a_spent c)) f = omega arith
verdict_is (solver_refuses q) f = omega arith

module _ {A : ℕ} {file buffer after : List ℕ} {r : Solved} (most : A ≤ 4294967295) (p : SolverPromise A file buffer r after) where
  refusal_fits : {q : ℕ} → q ≤ 7 → r ≡ solver_refuses q → Fits r
  refusal_fits l e = subst Fits (sym e) l

  answer_fits : {cs : List Constraint} → judge file ≡ accepted cs → {a : Answer} → r ≡ solver_answers a → Fits r
  answer_fits {cs} e {a} q = let w = (answered p e q).1 in subst Fits (sym q) (by a w)
    where
      by : (b : Answer) → Answered A (vars cs) cs b → Fits (solver_answers b)
      by (a_tree c bs) w = let l = count_within w.demand_3 in (omega arith, (w.good_file refl).short)
      by (a_none c) w = let l = count_within w.demand_3 in omega arith
      by (a_spent c) w = let l = count_within w.demand_3 in omega arith

  pub fits : Fits r
  fits = by (judge file) refl
    where
      by : (j : Judged) → judge file ≡ j → Fits r
      by (refused q) e = let l = refused_small file e in refusal_fits (omega arith) (p.refuses e)
      by (accepted cs) e = go (dec_le 136 (length buffer))
        where
          go : Dec (136 ≤ length buffer) → Fits r
          go (yes l) = answer_fits e (p.answers e l).1
          go (no l) = refusal_fits (omega arith) (p.short_buffer e (omega arith))

-- ---- two files

-- allowances are of 32 bits
pub told_one : {A r s : ℕ} {file other buffer after lent later : List ℕ} → A ≤ 4294967295 → OneAnswer file other → SameRoom buffer lent
    → Solves A file buffer r after → Solves A other lent s later → ToldSame buffer after lent later r s
told_one {buffer = buffer} {lent = lent} most one room u v =
    let w = one.answers room u.promise v.promise in
    record {
      number = v.number ∙ ap solved_number w.0 ∙ sym u.number;
      front = front_of _;
      as_told = sym (middle_is _ (fits most u.promise)) ∙ ap middle (sym u.number);
      wrote = w.1 ∙ written_front _ buffer;
      other_wrote = w.2 ∙ written_front _ lent;
    }
