-- The text of the code's verdict is that of the answer that is promised.
use mathlib.Core.Path.{◌≡◌, refl, ap, subst}
use mathlib.Core.List.{List}
use Prim.Native.Nat.{ℕ, ◌≤◌}
use native.Mathlib.Omega.{arith}
use lib.ListN.{take}
use lib.Seq.{take-append_seam}
use Rattle.meaning.specs.Demand.{a_tree, a_none, a_spent}
use Rattle.meaning.specs.Results.{Solved, solver_refuses, solver_answers, written}
use Rattle.meaning.specs.Promises.{SolverPromise}
use Rattle.meaning.specs.Text.{solved_text}
use Rattle.theory.specs.Programs.{solver}
use Rattle.solver.specs.Solving.{VerdictOf, SolverOf}
use Rattle.solver.specs.declared.Verdict.{Verdict}
use Rattle.solver.specs.declared.Verdict.TheVariants.{Tree, None, Spent, Refused}
use Rattle.solver.proofs.Short.{bytes_few}
use Rattle.text.specs.Verdicts.{solver_text, bytes_of}

text_of : (s : Solved) (r : Verdict) (buffer : List ℕ) → VerdictOf s r → solver_text r
    (take (bytes_of r) (written s buffer)) ≡ solved_text s
unfolding solver_text bytes_of written
text_of (solver_answers (a_tree c bs)) r buffer v = rw v
    (ap (λ (l : List ℕ). solved_text (solver_answers (a_tree c l))) (take-append_seam bs _))
text_of (solver_answers (a_none c)) r buffer v = rw v
text_of (solver_answers (a_spent c)) r buffer v = rw v
text_of (solver_refuses q) r buffer v = rw v.1 (ap (λ (n : ℕ). solved_text (solver_refuses n)) v.2)

module _ (A : ℕ) (file buffer : List ℕ) (r : Verdict) (after : List ℕ) (w : SolverOf A file buffer r after) where
  pub solver_text_lem : solver_text r (take (bytes_of r) after) ≡ solved_text (solver A file buffer)
  solver_text_lem = rw w.wrote (text_of (solver A file buffer) r buffer w.verdict)

  pub bytes_most : bytes_of r ≤ 136
  unfolding bytes_of
  bytes_most = by r refl
    where
      by : (v : Verdict) → r ≡ v → bytes_of r ≤ 136
      by (Tree b c) d = let few = bytes_few A file buffer r after w d in let z : bytes_of r ≡ b = ap bytes_of d in
          omega arith
      by (None c) d = let z : bytes_of r ≡ 0 = ap bytes_of d in omega arith
      by (Spent c) d = let z : bytes_of r ≡ 0 = ap bytes_of d in omega arith
      by (Refused q) d = let z : bytes_of r ≡ 0 = ap bytes_of d in omega arith

  pub promised : SolverPromise A file buffer (solver A file buffer) (written (solver A file buffer) buffer)
  promised = subst (SolverPromise A file buffer (solver A file buffer)) w.wrote w.promise
