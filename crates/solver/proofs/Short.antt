-- A tree's answer file is short: at most 136 bytes are told as written.
use mathlib.Core.Path.{◌≡◌, refl, ap, subst, ◌∙◌}
use mathlib.Core.List.{List}
use Prim.Native.Nat.{ℕ, ◌≤◌}
use native.Mathlib.Decide.{dec_le}
use native.Mathlib.Omega.{arith}
use lib.ListN.{length}
use Rattle.meaning.specs.Demand.{a_tree, a_none, a_spent}
use Rattle.meaning.specs.Files.{Judged, refused, accepted, judge}
use Rattle.meaning.specs.Results.{Solved, solver_refuses, solver_answers}
use Rattle.theory.specs.Programs.{solver}
use Rattle.solver.specs.Solving.{VerdictOf, SolverOf}
use Rattle.solver.specs.declared.Verdict.{Verdict}
use Rattle.solver.specs.declared.Verdict.TheVariants.{Tree, None, Spent, Refused}

module _ (A : ℕ) (file buffer : List ℕ) (r : Verdict) (after : List ℕ) (w : SolverOf A file buffer r after) where
  pub bytes_few : {b c : ℕ} → r ≡ Tree b c → b ≤ 136
  bytes_few {b} {c} e = by (solver A file buffer) refl
    where
      short : (bs : List ℕ) → solver A file buffer ≡ solver_answers (a_tree c bs) → length bs ≤ 136
      short bs q = go (judge file) refl
        where
          go : (j : Judged) → judge file ≡ j → length bs ≤ 136
          go (refused p) d = let x = w.promise.refuses d in let z : ◌≡◌ {A = ℕ} 0 1 = cc in absurd (omega arith)
          go (accepted cs) d = room (dec_le 136 (length buffer))
            where
              room : Dec (136 ≤ length buffer) → length bs ≤ 136
              room (yes l) =
                  let x = w.promise.answers d l in
                  let y : x.0 ≡ a_tree c bs = let u = x.1 in cc in
                  (x.2.good_file y).short
              room (no l) = let x = w.promise.short_buffer d (omega arith) in let z : ◌≡◌ {A = ℕ} 0 1 = cc in absurd (omega arith)

      told_as : {s : Solved} → solver A file buffer ≡ s → VerdictOf s (Tree b c)
      told_as {s} q = subst (VerdictOf s) e (subst (λ (t : Solved). VerdictOf t r) q w.verdict)

      by : (s : Solved) → solver A file buffer ≡ s → b ≤ 136
      by (solver_answers (a_tree d bs)) q =
          let x : Tree b c ≡ Tree (length bs) d = told_as q in
          let y : b ≡ length bs = cc in
          let z : d ≡ c = cc in
          let s = short bs (q ∙ ap (λ (k : ℕ). solver_answers (a_tree k bs)) z) in
          omega arith
      by (solver_answers (a_none d)) q = let x : Tree b c ≡ None d = told_as q in let z : ◌≡◌ {A = ℕ} 0 1 = cc in absurd (omega arith)
      by (solver_answers (a_spent d)) q = let x : Tree b c ≡ Spent d = told_as q in let z : ◌≡◌ {A = ℕ} 0 1 = cc in absurd (omega arith)
      by (solver_refuses p) q =
          let t = told_as q in
          let x : Tree b c ≡ Refused t.0 = t.1 in
          let z : ◌≡◌ {A = ℕ} 0 1 = cc in absurd (omega arith)
