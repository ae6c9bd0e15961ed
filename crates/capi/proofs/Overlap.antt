-- What C is told of a file beside what was answered by the rules of before (docs/FORMAT.md, "The chain join's overlap"), under one allowance.
use mathlib.Core.Path.{◌≡◌, refl, sym, ap, ◌∙◌, subst}
use mathlib.Core.List.{List, [], ◌++◌}
use Prim.Native.Nat.{ℕ, ◌≤◌}
use native.Mathlib.Omega.{arith}
use lib.ListN.{length, drop}
use Rattle.meaning.specs.Constraint.{Constraint, vars}
use Rattle.meaning.specs.Demand.{Answer, a_tree, a_none, a_spent, count_of}
use Rattle.meaning.specs.Files.{accepted, judge}
use Rattle.meaning.specs.Results.{Solved, solver_answers, told, solved_number}
use Rattle.theory.specs.Overlap.{AnsweredBefore}
use Rattle.theory.specs.Programs.{solver}
use Rattle.theory.proofs.ConstraintFile.{Bytes, accepted_labels}
use Rattle.theory.proofs.Overlap.{promised_stays}
use Rattle.capi.specs.Solves.{Solves}
use Rattle.capi.specs.Told.{verdict, middle, low, ToldWithin}
use Rattle.capi.proofs.Told.{Fits, fits, front_of, written_front, middle_is, verdict_number, verdict_is}

low_is : (a : Answer) → Fits (solver_answers a) → low (solved_number (solver_answers a)) ≡ count_of a
unfolding low solved_number told
low_is (a_tree c bs) f = let l = f.0 in let k = f.1 in omega arith
low_is (a_none c) f = omega arith
low_is (a_spent c) f = omega arith

module _ {A r : ℕ} {file buffer after : List ℕ} {cs : List Constraint} (most : A ≤ 4294967295) (b : Bytes file) (u : Solves A file buffer r after)
    (e : judge file ≡ accepted cs) (l : 136 ≤ length buffer) where
  within : {a : Answer} → solver A file buffer ≡ solver_answers a → {c : ℕ} → count_of a ≤ c → ToldWithin buffer after (verdict_number (solver_answers a)) c (front_of (solver_answers a)) r
  within {a} q {c} k = let f = subst Fits q (fits most u.promise) in let n = u.number ∙ ap solved_number q in record {
    verdict_is = ap verdict n ∙ verdict_is (solver_answers a) f;
    no_more = subst (λ (i : ℕ). i ≤ c) (sym (ap low n ∙ low_is a f)) k;
    as_told = ap middle n ∙ middle_is (solver_answers a) f;
    wrote = u.wrote ∙ written_front _ buffer ∙ ap (λ (s : Solved). front_of s ++ drop (length (front_of s)) buffer) q;
  }

  -- a tree stays that tree
  pub told_tree : {c : ℕ} {bs : List ℕ} → AnsweredBefore A (vars cs) cs (a_tree c bs) → ToldWithin buffer after 0 c bs r
  unfolding front_of
  told_tree {c} w =
      let s = promised_stays (accepted_labels file b cs e) u.promise e l w in
      let t = s.2.tree refl in
      within (s.1 ∙ ap solver_answers t.1) (subst (λ (a : Answer). count_of a ≤ c) t.1 s.2.no_more)

  -- a none stays none
  pub told_none : {c : ℕ} → AnsweredBefore A (vars cs) cs (a_none c) → ToldWithin buffer after 1 c [] r
  unfolding front_of
  told_none {c} w =
      let s = promised_stays (accepted_labels file b cs e) u.promise e l w in
      let t = s.2.none refl in
      within (s.1 ∙ ap solver_answers t.1) (subst (λ (a : Answer). count_of a ≤ c) t.1 s.2.no_more)
