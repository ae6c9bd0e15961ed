-- What C is told of a file and of the same file with its records in another order, or with its variables renumbered.
use mathlib.Core.Path.{◌≡◌, refl, sym, ap, ◌∙◌, subst}
use mathlib.Core.Logic.{◌↔◌}
use mathlib.Core.List.{List, ◌∷◌}
use Prim.Native.Nat.{ℕ, ◌≤◌}
use native.Mathlib.Omega.{arith}
use lib.ListN.{length, length-append}
use Rattle.meaning.specs.Tree.{Var, Node, Assignment, Tree}
use Rattle.meaning.specs.Constraint.{Constraint, vars}
use Rattle.meaning.specs.ReadOff.{NodeRecord, tree_of}
use Rattle.meaning.specs.Demand.{a_tree, a_none, a_spent}
use Rattle.meaning.specs.Marking.{met, unmet}
use Rattle.meaning.specs.Files.{quads, accepted, judge, accepted_answer, judge_answer, assigned}
use Rattle.meaning.specs.Results.{Solved, solver_refuses, solver_answers, Marked, marker_refuses, marker_answers, told, marked_number}
use Rattle.meaning.specs.Promises.{SameRoom}
use Rattle.meaning.specs.Shuffled.{AnotherOrder, FirstUnmet, Renumbering, Renumbered, SaysNone, SaysSpent}
use Rattle.meaning.proofs.Records.{FileOf, spells_kind, quads_length, accepted_file}
use Rattle.meaning.proofs.Shuffled.{same_solved, answers_not, same_marked}
use Rattle.meaning.proofs.Renumbered.{same_none}
use Rattle.theory.specs.Programs.{solver, marker}
use Rattle.capi.specs.Solves.{Solves}
use Rattle.capi.specs.Grades.{Grades}
use Rattle.capi.specs.Told.{verdict, middle, low, ToldSame}
use Rattle.capi.proofs.Told.{verdict_number, verdict_is, fits, told_one}

-- ---- another order

pub told_same : {A r s : ℕ} {file other buffer after lent later : List ℕ} {cs : List Constraint} → A ≤ 4294967295 → AnotherOrder file other → judge file ≡ accepted cs → SameRoom buffer lent
    → Solves A file buffer r after → Solves A other lent s later → ToldSame buffer after lent later r s
told_same most p e = told_one most ((same_solved p).answers e)

-- ---- variables renumbered

none_verdict : (r : Solved) → (verdict_number r ≡ 1) ↔ SaysNone r
none_verdict (solver_answers (a_tree c bs)) = (λ e. absurd (omega arith), λ w. let e = w.1 in let z : ◌≡◌ {A = ℕ} 0 1 = cc in absurd (omega arith))
none_verdict (solver_answers (a_none c)) = (λ e. (c, refl), λ w. refl)
none_verdict (solver_answers (a_spent c)) = (λ e. absurd (omega arith), λ w. let e = w.1 in let z : ◌≡◌ {A = ℕ} 0 1 = cc in absurd (omega arith))
none_verdict (solver_refuses q) = (λ e. absurd (omega arith), λ w. let e = w.1 in let z : ◌≡◌ {A = ℕ} 0 1 = cc in absurd (omega arith))

-- C sees verdict 1 exactly where none is said, and 2 where spent is
module _ {A r : ℕ} {file buffer after : List ℕ} (most : A ≤ 4294967295) (u : Solves A file buffer r after) where
  verdict_told : verdict r ≡ verdict_number (solver A file buffer)
  verdict_told = ap verdict u.number ∙ verdict_is (solver A file buffer) (fits most u.promise)

  none_told : (verdict r ≡ 1) ↔ SaysNone (solver A file buffer)
  none_told = let n = none_verdict (solver A file buffer) in (λ e. n.0 (sym verdict_told ∙ e), λ w. verdict_told ∙ n.1 w)

  spent_told : SaysSpent (solver A file buffer) → verdict r ≡ 2
  spent_told w = verdict_told ∙ ap verdict_number w.1

pub told_none : {A B r s : ℕ} {to : Var → Var} {file other buffer after lent later : List ℕ} {cs : List Constraint} → A ≤ 4294967295 → B ≤ 4294967295
    → Renumbered to file other → judge file ≡ accepted cs → Renumbering (vars cs) to → SameRoom buffer lent
    → Solves A file buffer r after → Solves B other lent s later → ¬ (verdict r ≡ 2) → ¬ (verdict s ≡ 2) → (verdict r ≡ 1) ↔ (verdict s ≡ 1)
told_none a b p e n room u v f g =
    let w = (same_none p e n).none_iff room u.promise v.promise (λ x. f (spent_told a u x)) (λ x. g (spent_told b v x)) in
    (λ x. (none_told b v).1 (w.0 ((none_told a u).0 x)), λ x. (none_told a u).1 (w.1 ((none_told b v).0 x)))

-- ---- the marker

met_number : (r : Marked) → marked_number r ≡ 0 → r ≡ marker_answers met
unfolding marked_number told
met_number (marker_answers met) e = refl
met_number (marker_answers (unmet i k)) e = absurd (omega arith)
met_number (marker_refuses q) e = absurd (omega arith)

-- met is the number 0
pub told_met : {r s : ℕ} {file other answer : List ℕ} {cs : List Constraint} → AnotherOrder file other → judge file ≡ accepted cs
    → Grades file answer r → Grades other answer s → (s ≡ 0) ↔ (r ≡ 0)
unfolding marked_number told
told_met p e u v =
    let w = (same_marked p).met_iff e u.promise v.promise in (
      λ z. u.number ∙ ap marked_number (w.0 (met_number _ (sym v.number ∙ z))),
      λ z. v.number ∙ ap marked_number (w.1 (met_number _ (sym u.number ∙ z))),
    )

-- position and kind fit their places
unmet_small : {t : Tree} {a : Assignment} {file : List ℕ} {cs : List Constraint} {i k : ℕ} → FileOf file cs → FirstUnmet t a (quads file) i k → (i ≤ 256) × (k ≤ 9)
unmet_small {file = file} {cs = cs} f u =
    let n = quads_length file f.whole in
    let s = f.short in
    let l = u.1 in
    let e = ap length l.is_list ∙ length-append l.earlier (u.0 ∷ l.later) in
    let p = l.position in
    (omega arith, subst (λ (k : ℕ). k ≤ 9) u.3 (spells_kind u.0 u.2.1))

unmet_number : (r : Marked) → verdict (marked_number r) ≡ 1 → ((q : ℕ) → ¬ (r ≡ marker_refuses q)) → (i : ℕ) × (k : ℕ) × (r ≡ marker_answers (unmet i k))
unfolding verdict marked_number told
unmet_number (marker_answers met) e f = absurd (omega arith)
unmet_number (marker_answers (unmet i k)) e f = (i, k, refl)
unmet_number (marker_refuses q) e f = absurd (f q refl)

unmet_apart : {s i k : ℕ} → s ≡ told 1 k i → i ≤ 256 → k ≤ 9 → (low s ≡ i) × (middle s ≡ k)
unfolding told low middle
unmet_apart e l m = (omega arith, omega arith)

-- the position told is that of the first unmet record in the order of the file that is marked, and the kind its first byte
pub told_unmet : {s : ℕ} {file other answer : List ℕ} {cs : List Constraint} {vs : List NodeRecord} {ps : List Node} → AnotherOrder file other → judge file ≡ accepted cs
    → judge_answer (vars cs) answer ≡ accepted_answer vs ps → Grades other answer s → verdict s ≡ 1 → FirstUnmet (tree_of vs) (assigned ps) (quads other) (low s) (middle s)
unfolding marked_number
told_unmet {s} {other = other} {answer = answer} {vs = vs} {ps = ps} p e d v h =
    let o = (same_solved p).accepts e in
    let asked = ap (λ (n : ℕ). judge_answer n answer) o.2 ∙ d in
    let w = v.promise.answers o.1 asked in
    let m = unmet_number (marker other answer) (ap verdict (sym v.number) ∙ h) (λ q r. answers_not (sym w.1 ∙ r)) in
    let u = ((same_marked p).unmet_iff e d v.promise).0 m.2 in
    let f = unmet_small (accepted_file o.1) u in
    let a = unmet_apart (v.number ∙ ap marked_number m.2) f.0 f.1 in
    subst (λ (i : ℕ). FirstUnmet (tree_of vs) (assigned ps) (quads other) i (middle s)) (sym a.0)
    (subst (FirstUnmet (tree_of vs) (assigned ps) (quads other) m.0) (sym a.1) u)
