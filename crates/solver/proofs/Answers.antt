-- What the search reports is what is answered: verdict, count and answer file; and the line that it starts from.
use mathlib.Core.Path.{◌≡◌, refl, sym, ap, subst, ◌∙◌}
use mathlib.Core.List.{List}
use Prim.Native.Nat.{ℕ, ◌≤◌, ◌<◌}
use native.Mathlib.Nat.{zero-add}
use native.Mathlib.Omega.{arith}
use lib.ListN.{length, get_or}
use Rattle.meaning.specs.Constraint.{Constraint, vars, Fact, facts_of}
use Rattle.meaning.specs.ReadOff.{FactSet, answer_file}
use Rattle.meaning.specs.Files.{Judged, accepted, judge}
use Rattle.meaning.specs.Demand.{Answer, a_tree, a_none, a_spent, Answers}
use Rattle.meaning.specs.Results.{Solved, solver_refuses, solver_answers, written}
use Rattle.meaning.specs.Promises.{SolverPromise}
use Rattle.meaning.proofs.Tests.{pick_yes, pick_no, is_le, le_yes}
use Rattle.meaning.specs.Closed.{Inside}
use Rattle.meaning.proofs.Constraints.{facts_inside}
use Rattle.theory.specs.Search.{search}
use Rattle.theory.specs.Solve.{solve}
use Rattle.theory.specs.Programs.{solved_by, solver}
use Rattle.theory.proofs.Search.{search_ends}
use Rattle.theory.proofs.ConstraintFile.{bytes, accepted_vars}
use Rattle.theory.proofs.Promises.{solver_promise}
use Rattle.constraints.specs.Judgement.{judgement, constraints_in}
use Rattle.std.specs.Prelude.{Option, Some, None, Ok, Err}
use Rattle.questions.specs.declared.Question.{Question}
use Rattle.questions.specs.declared.Question.TheVariants.{Buffer}
use Rattle.questions.specs.Number.{number}
use Rattle.constraints.proofs.Records.{accepted_file, refused_file}
use Rattle.theory.proofs.Demand.{answers}
use Rattle.tables.specs.Tables.{has, showing, Seeded, Ready}
use Rattle.tables.specs.declared.Facts.{Facts}
use Rattle.seed.specs.Seeds.{GivesTwoLabels, SownOf}
use Rattle.seed.proofs.Clashes.{two_labels_clash}
use Rattle.settle.specs.Settling.{SettledOf}
use Rattle.search.specs.Searching.{Line, Reports, Report}
use Rattle.search.specs.declared.Shown.{Shown}
use Rattle.search.specs.declared.End.TheVariants as end
use Rattle.search.specs.declared.Searched.{Searched}
use Rattle.search.proofs.Reporting.{was_tree, was_none, was_spent}
use Rattle.readoff.specs.Written.{FileWritten}
use Rattle.solver.specs.Solving.{Covers, decided_as, VerdictOf, AnswerOf, SolverOf}
use Rattle.solver.specs.declared.Decided.TheVariants as decided
use Rattle.solver.specs.declared.Verdict.{Verdict}
use Rattle.solver.specs.declared.Verdict.TheVariants as verdict

module _ (A n : ℕ) (cs : List Constraint) (few : vars cs ≤ n) (r : Searched) (p : Report A n 0 (facts_of cs) r) where
  by_search : Answers A n (search n (facts_of cs)).outcome (search n (facts_of cs)).count (solve A n cs)
  unfolding solve
  by_search = answers A n (facts_of cs) (facts_inside n cs few) (search_ends n (facts_of cs) (facts_inside n cs few))

  reports : Reports A n (search n (facts_of cs)).outcome (search n (facts_of cs)).count r
  reports = subst (λ (c : ℕ). Reports A n (search n (facts_of cs)).outcome c r) (zero-add (search n (facts_of cs)).count) p

  pub solves_none : r.end ≡ end.None → solve A n cs ≡ a_none r.count
  solves_none e = let w = was_none A n _ _ r reports e in by_search.none w.within w.is ∙ ap a_none (sym w.counted)

  pub solves_spent : r.end ≡ end.Spent → solve A n cs ≡ a_spent r.count
  solves_spent e = let l = was_spent A n _ _ r reports e in by_search.spent_iff.0 l ∙ ap (λ (z : Searched). a_spent z.count) (sym (reports.spent l))

  -- and of a tree, tables that it may be read off from
  pub solves_tree : (s : Shown) → r.end ≡ end.Tree s → (R : List Fact) × (g : Facts) × Ready n R (showing s.below s.above s.after s.label s.root g)
      × (solve A n cs ≡ a_tree r.count (answer_file n (has (showing s.below s.above s.after s.label s.root g))))
  solves_tree s e =
      let w = was_tree A n _ _ r reports s e in
      let q = w.rows in (
        w.tree,
        q.0,
        q.1,
        by_search.tree w.within w.is _ q.1.decides
            ∙ ap (λ (c : ℕ). a_tree c (answer_file n (has (showing s.below s.above s.after s.label s.root q.0)))) (sym w.counted),
      )

  -- ---- the verdict and the count alone

  pub decides_tree : (s : Shown) → r.end ≡ end.Tree s → decided.Tree r.count ≡ decided_as (solve A n cs)
  unfolding decided_as
  decides_tree s e = sym (ap decided_as (solves_tree s e).3)

  pub decides_none : r.end ≡ end.None → decided.None r.count ≡ decided_as (solve A n cs)
  unfolding decided_as
  decides_none e = sym (ap decided_as (solves_none e))

  pub decides_spent : r.end ≡ end.Spent → decided.Spent r.count ≡ decided_as (solve A n cs)
  unfolding decided_as
  decides_spent e = sym (ap decided_as (solves_spent e))

-- ---- the line that the search starts from

module _ (file : List ℕ) (n : ℕ) (k : Covers n file) where
  pub vars_within : vars (constraints_in file) ≤ n
  vars_within = let v = (accepted_file file k.own k.accepted).1 in let l = k.enough in omega arith

  inside : Inside n (facts_of (constraints_in file))
  inside = facts_inside n (constraints_in file) vars_within

  -- two labels clash, or what settling answers of the seeds
  pub seeds_clash : GivesTwoLabels (facts_of (constraints_in file)) → (s : Option Facts) → s ≡ None → Line n (facts_of (constraints_in file)) s
  seeds_clash w s e = subst (Line n (facts_of (constraints_in file))) (sym e) (record { inside = inside; settled = two_labels_clash n w })

  module _ (f : Facts) (w : SownOf file f) where
    pub seeds_seeded : Seeded n (facts_of (constraints_in file)) f
    seeds_seeded = w.seeded n vars_within

    pub seeds_settled : (s : Option Facts) → SettledOf n f s → Line n (facts_of (constraints_in file)) s
    seeds_settled None v = record { inside = inside; settled = v _ seeds_seeded }
    seeds_settled (Some g) v = record { inside = inside; settled = v _ seeds_seeded }

-- a file's own number of variables
pub covers : (file : List ℕ) → ((i : ℕ) → get_or file i 0 < 256) → (n : ℕ) → judgement file ≡ Ok n → Covers n file
covers file small n e =
    let w = accepted_file file n e in
    let m = accepted_vars file (bytes file small) (constraints_in file) w.0 in
    let v = w.1 in
    record { own = n; accepted = e; enough = omega arith; few = omega arith }

-- ---- the verdict and the buffer of an answer

module _ (buffer : List ℕ) where
  pub answer_none : (a : Answer) (c : ℕ) → a ≡ a_none c → AnswerOf a (verdict.None c) buffer buffer
  unfolding written
  answer_none a c e = rw e (record { verdict = refl; wrote = refl })

  pub answer_spent : (a : Answer) (c : ℕ) → a ≡ a_spent c → AnswerOf a (verdict.Spent c) buffer buffer
  unfolding written
  answer_spent a c e = rw e (record { verdict = refl; wrote = refl })

  pub answer_tree : (a : Answer) (n c k : ℕ) (h : FactSet) (after : List ℕ) → a ≡ a_tree c (answer_file n h) → FileWritten n h buffer k after → AnswerOf a (verdict.Tree k c) buffer after
  unfolding written
  answer_tree a n c k h after e w = rw (e, w.size) (record { verdict = refl; wrote = w.bytes })

-- ---- the solver's answer to any bytes

module _ (A : ℕ) (file buffer : List ℕ) (small : (i : ℕ) → get_or file i 0 < 256) where
  promised : (r : Verdict) (after : List ℕ) (s : Solved) → solver A file buffer ≡ s → VerdictOf s r → after ≡ written s buffer → SolverOf A file buffer r after
  promised r after s e v w =
      let same : after ≡ written (solver A file buffer) buffer = w ∙ ap (λ (t : Solved). written t buffer) (sym e) in
      record {
        verdict = subst (λ (t : Solved). VerdictOf t r) (sym e) v;
        wrote = same;
        promise = subst (SolverPromise A file buffer (solver A file buffer)) (sym same) (solver_promise A file buffer (bytes file small));
      }

  pub refuses_file : (q : Question) → judgement file ≡ Err (number q) → SolverOf A file buffer (verdict.Refused q) buffer
  unfolding written solver solved_by
  refuses_file q e = promised _ _ (solver_refuses (number q)) (ap (λ (j : Judged). solved_by A j buffer) (refused_file file (number q) e)) (q, refl, refl) refl

  module _ (n : ℕ) (e : judgement file ≡ Ok n) where
    is_accepted : judge file ≡ accepted (constraints_in file)
    is_accepted = (accepted_file file n e).0

    pub refuses_buffer : length buffer < 136 → SolverOf A file buffer (verdict.Refused Buffer) buffer
    unfolding written solver solved_by
    refuses_buffer l =
        promised _ _ (solver_refuses 7)
        (ap (λ (j : Judged). solved_by A j buffer) is_accepted ∙ pick_no _ _ (λ y. let m : 136 ≤ length buffer = is_le y in omega arith)) (Buffer, refl, refl) refl

    pub answers_file : 136 ≤ length buffer → (r : Verdict) (after : List ℕ) → AnswerOf (solve A n (constraints_in file)) r buffer after → SolverOf A file buffer r after
    unfolding solver solved_by
    answers_file l r after w =
        promised r after (solver_answers (solve A n (constraints_in file)))
        (ap (λ (j : Judged). solved_by A j buffer) is_accepted ∙ pick_yes _ _ (le_yes l)
        ∙ ap (λ (m : ℕ). solver_answers (solve A m (constraints_in file))) (accepted_file file n e).1)
        w.verdict w.wrote
