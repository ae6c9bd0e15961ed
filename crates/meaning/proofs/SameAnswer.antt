-- Constraints with the same given facts, in any order and repeated or not, get the same answer under the same allowance: the search sees their facts
-- as a set, and demand 3 leaves one answer for how it ends. So do accepted files of such constraints.
use mathlib.Core.Path.{◌≡◌, refl, sym, ap, ◌∙◌, subst}
use mathlib.Core.List.{List, Memᴰ}
use Prim.Native.Nat.{ℕ, ◌≤◌}
use native.Mathlib.Nat.{le_antisymm}
use native.Mathlib.Decide.{dec_le}
use native.Mathlib.Omega.{arith}
use lib.ListN.{length}
use Rattle.meaning.specs.Constraint.{Constraint, vars, facts_of}
use Rattle.meaning.specs.FixedSearch.{Outcome, in_none, in_tree}
use Rattle.meaning.specs.ReadOff.{answer_file}
use Rattle.meaning.specs.Demand.{Answer, a_tree, a_none, Demand3}
use Rattle.meaning.specs.Files.{refused, accepted, judge}
use Rattle.meaning.specs.Results.{Solved, solver_answers, written}
use Rattle.meaning.specs.Promises.{SolverPromise, SameRoom, OneAnswer}
use Rattle.meaning.proofs.Facts.{◌⊆◌}
use Rattle.meaning.proofs.Constraints.{fact_in, fact_from, named_most, vars_least}
use Rattle.meaning.proofs.Congruence.{SameFacts, Alike, decides_cong, ends_cong}

pub record SameConstraints (cs ds : List Constraint) : Type 0 where
  pub to : (c : Constraint) → Memᴰ c cs → Memᴰ c ds
  pub fro : (c : Constraint) → Memᴰ c ds → Memᴰ c cs

facts_part : (cs ds : List Constraint) → ((c : Constraint) → Memᴰ c cs → Memᴰ c ds) → facts_of cs ⊆ facts_of ds
facts_part cs ds h f m = let w = fact_from cs f m in fact_in (h w.0 w.1) w.2

vars_part : (cs ds : List Constraint) → ((c : Constraint) → Memᴰ c cs → Memᴰ c ds) → vars cs ≤ vars ds
vars_part cs ds h = vars_least (vars ds) cs (λ c m. named_most ds c (h c m))

module _ {cs ds : List Constraint} (e : SameConstraints cs ds) where
  pub same_facts : SameFacts (facts_of cs) (facts_of ds)
  same_facts = record { to = facts_part cs ds e.to; fro = facts_part ds cs e.fro }

  pub same_vars : vars ds ≡ vars cs
  same_vars = le_antisymm (vars_part ds cs e.fro) (vars_part cs ds e.to)

-- over the same n variables
module _ {A n : ℕ} {cs ds : List Constraint} {r s : Answer} (e : SameFacts (facts_of cs) (facts_of ds)) (d : Demand3 A n cs r) (f : Demand3 A n ds s) where
  same_count : f.count ≡ d.count
  same_count = let a = ends_cong n d.search.ends e in sym (f.search.only a.ends).1

  -- within the allowance
  shown : d.count ≤ A → (o p : Outcome) → d.outcome ≡ o → f.outcome ≡ p → Alike o p → s ≡ r
  shown l in_none in_none g h w = f.answers.none (omega (arith, same_count)) h ∙ ap a_none same_count ∙ sym (d.answers.none l g)
  shown l in_none (in_tree Q) g h w = absurd w
  shown l (in_tree R) in_none g h w = absurd w
  shown l (in_tree R) (in_tree Q) g h w =
      let t = d.search.decided g in
      f.answers.tree (omega (arith, same_count)) h t.0 (decides_cong w t.1)
      ∙ ap (λ (c : ℕ). a_tree c (answer_file n t.0)) same_count ∙ sym (d.answers.tree l g t.0 t.1)

  pub same_answer : s ≡ r
  same_answer = go (dec_le d.count A)
    where
      go : Dec (d.count ≤ A) → s ≡ r
      go (yes l) =
          let a = ends_cong n d.search.ends e in
          shown l d.outcome f.outcome refl refl (subst (Alike d.outcome) (f.search.only a.ends).0 a.alike)
      go (no l) = f.answers.spent_iff.0 (omega (arith, same_count)) ∙ sym (d.answers.spent_iff.0 (omega arith))

-- ---- files

module _ {A : ℕ} {file other buffer after lent later : List ℕ} {r s : Solved} (u : SolverPromise A file buffer r after) (v : SolverPromise A other lent s later) where
  -- the buffers follow from the answer
  and_bytes : s ≡ r → (s ≡ r) × (after ≡ written r buffer) × (later ≡ written r lent)
  and_bytes e = (e, u.wrote, v.wrote ∙ ap (λ (x : Solved). written x lent) e)

  answered_alike : SameRoom buffer lent → {cs ds : List Constraint} → judge file ≡ accepted cs → judge other ≡ accepted ds
      → SameFacts (facts_of cs) (facts_of ds) → vars ds ≡ vars cs → s ≡ r
  answered_alike room {cs} {ds} e f same n = go (dec_le 136 (length buffer))
    where
      go : Dec (136 ≤ length buffer) → s ≡ r
      go (yes l) =
          let a = u.answers e l in
          let b = v.answers f (room.0 l) in
          let d : Demand3 A (vars cs) ds b.0 = subst (λ (k : ℕ). Demand3 A k ds b.0) n b.2.demand_3 in
          b.1 ∙ ap solver_answers (same_answer same a.2.demand_3 d) ∙ sym a.1
      go (no l) =
          let short : ¬ (136 ≤ length lent) = λ m. l (room.1 m) in
          v.short_buffer f (omega arith) ∙ sym (u.short_buffer e (omega arith))

pub one_refusal : {file other : List ℕ} {q : ℕ} → judge file ≡ refused q → judge other ≡ refused q → OneAnswer file other
one_refusal e f = record { answers = λ room u v. and_bytes u v (v.refuses f ∙ sym (u.refuses e)) }

pub one_answer : {file other : List ℕ} {cs ds : List Constraint} → judge file ≡ accepted cs → judge other ≡ accepted ds → SameFacts (facts_of cs) (facts_of ds)
    → vars ds ≡ vars cs → OneAnswer file other
one_answer e f same n = record { answers = λ room u v. and_bytes u v (answered_alike u v room e f same n) }
