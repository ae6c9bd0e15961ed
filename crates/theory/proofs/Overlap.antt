-- The rules as they are beside those of before. Beside more differ facts a search meets the same joins, and only some of its lines end earlier, in a
-- clash. Such a line holds no tree: differ(x,y) is entered only where the first alternative, which has the trees with x and y on one node, found none.
-- So a tree stays that tree, none stays none, and no count rises: by induction on the search by the rules of before, whatever differ facts, kept by every
-- tree, stand beside.
use mathlib.Core.Path.{◌≡◌, refl, sym, ap, ◌∙◌, subst}
use mathlib.Core.Logic.{◌⊎◌, inl, inr, ⊎_elim}
use mathlib.Core.List.Memᴰ
use mathlib.Core.List.{List, [], ◌∷◌, ◌++◌, Memᴰ}
use Prim.Native.Nat.{ℕ, ◌+◌, ◌≤◌, zero-le}
use native.Mathlib.Nat.{le_refl, le_trans}
use native.Mathlib.Decide.{dec_le}
use native.Mathlib.Omega.{arith}
use lib.ListN.{length}
use Rattle.meaning.specs.Tree.{Var, Label, Assignment, Tree, IsTree}
use Rattle.meaning.specs.Constraint.{Constraint, vars, ByteLabels, Fact, below, differ, label, facts_of}
use Rattle.meaning.specs.Settled.{Clash}
use Rattle.meaning.specs.FixedSearch.{parent_join, chain_join, sibling_join, document_join, Join, join, IsJoin, first_alternative, second_alternative, FirstJoin, Outcome, in_none, in_tree, Ends, clashed, solved, in_first, in_second}
use Rattle.meaning.specs.Closed.{Inside}
use Rattle.meaning.specs.ReadOff.{FactSet, Decides, tree_of, nodes, place}
use Rattle.meaning.specs.Files.{accepted, judge}
use Rattle.meaning.specs.Results.{Solved, solver_answers}
use Rattle.meaning.specs.Promises.{SolverPromise}
use Rattle.meaning.specs.Demand.{Answer, a_tree, a_none, a_spent, count_of, Answers, Demand3}
use Rattle.theory.specs.Closure.{holds}
use Rattle.theory.specs.Search.{clashes, EndsBy, by_clash, by_tree, by_first, by_second, search_by}
use Rattle.theory.specs.Overlap.{second_before, AnsweredBefore, solve_before, Stays, SameVerdict, Overlap}
use Rattle.meaning.proofs.Tests.{clash, yes_case}
use Rattle.meaning.proofs.Labels.{FactLabel}
use Rattle.meaning.proofs.Facts.{◌⊆◌, in_one, in_two, inside_of}
use Rattle.meaning.proofs.Least.{settled_within, clash_mono}
use Rattle.meaning.proofs.Holds.{HoldsAll, clash_fails}
use Rattle.meaning.proofs.Joins.{alternative_holds}
use Rattle.meaning.proofs.Said.{count_within}
use Rattle.meaning.proofs.Constraints.{facts_inside, fact_labels}
use Rattle.theory.proofs.Closure.{holds_decides}
use Rattle.theory.proofs.Absent.{Adds, adds, plain_below, Plain, first_adds, second_adds}
use Rattle.theory.proofs.Ends.{ends_by_unique, ends_unique, none_fails, tree_reached}
use Rattle.theory.proofs.Search.{clashes_sound, clashes_complete, search_by_ends}
use Rattle.theory.proofs.ReadOff.{read_off_tree, read_off_holds}
use Rattle.theory.proofs.Demand.{answers_ended, answers_same}
use Rattle.theory.proofs.DifferFacts.{IsDiffer, Beside, kept, more, join_more, join_kept, first_more, SameBut, same_file}

-- ---- the two second alternatives

second_wider : (j : Join) → second_before j ⊆ second_alternative j
second_wider (join parent_join z x y) f m = m
second_wider (join chain_join z x y) f m = in_one (λ g. Memᴰ g (below y x ∷ differ x y ∷ [])) (Memᴰ.head refl) m
second_wider (join sibling_join y a x) f m = m
second_wider (join document_join r y w) f m = m

second_only : (j : Join) (f : Fact) → Memᴰ f (second_alternative j) → Memᴰ f (second_before j) ⊎ IsDiffer f
second_only (join parent_join z x y) f m = inl m
second_only (join chain_join z x y) f m = in_two (λ g. Memᴰ g (below y x ∷ []) ⊎ IsDiffer g) (inl (Memᴰ.head refl)) (inr tt) m
second_only (join sibling_join y a x) f m = inl m
second_only (join document_join r y w) f m = inl m

-- by the rules of before, too, a second alternative adds a pair to below
before_adds : (n : ℕ) (S : List Fact) → Inside n S → (j : Join) → IsJoin n S j → Adds n S (second_before j)
before_adds n S ins (join parent_join z x y) q = second_adds n S ins (join parent_join z x y) q
before_adds n S ins (join chain_join z x y) q =
    let hx = (settled_within n S ins q.above_x).0 in
    let hy = (settled_within n S ins q.above_y).0 in
    adds n S ins _ (λ f m. in_one (Plain n) (plain_below hy hx) m) y x (Memᴰ.head refl) q.not_below
before_adds n S ins (join sibling_join y a x) q = second_adds n S ins (join sibling_join y a x) q
before_adds n S ins (join document_join r y w) q = second_adds n S ins (join document_join r y w) q

beside_both : {A B S T : List Fact} → Beside A B → Beside S T → Beside (A ++ S) (B ++ T)
beside_both {A} {B} {S} {T} p q = record {
  wider = λ f m. ⊎_elim (λ k. Memᴰ.append_left T (p.wider f k)) (λ k. Memᴰ.append_right B (q.wider f k)) (Memᴰ.append_cases A m);
  only = λ f m. ⊎_elim
      (λ k. ⊎_elim (λ u. inl (Memᴰ.append_left S u)) inr (p.only f k))
      (λ k. ⊎_elim (λ u. inl (Memᴰ.append_right A u)) inr (q.only f k)) (Memᴰ.append_cases B m);
}

beside_itself : (A : List Fact) → Beside A A
beside_itself A = record { wider = λ f m. m; only = λ f m. inl m }

holds_rest : {n : ℕ} {t : Tree} {a : Assignment} (A : List Fact) {S : List Fact} → HoldsAll n t a (A ++ S) → HoldsAll n t a S
holds_rest A m = record { placed = m.placed; every = λ k. m.every (Memᴰ.append_right A k) }

-- ---- the searches

-- T is S and differ facts that every tree of S keeps
record Kin (n : ℕ) (S T : List Fact) : Type 0 where
  beside : Beside S T
  inside : Inside n T
  labelled : (x : Var) (l : Label) → Memᴰ (label x l) T → FactLabel l
  implied : (t : Tree) → IsTree t → (a : Assignment) → HoldsAll n t a S → HoldsAll n t a T

-- o by the rules of before, and p by those of now, beside differ facts
abbrev Alike : ℕ → Outcome → Outcome → Type 0
Alike n in_none in_none = Unit {0}
Alike n in_none (in_tree Q) = ⊥
Alike n (in_tree R) in_none = ⊥
Alike n (in_tree R) (in_tree Q) = Inside n R × SameBut n R Q

-- the search of T ends so, after c alternatives at most
record Better (n : ℕ) (T : List Fact) (o : Outcome) (c : ℕ) : Type 0 where
  outcome : Outcome
  count : ℕ
  ends : Ends n T outcome count
  fewer : count ≤ c
  alike : Alike n o outcome

module _ (n : ℕ) where
  kin_first : {S T : List Fact} → Kin n S T → (j : Join) → IsJoin n T j → Kin n (first_alternative j ++ S) (first_alternative j ++ T)
  kin_first {S} {T} k j q = record {
    beside = beside_both (beside_itself A) k.beside;
    inside = a.inside;
    labelled = λ x l m. ⊎_elim (λ u. absurd (a.no_label x l u)) (k.labelled x l) (Memᴰ.append_cases A m);
    implied = λ t i b m. let r = k.implied t i b (holds_rest A m) in
        record { placed = m.placed; every = λ u. ⊎_elim (λ v. m.every (Memᴰ.append_left S v)) (λ v. r.every v) (Memᴰ.append_cases A u) };
  }
    where
      A : List Fact
      A = first_alternative j

      a : Adds n T A
      a = first_adds n T k.inside j q

  -- where the first alternative found none, a tree meets the second
  kin_second : {S T : List Fact} → Kin n S T → (j : Join) → IsJoin n T j → ((t : Tree) → IsTree t → (b : Assignment) → ¬ HoldsAll n t b (first_alternative j ++ T))
      → Kin n (second_before j ++ S) (second_alternative j ++ T)
  kin_second {S} {T} k j q none = record {
    beside = beside_both (record { wider = second_wider j; only = second_only j }) k.beside;
    inside = a.inside;
    labelled = λ x l m. ⊎_elim (λ u. absurd (a.no_label x l u)) (k.labelled x l) (Memᴰ.append_cases (second_alternative j) m);
    implied = λ t i b m. ⊎_elim (λ u. absurd (none t i b u)) (λ u. u) (alternative_holds n t i b T (k.implied t i b (holds_rest (second_before j) m)) j q);
  }
    where
      a : Adds n T (second_alternative j)
      a = second_adds n T k.inside j q

  -- a line found in S has a tree, which keeps T
  found : {S T : List Fact} → Kin n S T → ¬ Clash n S → ((j : Join) → ¬ IsJoin n S j) → Better n T (in_tree S) 0
  found {S} {T} k free none = record {
    outcome = in_tree T;
    count = 0;
    ends = solved (clash_fails n t i (place n h) T (k.implied t i (place n h) (read_off_holds n S ins h d free none labels))) (λ j q. none j (join_kept n S T k.beside j q));
    fewer = le_refl _;
    alike = (ins, record { to = more n S T k.beside; fro = kept n S T k.beside });
  }
    where
      ins : Inside n S
      ins = inside_of k.beside.wider k.inside

      h : FactSet
      h = holds n S

      d : Decides n S h
      d = holds_decides n S ins

      labels : (x : Var) (l : Label) → Memᴰ (label x l) S → FactLabel l
      labels x l m = k.labelled x l (k.beside.wider _ m)

      t : Tree
      t = tree_of (nodes n h)

      i : IsTree t
      i = read_off_tree n S ins h d free none labels

  then_first : {S T R : List Fact} {c : ℕ} → Kin n S T → (j : Join) → FirstJoin n S j → Better n (first_alternative j ++ T) (in_tree R) c → Better n T (in_tree R) (1 + c)
  then_first {S} {T} {R} {c} k j f b = by b.outcome b.ends b.alike
    where
      q : FirstJoin n T j
      q = first_more n S T k.beside j f

      by : (p : Outcome) → Ends n (first_alternative j ++ T) p b.count → Alike n (in_tree R) p → Better n T (in_tree R) (1 + c)
      by in_none e a = absurd a
      by (in_tree Q) e a =
          let r = tree_reached e (first_adds n T k.inside j q.is_join).inside in
          record {
            outcome = in_tree Q;
            count = 1 + b.count;
            ends = in_first j (λ x. r.no_clash (clash_mono n T Q (λ g m. r.wider g (Memᴰ.append_right (first_alternative j) m)) x)) q e;
            fewer = let z = b.fewer in omega arith;
            alike = a;
          }

  none_found : {T : List Fact} {c : ℕ} → Better n T in_none c → (t : Tree) → IsTree t → (a : Assignment) → ¬ HoldsAll n t a T
  none_found {T} b t i a = by b.outcome b.ends b.alike
    where
      by : (p : Outcome) → Ends n T p b.count → Alike n in_none p → ¬ HoldsAll n t a T
      by in_none e q = none_fails n t i a e
      by (in_tree Q) e q = absurd q

  clash_or_not : (T : List Fact) → Inside n T → Clash n T ⊎ ¬ Clash n T
  clash_or_not T ins =
      ⊎_elim
      (λ y. inl (clashes_sound n T (holds n T) (λ f z. (holds_decides n T ins).sound z) y))
      (λ z. inr (λ k. clash (clashes_complete n T ins (holds n T) (holds_decides n T ins) k) z))
      (yes_case (clashes n T (holds n T)))

  then_second : {S T : List Fact} {o : Outcome} {c d : ℕ} → Kin n S T → (j : Join) → FirstJoin n S j
      → Better n (first_alternative j ++ T) in_none c → Better n (second_alternative j ++ T) o d → Better n T o (2 + c + d)
  then_second {S} {T} {o} {c} {d} k j f b e = ⊎_elim at_once (λ x. by x b.outcome b.ends b.alike) (clash_or_not T k.inside)
    where
      -- the differ facts clash already, and nothing is entered
      at_once : Clash n T → Better n T o (2 + c + d)
      at_once x = record {
        outcome = in_none;
        count = 0;
        ends = clashed x;
        fewer = zero-le;
        alike = subst (Alike n o) (ends_unique n e.ends (clashed (clash_mono n T _ (λ g m. Memᴰ.append_right (second_alternative j) m) x))).0 e.alike;
      }

      by : ¬ Clash n T → (p : Outcome) → Ends n (first_alternative j ++ T) p b.count → Alike n in_none p → Better n T o (2 + c + d)
      by x (in_tree Q) l a = absurd a
      by x in_none l a = record {
        outcome = e.outcome;
        count = 2 + b.count + e.count;
        ends = in_second j x (first_more n S T k.beside j f) l e.ends;
        fewer = let u = b.fewer in let v = e.fewer in omega arith;
        alike = e.alike;
      }

  better : {S T : List Fact} {o : Outcome} {c : ℕ} → EndsBy second_before n S o c → Kin n S T → Better n T o c
  better {T = T} (by_clash {S} x) k = record { outcome = in_none; count = 0; ends = clashed (clash_mono n S T k.beside.wider x); fewer = le_refl _; alike = tt }
  better (by_tree x q) k = found k x q
  better {T = T} (by_first {S} j x f l) k = then_first k j f (better l (kin_first k j (join_more n S T k.beside j f.is_join)))
  better {T = T} (by_second {S} j x f l r) k =
      let q = join_more n S T k.beside j f.is_join in
      let first = better l (kin_first k j q) in
      then_second k j f first (better r (kin_second k j q (none_found first)))

-- ---- the answers

-- within both allowances, what is shown of outcomes that are alike: none twice, or one tree
record ShownAlike (c d : ℕ) (was is : Answer) : Type 0 where
  none_or_tree : ((was ≡ a_none c) × (is ≡ a_none d)) ⊎ ((bs : List ℕ) × (was ≡ a_tree c bs) × (is ≡ a_tree d bs))

shown_alike : {A B n c d : ℕ} (o p : Outcome) {was is : Answer} → Alike n o p → ((Q : List Fact) → p ≡ in_tree Q → (h : FactSet) × Decides n Q h)
    → Answers B n o c was → Answers A n p d is → c ≤ B → d ≤ A → ShownAlike c d was is
shown_alike in_none in_none a g u v k l = record { none_or_tree = inl (u.none k refl, v.none l refl) }
shown_alike in_none (in_tree Q) a g u v k l = absurd a
shown_alike (in_tree R) in_none a g u v k l = absurd a
shown_alike {n = n} {d = d} (in_tree R) (in_tree Q) a g u v k l =
    let h = holds_decides n R a.0 in
    let w = g Q refl in
    record { none_or_tree = inr (_, u.tree k refl (holds n R) h, v.tree l refl w.0 w.1 ∙ ap (a_tree d) (sym (same_file n R Q (holds n R) w.0 h w.1 a.1))) }

shown_stays : {c d : ℕ} {was is : Answer} → d ≤ c → ShownAlike c d was is → Stays was is
shown_stays {c} {d} {was} {is} l s = ⊎_elim none tree s.none_or_tree
  where
    none : (was ≡ a_none c) × (is ≡ a_none d) → Stays was is
    none e = record {
      tree = λ f. absurd (let z : ◌≡◌ {A = ℕ} 0 1 = cc in omega arith);
      none = λ f. (d, e.1);
      no_more = subst (λ (a : Answer). count_of a ≤ count_of was) (sym e.1) (subst (λ (a : Answer). d ≤ count_of a) (sym e.0) l);
    }

    tree : (bs : List ℕ) × (was ≡ a_tree c bs) × (is ≡ a_tree d bs) → Stays was is
    tree e = record {
      tree = λ f. (d, e.2 ∙ ap (a_tree d) (cc));
      none = λ f. absurd (let z : ◌≡◌ {A = ℕ} 0 1 = cc in omega arith);
      no_more = subst (λ (a : Answer). count_of a ≤ count_of was) (sym e.2) (subst (λ (a : Answer). d ≤ count_of a) (sym e.1) l);
    }

module _ (n : ℕ) (cs : List Constraint) (few : vars cs ≤ n) (b : ByteLabels cs) where
  start : Kin n (facts_of cs) (facts_of cs)
  start = record { beside = beside_itself (facts_of cs); inside = facts_inside n cs few; labelled = fact_labels cs b; implied = λ t i a m. m }

  module _ {A B : ℕ} {was is : Answer} (u : AnsweredBefore B n cs was) (v : Demand3 A n cs is) where
    before : Better n (facts_of cs) u.outcome u.count
    before = better n u.ends start

    no_more : v.count ≤ u.count
    no_more = subst (λ (k : ℕ). k ≤ u.count) (v.search.only before.ends).1 before.fewer

    alike : Alike n u.outcome v.outcome
    alike = subst (Alike n u.outcome) (v.search.only before.ends).0 before.alike

    shown : u.count ≤ B → v.count ≤ A → ShownAlike u.count v.count was is
    shown = shown_alike u.outcome v.outcome alike (λ Q q. v.search.decided q) u.answers v.answers

    sooner : ¬ (was ≡ a_spent B) → ¬ (is ≡ a_spent A) → SameVerdict was is
    sooner k l = go (dec_le u.count B) (dec_le v.count A)
      where
        same : ShownAlike u.count v.count was is → SameVerdict was is
        same s = ⊎_elim
            (λ e. subst (λ (a : Answer). SameVerdict a is) (sym e.0) (subst (SameVerdict (a_none u.count)) (sym e.1) tt))
            (λ e. subst (λ (a : Answer). SameVerdict a is) (sym e.1) (subst (SameVerdict (a_tree u.count e.0)) (sym e.2) refl)) s.none_or_tree

        go : Dec (u.count ≤ B) → Dec (v.count ≤ A) → SameVerdict was is
        go (yes x) (yes y) = same (shown x y)
        go (yes x) (no y) = absurd (l (v.answers.spent_iff.0 (omega arith)))
        go (no x) y = absurd (k (u.answers.spent_iff.0 (omega arith)))

  stays : {A : ℕ} {was is : Answer} → AnsweredBefore A n cs was → Demand3 A n cs is → Stays was is
  stays {A} {was} {is} u v = go (dec_le u.count A)
    where
      go : Dec (u.count ≤ A) → Stays was is
      go (yes l) = shown_stays (no_more u v) (shown u v l (le_trans (no_more u v) l))
      go (no l) =
          let e : was ≡ a_spent A = u.answers.spent_iff.0 (omega arith) in
          record {
            tree = λ f. absurd (let z : ◌≡◌ {A = ℕ} 0 1 = cc in omega arith);
            none = λ f. absurd (let z : ◌≡◌ {A = ℕ} 0 1 = cc in omega arith);
            no_more = subst (λ (a : Answer). count_of is ≤ count_of a) (sym e) (count_within v);
          }

  pub overlap : Overlap n cs
  overlap = record { stays = λ u v. stays u v; sooner = λ u k v l. sooner u v k l }

-- of what is promised of an accepted file
pub promised_stays : {A : ℕ} {file buffer after : List ℕ} {r : Solved} {cs : List Constraint} {was : Answer} → ByteLabels cs → SolverPromise A file buffer r after
    → judge file ≡ accepted cs → 136 ≤ length buffer → AnsweredBefore A (vars cs) cs was → (is : Answer) × (r ≡ solver_answers is) × Stays was is
promised_stays {cs = cs} b p e l u = let a = p.answers e l in (a.0, a.1, (overlap (vars cs) cs (le_refl _) b).stays u a.2.demand_3)

-- ---- the rules of before give an answer to everything, and one

found_inside : {n : ℕ} {S : List Fact} {o : Outcome} {c : ℕ} → EndsBy second_before n S o c → Inside n S → (R : List Fact) → o ≡ in_tree R → Inside n R
found_inside (by_clash k) ins R e = absurd (let z : ◌≡◌ {A = ℕ} 0 1 = cc in omega arith)
found_inside {n} (by_tree {S} k q) ins R e = subst (Inside n) (cc) ins
found_inside {n} (by_first {S} j k f l) ins R e = found_inside l (first_adds n S ins j f.is_join).inside R e
found_inside {n} (by_second {S} j k f l r) ins R e = found_inside r (before_adds n S ins j f.is_join).inside R e

module _ (A n : ℕ) (cs : List Constraint) (few : vars cs ≤ n) where
  computed : EndsBy second_before n (facts_of cs) (search_by second_before n (facts_of cs)).outcome (search_by second_before n (facts_of cs)).count
  computed = search_by_ends second_before n (before_adds n) (facts_of cs) (facts_inside n cs few)

  pub answered_before : AnsweredBefore A n cs (solve_before A n cs)
  unfolding solve_before
  answered_before = record {
    outcome = (search_by second_before n (facts_of cs)).outcome;
    count = (search_by second_before n (facts_of cs)).count;
    ends = computed;
    answers = answers_ended A n _ _ (found_inside computed (facts_inside n cs few));
  }

  pub before_unique : (was : Answer) → AnsweredBefore A n cs was → was ≡ solve_before A n cs
  before_unique was u = go (dec_le u.count A)
    where
      e : (u.outcome ≡ answered_before.outcome) × (u.count ≡ answered_before.count)
      e = ends_by_unique second_before n u.ends answered_before.ends

      -- the computed answer, said of how u ended
      v : Answers A n u.outcome u.count (solve_before A n cs)
      v = subst (λ (o : Outcome). Answers A n o u.count (solve_before A n cs)) (sym e.0)
          (subst (λ (c : ℕ). Answers A n answered_before.outcome c (solve_before A n cs)) (sym e.1) answered_before.answers)

      go : Dec (u.count ≤ A) → was ≡ solve_before A n cs
      go (yes l) = answers_same (λ R q. (holds n R, holds_decides n R (found_inside u.ends (facts_inside n cs few) R q))) v u.answers l l
      go (no l) = u.answers.spent_iff.0 (omega arith) ∙ sym (v.spent_iff.0 (omega arith))
