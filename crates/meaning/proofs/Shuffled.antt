-- Records in another order: the other file is accepted or refused as the first is, the solver owes both one answer, and the marker says met of
-- both or of neither, naming the first unmet record in the order of the file that it marks. Each follows from the promises alone.
use mathlib.Core.Path.{◌≡◌, refl, sym, ap, ◌∙◌, subst}
use mathlib.Core.Logic.{◌↔◌, ⊎_elim}
use mathlib.Core.List.Memᴰ
use mathlib.Core.List.{List, [], ◌∷◌, ◌++◌, map, Memᴰ}
use Prim.Native.Nat.{ℕ, suc, ◌*◌, ◌<◌}
use native.Mathlib.Omega.{arith}
use lib.ListN.{length}
use Rattle.meaning.specs.Tree.{Node, Assignment, Tree}
use Rattle.meaning.specs.Constraint.{Constraint, Meets, vars}
use Rattle.meaning.specs.ReadOff.{NodeRecord, tree_of}
use Rattle.meaning.specs.Marking.{Mark, met, unmet, kind, further, Marks, all_met, not_met, is_met}
use Rattle.meaning.specs.Files.{Quad, quads, Whole, quad_of, JudgedRecord, bad, good, judge_record, Spells, Judged, refused, accepted, with_rest, judge_records, judge, JudgedAnswer, refused_answer, accepted_answer, judge_answer, assigned}
use Rattle.meaning.specs.Results.{Marked, marker_refuses, marker_answers}
use Rattle.meaning.specs.Promises.{MarkerPromise}
use Rattle.meaning.specs.Shuffled.{Reordered, AnotherOrder, FirstAt, FirstRefused, SameSolved, MetRecord, UnmetRecord, FirstUnmet, SameMarked}
use Rattle.meaning.proofs.Records.{Askable, kind_first, spells, FileOf, quads_length, accepted_file, file_accepted, long_refused, refused_long, refused_records}
use Rattle.meaning.proofs.SameAnswer.{SameConstraints, same_facts, same_vars, one_answer}
use Rattle.meaning.proofs.Reordered.{reordered_back, reordered_length, reordered_in, reordered_map}

order_back : {file other : List ℕ} → AnotherOrder file other → AnotherOrder other file
order_back p = record { whole = p.other_whole; other_whole = p.whole; reordered = reordered_back p.reordered }

same_constraints : {cs ds : List Constraint} → Reordered cs ds → SameConstraints cs ds
same_constraints p = record { to = λ c m. reordered_in p m; fro = λ c m. reordered_in (reordered_back p) m }

-- ---- what the questions say

order_length : {file other : List ℕ} → AnotherOrder file other → length other ≡ length file
order_length {file} {other} p =
    sym (quads_length other p.other_whole) ∙ ap (λ (k : ℕ). 4 * k) (sym (reordered_length p.reordered)) ∙ quads_length file p.whole

-- the other file's constraints are the first one's, reordered
record Refiled (other : List ℕ) (cs : List Constraint) : Type 0 where
  list : List Constraint
  reordered : Reordered cs list
  judged : judge other ≡ accepted list

module _ {file other : List ℕ} (p : AnotherOrder file other) where
  refiled : {cs : List Constraint} → judge file ≡ accepted cs → Refiled other cs
  refiled {cs} e =
      let f = accepted_file e in
      let w = reordered_map quad_of p.reordered cs f.of.records in
      let l = order_length p in
      let s = f.short in
      record {
        list = w.list;
        reordered = w.reordered;
        judged = file_accepted (record {
          short = omega arith;
          whole = p.other_whole;
          of = record { records = w.is_map; askable = λ c m. f.of.askable c (reordered_in (reordered_back w.reordered) m) };
        });
      }

  still_long : judge file ≡ refused 1 → judge other ≡ refused 1
  still_long e = let h = refused_long file e in let l = order_length p in long_refused other (omega arith)

accepted_not : {cs : List Constraint} {q : ℕ} → accepted cs ≡ refused q → ⊥
accepted_not e = let z : ◌≡◌ {A = ℕ} 0 1 = cc in omega arith

number_is : {p q : ℕ} → refused p ≡ refused q → p ≡ q
number_is e = cc

-- ---- the first that is looked for

first_here : {A : Type 0} {P : A → Type 0} {x : A} {xs : List A} → FirstAt P (x ∷ xs) 0 x
first_here {xs = xs} = record { earlier = []; later = xs; is_list = refl; position = refl; otherwise = λ y m. absurd (Memᴰ.not-nil m) }

first_further : {A : Type 0} {P : A → Type 0} {x y : A} {xs : List A} {i : ℕ} → P y → FirstAt P xs i x → FirstAt P (y ∷ xs) (suc i) x
first_further {P = P} {y = y} h f = record {
  earlier = y ∷ f.earlier;
  later = f.later;
  is_list = ap (λ (l : List _). y ∷ l) f.is_list;
  position = ap suc f.position;
  otherwise = λ z m. ⊎_elim (λ e. subst P (sym e) h) (f.otherwise z) (Memᴰ.cases_cons m);
}

first_refused : (bs : List ℕ) (p : ℕ) → Whole bs → judge_records bs ≡ refused p → FirstRefused (quads bs) p
unfolding judge_records quads with_rest
first_refused [] p w e = absurd (accepted_not e)
first_refused (k ∷ []) p w e = absurd (omega arith)
first_refused (k ∷ x ∷ []) p w e = absurd (omega arith)
first_refused (k ∷ x ∷ y ∷ []) p w e = absurd (omega arith)
first_refused (k ∷ x ∷ y ∷ l ∷ bs) p w e = by (judge_record k x y l) (judge_records bs) refl refl e (λ d. first_refused bs p (omega arith) d)
  where
    by : (r : JudgedRecord) (j : Judged) → judge_record k x y l ≡ r → judge_records bs ≡ j → with_rest r j ≡ refused p
        → (judge_records bs ≡ refused p → FirstRefused (quads bs) p) → FirstRefused (quads (k ∷ x ∷ y ∷ l ∷ bs)) p
    by (bad q) j d f g h = (0, _, first_here, d ∙ ap bad (number_is g))
    by (good c) (accepted cs) d f g h = absurd (accepted_not g)
    by (good c) (refused q) d f g h = let u = h (f ∙ g) in (suc u.0, u.1, first_further (c, d) u.2, u.3)

module _ {file other : List ℕ} (p : AnotherOrder file other) where
  abbrev StillRefused : ℕ → Type 0
  StillRefused q = (k : ℕ) × (judge other ≡ refused k) × ((k ≡ 1) ↔ (q ≡ 1)) × (¬ (k ≡ 1) → FirstRefused (quads other) k)

  still_refused : {q : ℕ} → judge file ≡ refused q → StillRefused q
  still_refused {q} d = by (judge other) refl
    where
      by : (j : Judged) → judge other ≡ j → StillRefused q
      by (accepted ds) e = absurd (accepted_not (sym (refiled (order_back p) e).judged ∙ d))
      by (refused k) e = (
        k,
        e,
        (λ z. number_is (sym d ∙ still_long (order_back p) (e ∙ ap refused z)), λ z. number_is (sym e ∙ still_long p (d ∙ ap refused z))),
        λ n. first_refused other k p.other_whole (refused_records other p.other_whole e n),
      )

-- ---- the solver

pub same_solved : {file other : List ℕ} → AnotherOrder file other → SameSolved file other
same_solved p = record {
  accepts = λ e. let w = refiled p e in (w.list, w.judged, same_vars (same_constraints w.reordered));
  refuses = still_refused p;
  answers = λ e. let w = refiled p e in let c = same_constraints w.reordered in one_answer e w.judged (same_facts c) (same_vars c);
}

-- ---- the first unmet record

spells_one : (q : Quad) {c d : Constraint} → Spells q c → Spells q d → c ≡ d
spells_one q {c} {d} e f = let g : good c ≡ good d = sym e ∙ f in cc

module _ (t : Tree) (a : Assignment) where
  -- the record of a constraint is met when the constraint is
  record_meets : {c : Constraint} → Askable c → MetRecord t a (quad_of c) → Meets t a c
  record_meets {c} k m = subst (Meets t a) (spells_one (quad_of c) m.1 (spells c k)) m.2

  record_fails : {c : Constraint} → Askable c → UnmetRecord t a (quad_of c) → ¬ Meets t a c
  record_fails {c} k m h = m.2 (subst (Meets t a) (spells_one (quad_of c) (spells c k) m.1) h)

  marks_first : {cs : List Constraint} {m : Mark} → ((c : Constraint) → Memᴰ c cs → Askable c) → Marks t a cs m
      → (i k : ℕ) → m ≡ unmet i k → FirstUnmet t a (map quad_of cs) i k
  unfolding further
  marks_first ask all_met i k d = let z : ◌≡◌ {A = ℕ} 0 1 = cc in absurd (omega arith)
  marks_first ask (not_met {c} {cs} h) i k d =
      let z : 0 ≡ i = cc in
      let y : kind c ≡ k = cc in
      (quad_of c, subst (λ (j : ℕ). FirstAt (MetRecord t a) (map quad_of (c ∷ cs)) j (quad_of c)) z first_here, (c, spells c (ask c (Memᴰ.head refl)), h), sym (kind_first c) ∙ y)
  marks_first ask (is_met {c} {cs} {m} h w) i k d = by m d (λ j l z. marks_first (λ c n. ask c (Memᴰ.tail n)) w j l z)
    where
      by : (x : Mark) → further x ≡ unmet i k → ((j l : ℕ) → x ≡ unmet j l → FirstUnmet t a (map quad_of cs) j l) → FirstUnmet t a (map quad_of (c ∷ cs)) i k
      by met z f = let y : ◌≡◌ {A = ℕ} 0 1 = cc in absurd (omega arith)
      by (unmet j l) z f =
          let y : suc j ≡ i = cc in
          let x : l ≡ k = cc in
          let u = f j l refl in
          let g = first_further (c, spells c (ask c (Memᴰ.head refl)), h) u.1 in
          (u.0, subst (λ (o : ℕ). FirstAt (MetRecord t a) (map quad_of (c ∷ cs)) o u.0) y g, u.2, u.3 ∙ x)

  first_marks : (cs : List Constraint) (earlier : List Quad) (at : Quad) (later : List Quad) → ((c : Constraint) → Memᴰ c cs → Askable c)
      → map quad_of cs ≡ earlier ++ (at ∷ later) → ((q : Quad) → Memᴰ q earlier → MetRecord t a q) → UnmetRecord t a at
      → Marks t a cs (unmet (length earlier) at.first)
  unfolding further
  first_marks [] [] at later ask e m u = let z : ◌≡◌ {A = ℕ} 0 1 = cc in absurd (omega arith)
  first_marks [] (q ∷ qs) at later ask e m u = let z : ◌≡◌ {A = ℕ} 0 1 = cc in absurd (omega arith)
  first_marks (c ∷ cs) [] at later ask e m u =
      let h : at ≡ quad_of c = cc in
      subst (λ (k : ℕ). Marks t a (c ∷ cs) (unmet 0 k)) (kind_first c ∙ ap (λ (q : Quad). q.first) (sym h))
      (not_met (record_fails (ask c (Memᴰ.head refl)) (subst (UnmetRecord t a) h u)))
  first_marks (c ∷ cs) (q ∷ qs) at later ask e m u =
      let h : q ≡ quad_of c = cc in
      let r : map quad_of cs ≡ qs ++ (at ∷ later) = cc in
      is_met (record_meets (ask c (Memᴰ.head refl)) (subst (MetRecord t a) h (m q (Memᴰ.head refl))))
      (first_marks cs qs at later (λ d n. ask d (Memᴰ.tail n)) r (λ p n. m p (Memᴰ.tail n)) u)

-- ---- the marker

-- of any accepted file: the position that is named is that of the first unmet record, in the file's own order
unmet_in_order : {file answer : List ℕ} {r : Marked} {cs : List Constraint} {vs : List NodeRecord} {ps : List Node} {i k : ℕ}
    → judge file ≡ accepted cs → judge_answer (vars cs) answer ≡ accepted_answer vs ps → MarkerPromise file answer r
    → (r ≡ marker_answers (unmet i k)) ↔ FirstUnmet (tree_of vs) (assigned ps) (quads file) i k
unmet_in_order {file} {answer} {r} {cs} {vs} {ps} {i} {k} e d u = (to, from)
  where
    f : FileOf file cs
    f = accepted_file e

    to : r ≡ marker_answers (unmet i k) → FirstUnmet (tree_of vs) (assigned ps) (quads file) i k
    to h =
        let w = u.answers e d in
        let z : marker_answers w.0 ≡ marker_answers (unmet i k) = sym w.1 ∙ h in
        subst (λ (qs : List Quad). FirstUnmet (tree_of vs) (assigned ps) qs i k) (sym f.of.records)
        (marks_first (tree_of vs) (assigned ps) f.of.askable w.2.marks i k (cc))

    from : FirstUnmet (tree_of vs) (assigned ps) (quads file) i k → r ≡ marker_answers (unmet i k)
    from g =
        let w = u.answers e d in
        let l = g.1 in
        let m = first_marks (tree_of vs) (assigned ps) cs l.earlier g.0 l.later f.of.askable (sym f.of.records ∙ l.is_list) l.otherwise g.2 in
        w.1 ∙ ap marker_answers (sym (w.2.only m)) ∙ ap (λ (j : ℕ). marker_answers (unmet j g.0.first)) l.position
        ∙ ap (λ (j : ℕ). marker_answers (unmet i j)) g.3

pub answers_not : {q : ℕ} {m : Mark} → marker_answers m ≡ marker_refuses q → ⊥
answers_not e = let z : ◌≡◌ {A = ℕ} 0 1 = cc in omega arith

module _ {file other : List ℕ} (p : AnotherOrder file other) {answer : List ℕ} {r s : Marked} (u : MarkerPromise file answer r) (v : MarkerPromise other answer s)
    {cs : List Constraint} (e : judge file ≡ accepted cs) where
  w : Refiled other cs
  w = refiled p e

  -- the answer file is asked the same questions, which depend on n alone
  asked_alike : {j : JudgedAnswer} → judge_answer (vars cs) answer ≡ j → judge_answer (vars w.list) answer ≡ j
  asked_alike d = ap (λ (n : ℕ). judge_answer n answer) (same_vars (same_constraints w.reordered)) ∙ d

  refused_alike : {q : ℕ} (j : JudgedAnswer) → judge_answer (vars cs) answer ≡ j → r ≡ marker_refuses q → s ≡ marker_refuses q
  refused_alike (refused_answer k) d h = v.refuses_answer w.judged (asked_alike d) ∙ sym (u.refuses_answer e d) ∙ h
  refused_alike (accepted_answer vs ps) d h = absurd (answers_not (sym (u.answers e d).1 ∙ h))

  met_alike : (j : JudgedAnswer) → judge_answer (vars cs) answer ≡ j → r ≡ marker_answers met → s ≡ marker_answers met
  met_alike (refused_answer k) d h = absurd (answers_not (sym h ∙ u.refuses_answer e d))
  met_alike (accepted_answer vs ps) d h =
      let a = u.answers e d in
      let b = v.answers w.judged (asked_alike d) in
      let z : marker_answers a.0 ≡ marker_answers met = sym a.1 ∙ h in
      let all = a.2.met_iff.0 (cc) in
      let n = same_vars (same_constraints w.reordered) in
      b.1 ∙ ap marker_answers (b.2.met_iff.1 (record {
        placed = λ x l. all.placed x (subst (λ (k : ℕ). x < k) n l);
        every = λ c m. all.every c (reordered_in (reordered_back w.reordered) m);
      }))

pub same_marked : {file other : List ℕ} → AnotherOrder file other → SameMarked file other
same_marked p = record {
  refuses_iff = λ {cs} {answer} e u v. let w = refiled p e in (
    λ h. refused_alike (order_back p) v u w.judged (judge_answer (vars w.list) answer) refl h,
    λ h. refused_alike p u v e (judge_answer (vars cs) answer) refl h,
  );
  met_iff = λ {cs} {answer} e u v. let w = refiled p e in (
    λ h. met_alike (order_back p) v u w.judged (judge_answer (vars w.list) answer) refl h,
    λ h. met_alike p u v e (judge_answer (vars cs) answer) refl h,
  );
  unmet_iff = λ {cs} {answer} e d v. let w = refiled p e in
      unmet_in_order w.judged (ap (λ (n : ℕ). judge_answer n answer) (same_vars (same_constraints w.reordered)) ∙ d) v;
}
