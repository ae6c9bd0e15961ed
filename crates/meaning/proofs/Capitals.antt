-- Capitals count as small letters: constraint files that are equal but for the case of their labels get one answer from the solver, and one from
-- the marker with answer files that are so too. Each follows from the promises alone.
use mathlib.Core.Path.{◌≡◌, refl, sym, ap, ◌∙◌, subst}
use mathlib.Core.List.Memᴰ
use mathlib.Core.List.{List, [], ◌∷◌, ◌++◌, map}
use Prim.Native.Nat.{ℕ, max, ◌<◌}
use native.Mathlib.Omega.{arith}
use lib.ListN.{length, get_or, length-map, get_or-map}
use Rattle.meaning.specs.Tree.{Node, SameLabel, Assignment, Tree, Parent, Above, self, up, EarlierSibling}
use Rattle.meaning.specs.Constraint.{Constraint, is_child, is_below, is_strictly_below, is_same, is_differ, is_root, is_leaf, is_label, is_before, Meets, vars, facts_of}
use Rattle.meaning.specs.ReadOff.{NodeRecord, blank_record, tree_of}
use Rattle.meaning.specs.Marking.{Mark, unmet, Marks, all_met, not_met, is_met}
use Rattle.meaning.specs.Files.{quad, quads, small_labels, NoCapitals, Judged, refused, accepted, judge, JudgedAnswer, refused_answer, accepted_answer, judge_answer, assigned}
use Rattle.meaning.specs.Results.{Marked, marker_refuses, marker_answers}
use Rattle.meaning.specs.Promises.{MarkerPromise}
use Rattle.meaning.specs.Capitals.{EqualButForCase, CaseAside}
use Rattle.meaning.proofs.Labels.{folded_other, folded_twice}
use Rattle.meaning.proofs.Congruence.{SameFacts}
use Rattle.meaning.proofs.SameAnswer.{one_refusal, one_answer}
use Rattle.meaning.proofs.RecasedFiles.{small_kept, Seen, seen, seen_file, file_seen, small_node, small_answer, answer_seen}

-- ---- trees

-- they differ in the case of their labels alone
record Recased (t u : Tree) : Type 0 where
  size : t.size ≡ u.size
  parent : (v : Node) → t.parent v ≡ u.parent v
  label : (v : Node) → SameLabel (t.label v) (u.label v)

recased_back : {t u : Tree} → Recased t u → Recased u t
recased_back r = record { size = sym r.size; parent = λ v. sym (r.parent v); label = λ v. sym (r.label v) }

module _ {t u : Tree} (r : Recased t u) where
  parent_kept : {v w : Node} → Parent t v w → Parent u v w
  parent_kept {w = w} p = record { not_first = p.not_first; inside = subst (λ (k : ℕ). w < k) r.size p.inside; is = sym (r.parent w) ∙ p.is }

  above_kept : {v w : Node} → Above t v w → Above u v w
  above_kept self = self
  above_kept (up p h) = up (parent_kept p) (above_kept h)

  sibling_kept : {v w : Node} → EarlierSibling t v w → EarlierSibling u v w
  sibling_kept h = record { above = h.above; parent_u = parent_kept h.parent_u; parent_v = parent_kept h.parent_v; smaller = h.smaller }

meets_kept : {t u : Tree} → Recased t u → (a : Assignment) (c : Constraint) → Meets t a c → Meets u a c
meets_kept r a (is_child x y) h = parent_kept r h
meets_kept r a (is_below x y) h = above_kept r h
meets_kept r a (is_strictly_below x y) h = (above_kept r h.0, h.1)
meets_kept r a (is_same x y) h = h
meets_kept r a (is_differ x y) h = h
meets_kept r a (is_root x) h = λ v p. h v (parent_kept (recased_back r) p)
meets_kept r a (is_leaf x) h = λ v p. h v (parent_kept (recased_back r) p)
meets_kept r a (is_label x l) h = sym (r.label (a x)) ∙ h
meets_kept r a (is_before x y) h = sibling_kept r h

tree_recased : (vs ws : List NodeRecord) → map small_node vs ≡ map small_node ws → Recased (tree_of vs) (tree_of ws)
unfolding tree_of
tree_recased vs ws e = record {
  size = sym (length-map vs small_node) ∙ ap length e ∙ length-map ws small_node;
  parent = λ v. ap (λ (q : NodeRecord). q.up) (node v);
  label = λ v. ap (λ (q : NodeRecord). q.label) (node v);
}
  where
    node : (v : Node) → small_node (get_or vs v blank_record) ≡ small_node (get_or ws v blank_record)
    node v = sym (get_or-map small_node vs v blank_record) ∙ ap (λ (qs : List NodeRecord). get_or qs v (small_node blank_record)) e ∙ get_or-map small_node ws v blank_record

-- ---- constraints

-- all that the solver is asked
facts_vars : (cs ds : List Constraint) → map seen cs ≡ map seen ds → (facts_of cs ≡ facts_of ds) × (vars ds ≡ vars cs)
unfolding vars
facts_vars [] [] e = (refl, refl)
facts_vars [] (d ∷ ds) e = (cc, cc)
facts_vars (c ∷ cs) [] e = (cc, cc)
facts_vars (c ∷ cs) (d ∷ ds) e =
    let h : seen c ≡ seen d = cc in
    let w = facts_vars cs ds (cc) in
    (λ i. (h i).facts ++ w.0 i, λ i. max (sym h i).named (w.1 i))

seen_meets : {t u : Tree} → Recased t u → (a : Assignment) (c d : Constraint) → seen c ≡ seen d → Meets t a c → Meets u a d
seen_meets {t} r a c d e h = meets_kept r a d (coe 0 1 (i. (e i).meets t a) h)

not_empty : {s : Seen} {ss : List Seen} → s ∷ ss ≡ [] → ⊥
not_empty e = let z : ◌≡◌ {A = ℕ} 0 1 = cc in omega arith

-- the first that is not met stands at the same place and is of the same kind
marks_kept : {t u : Tree} → Recased t u → {a : Assignment} {cs : List Constraint} {m : Mark} → Marks t a cs m
    → (ds : List Constraint) → map seen cs ≡ map seen ds → Marks u a ds m
marks_kept r all_met [] e = all_met
marks_kept r all_met (d ∷ ds) e = absurd (not_empty (sym e))
marks_kept r (not_met h) [] e = absurd (not_empty e)
marks_kept {u = u} r {a = a} (not_met {c} h) (d ∷ ds) e =
    let s : seen d ≡ seen c = cc in
    subst (λ (k : ℕ). Marks u a (d ∷ ds) (unmet 0 k)) (ap (λ (x : Seen). x.kind) s) (not_met (λ m. h (seen_meets (recased_back r) a d c s m)))
marks_kept r (is_met h w) [] e = absurd (not_empty e)
marks_kept r {a = a} (is_met {c} h w) (d ∷ ds) e = let s : seen c ≡ seen d = cc in is_met (seen_meets r a c d s h) (marks_kept r w ds (cc))

-- ---- files

-- the file with its capitals made small is one that is equal but for case
pub made_small : (bs : List ℕ) → EqualButForCase bs (small_labels bs)
unfolding small_labels
made_small bs = sym (small_kept small_labels (λ a b c d bs cs e. cc (folded_twice d)) bs)

-- a file without capitals is its own small one
pub kept_small : (bs : List ℕ) → NoCapitals bs → small_labels bs ≡ bs
unfolding small_labels quads
kept_small [] h = refl
kept_small (a ∷ []) h = refl
kept_small (a ∷ b ∷ []) h = refl
kept_small (a ∷ b ∷ c ∷ []) h = refl
kept_small (a ∷ b ∷ c ∷ d ∷ bs) h = cc (folded_other d (h (quad a b c d) (Memᴰ.head refl)), kept_small bs (λ q m. h q (Memᴰ.tail m)))

-- of two accepted files
module _ {file other answer drawn : List ℕ} {r s : Marked} (u : MarkerPromise file answer r) (v : MarkerPromise other drawn s)
    {cs ds : List Constraint} (f : judge file ≡ accepted cs) (g : judge other ≡ accepted ds) (e : map seen cs ≡ map seen ds) where
  marked_alike : (i j : JudgedAnswer) → judge_answer (vars cs) answer ≡ i → judge_answer (vars ds) drawn ≡ j → small_answer i ≡ small_answer j → s ≡ r
  marked_alike (refused_answer p) (refused_answer q) a b h = v.refuses_answer g b ∙ ap marker_refuses (cc) ∙ sym (u.refuses_answer f a)
  marked_alike (refused_answer p) (accepted_answer ws qs) a b h = cc
  marked_alike (accepted_answer vs ps) (refused_answer q) a b h = cc
  marked_alike (accepted_answer vs ps) (accepted_answer ws qs) a b h =
      let m = u.answers f a in
      let n = v.answers g b in
      let o : ps ≡ qs = cc in
      let w = marks_kept (tree_recased vs ws (cc)) m.2.marks ds e in
      n.1 ∙ ap marker_answers (sym (n.2.only (subst (λ (l : List Node). Marks (tree_of ws) (assigned l) ds m.0) o w))) ∙ sym m.1

pub case_aside : {file other : List ℕ} → EqualButForCase file other → CaseAside file other
case_aside {file} {other} e = by (judge file) (judge other) refl refl (file_seen file other e)
  where
    by : (i j : Judged) → judge file ≡ i → judge other ≡ j → seen_file i ≡ seen_file j → CaseAside file other
    by (refused p) (refused q) f g h =
        let k : judge other ≡ refused p = cc in
        record { solved = one_refusal f k; marked = λ d u v. v.refuses k ∙ sym (u.refuses f) }
    by (refused p) (accepted ds) f g h = let z : ◌≡◌ {A = ℕ} 0 1 = cc in absurd (omega arith)
    by (accepted cs) (refused q) f g h = let z : ◌≡◌ {A = ℕ} 0 1 = cc in absurd (omega arith)
    by (accepted cs) (accepted ds) f g h =
        let k : map seen cs ≡ map seen ds = cc in
        let w = facts_vars cs ds k in
        record {
          solved = one_answer f g (subst (SameFacts (facts_of cs)) w.0 (record { to = λ x m. m; fro = λ x m. m })) w.1;
          marked = λ {answer} {drawn} d u v. marked_alike u v f g k (judge_answer (vars cs) answer) (judge_answer (vars ds) drawn) refl refl
              (answer_seen (vars cs) answer drawn d ∙ ap (λ (n : ℕ). small_answer (judge_answer n drawn)) (sym w.1));
        }
