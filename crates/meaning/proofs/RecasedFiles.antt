-- Files that are equal but for the case of their labels are judged alike: refused by one number, or accepted as constraints of which the same is
-- asked. So are answer files, accepted as trees with the same labels but for their case.
use mathlib.Core.Path.{◌≡◌, refl, sym, ap, ◌∙◌}
use mathlib.Core.Logic.{◌⊎◌, inl, inr}
use mathlib.Core.List.{List, [], ◌∷◌, map, map-map}
use Prim.Native.Nat.{ℕ, suc, ◌+◌}
use native.Mathlib.Omega.{arith}
use lib.ListN.{length, length-map}
use lib.Dec.{leb, eqb}
use Rattle.meaning.specs.Tree.{Var, Label, folded, Assignment, Tree}
use Rattle.meaning.specs.Constraint.{Constraint, is_label, Meets, named, Fact, label, facts}
use Rattle.meaning.specs.Marking.{kind}
use Rattle.meaning.specs.Files.{Quad, quad, quads, small_labels, JudgedRecord, bad, good, judge_pair, judge_single, judge_label, judge_record, Judged, refused, accepted, with_rest, judge_records, judge, all_places, nodes_then_places, of_kind, node_fine, nodes_fine, places_fine, JudgedAnswer, refused_answer, accepted_answer, node_of, judge_quads, judge_answer}
use Rattle.meaning.specs.ReadOff.{NodeRecord}
use Rattle.meaning.specs.Capitals.{EqualButForCase}
use Rattle.meaning.proofs.Tests.{yes_eq, pick_map, is_eq, eq_yes, le_yes}
use Rattle.meaning.proofs.Labels.{capital_range, folded_either, folded_twice, folded_least, folded_blank}

-- ---- files and their records

-- F does not see the case of a record's label
abbrev CaseBlind {ℓ} : {X : Type ℓ} → (List ℕ → X) → Type ℓ
CaseBlind F = (a b c d : ℕ) (bs cs : List ℕ) → F bs ≡ F cs → F (a ∷ b ∷ c ∷ folded d ∷ bs) ≡ F (a ∷ b ∷ c ∷ d ∷ cs)

pub small_kept {ℓ} : {X : Type ℓ} (F : List ℕ → X) → CaseBlind F → (bs : List ℕ) → F (small_labels bs) ≡ F bs
unfolding small_labels
small_kept F f [] = refl
small_kept F f (a ∷ []) = refl
small_kept F f (a ∷ b ∷ []) = refl
small_kept F f (a ∷ b ∷ c ∷ []) = refl
small_kept F f (a ∷ b ∷ c ∷ d ∷ bs) = f a b c d (small_labels bs) bs (small_kept F f bs)

case_kept {ℓ} : {X : Type ℓ} (F : List ℕ → X) → CaseBlind F → (file other : List ℕ) → EqualButForCase file other → F file ≡ F other
case_kept F f file other e = sym (small_kept F f file) ∙ ap F e ∙ small_kept F f other

pub length_kept : (file other : List ℕ) → EqualButForCase file other → length file ≡ length other
length_kept = case_kept length (λ a b c d bs cs e. omega arith)

-- ---- the tests on a label

blank_kept : (l : Label) → eqb (folded l) 0 ≡ eqb l 0
blank_kept l =
    let h = folded_least l in
    yes_eq _ _ (λ y. let e : folded l ≡ 0 = is_eq y in eq_yes {x = l} {y = 0} (omega arith)) (λ y. eq_yes (ap folded (is_eq y) ∙ folded_blank))

some_kept : (l : Label) → leb 1 (folded l) ≡ leb 1 l
some_kept l = folded_either (λ k. leb 1 k ≡ leb 1 l) l
    (λ y. let h = (capital_range l y).0 in le_yes {x = 1} {y = l + 32} (omega arith) ∙ sym (le_yes {x = 1} {y = l} (omega arith)))
    (λ n. refl)

-- ---- constraint files

-- what is asked of a constraint: none of it sees the case
pub record Seen : Type 1 where
  pub facts : List Fact
  pub named : ℕ
  pub kind : ℕ
  pub meets : Tree → Assignment → Type 0

abbrev pub seen : Constraint → Seen
seen c = record { facts = facts c; named = named c; kind = kind c; meets = λ t a. Meets t a c }

label_seen : (x : Var) (l : Label) → seen (is_label x (folded l)) ≡ seen (is_label x l)
unfolding named kind
label_seen x l = λ i. record { facts = label x (folded_twice l i) ∷ []; named = suc x; kind = 8; meets = λ t a. folded (t.label (a x)) ≡ folded_twice l i }

abbrev seen_record : JudgedRecord → ℕ ⊎ Seen
seen_record (bad q) = inl q
seen_record (good c) = inr (seen c)

abbrev pub seen_file : Judged → ℕ ⊎ List Seen
seen_file (refused q) = inl q
seen_file (accepted cs) = inr (map seen cs)

-- with_rest, of what is seen
abbrev seen_rest : ℕ ⊎ Seen → ℕ ⊎ List Seen → ℕ ⊎ List Seen
seen_rest (inl q) r = inl q
seen_rest (inr c) (inl q) = inl q
seen_rest (inr c) (inr cs) = inr (c ∷ cs)

rest_seen : (r : JudgedRecord) (j : Judged) → seen_file (with_rest r j) ≡ seen_rest (seen_record r) (seen_file j)
unfolding with_rest
rest_seen (bad q) j = refl
rest_seen (good c) (refused q) = refl
rest_seen (good c) (accepted cs) = refl

record_seen : (k : ℕ) (x y : Var) (l : Label) → seen_record (judge_record k x y (folded l)) ≡ seen_record (judge_record k x y l)
unfolding judge_record judge_pair judge_single judge_label
record_seen k x y l = simp (pick_map seen_record, blank_kept, some_kept, label_seen)

records_seen : (file other : List ℕ) → EqualButForCase file other → seen_file (judge_records file) ≡ seen_file (judge_records other)
unfolding judge_records
records_seen = case_kept (λ bs. seen_file (judge_records bs)) (λ k x y l bs cs e. simp (rest_seen, record_seen, e))

pub file_seen : (file other : List ℕ) → EqualButForCase file other → seen_file (judge file) ≡ seen_file (judge other)
unfolding judge
file_seen file other e = simp (pick_map seen_file, length_kept file other e, records_seen file other e)

-- ---- answer files

abbrev small_quad : Quad → Quad
small_quad q = quad q.first q.second q.third (folded q.fourth)

abbrev pub small_node : NodeRecord → NodeRecord
small_node v = record { up = v.up; label = folded v.label }

abbrev pub small_answer : JudgedAnswer → JudgedAnswer
small_answer (refused_answer q) = refused_answer q
small_answer (accepted_answer vs ps) = accepted_answer (map small_node vs) ps

places_small : (qs : List Quad) → all_places (map small_quad qs) ≡ all_places qs
unfolding all_places
places_small [] = refl
places_small (q ∷ qs) = rw (places_small qs)

order_small : (qs : List Quad) → nodes_then_places (map small_quad qs) ≡ nodes_then_places qs
unfolding nodes_then_places
order_small [] = refl
order_small (q ∷ qs) = rw (order_small qs, places_small qs)

kind_small : (k : ℕ) (qs : List Quad) → of_kind k (map small_quad qs) ≡ map small_quad (of_kind k qs)
unfolding of_kind
kind_small k [] = refl
kind_small k (q ∷ qs) = simp (pick_map (map small_quad), kind_small k qs)

nodes_fine_small : (i : ℕ) (qs : List Quad) → nodes_fine i (map small_quad qs) ≡ nodes_fine i qs
unfolding nodes_fine node_fine
nodes_fine_small i [] = refl
nodes_fine_small i (q ∷ qs) = rw (nodes_fine_small (suc i) qs, blank_kept)

places_fine_small : (size x : ℕ) (qs : List Quad) → places_fine size x (map small_quad qs) ≡ places_fine size x qs
unfolding places_fine
places_fine_small size x [] = refl
places_fine_small size x (q ∷ qs) = rw (places_fine_small size (suc x) qs, blank_kept)

answer_small : (n : ℕ) (qs : List Quad) → small_answer (judge_quads n (map small_quad qs)) ≡ small_answer (judge_quads n qs)
unfolding judge_quads node_of
answer_small n qs = simp (pick_map small_answer, order_small, kind_small, length-map, nodes_fine_small, places_fine_small, map-map, folded_twice)

quads_small : (answer drawn : List ℕ) → EqualButForCase answer drawn → map small_quad (quads answer) ≡ map small_quad (quads drawn)
unfolding quads
quads_small = case_kept (λ bs. map small_quad (quads bs)) (λ a b c d bs cs e. cc (folded_twice d))

quads_seen : (n : ℕ) (answer drawn : List ℕ) → EqualButForCase answer drawn → small_answer (judge_quads n (quads answer)) ≡ small_answer (judge_quads n (quads drawn))
quads_seen n answer drawn e = cc (answer_small n (quads answer), quads_small answer drawn e, answer_small n (quads drawn))

pub answer_seen : (n : ℕ) (answer drawn : List ℕ) → EqualButForCase answer drawn → small_answer (judge_answer n answer) ≡ small_answer (judge_answer n drawn)
unfolding judge_answer
answer_seen n answer drawn e = simp (pick_map small_answer, length_kept answer drawn e, quads_seen n answer drawn e)
