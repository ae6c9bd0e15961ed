-- Questions 8 to 11 of node records alone: what they accept, that they accept the records of an ordered tree in document order, and that they
-- accept what the marker's questions accept of an answer file with no variable, with the same nodes.
use mathlib.Core.Path.{◌≡◌, refl, sym, ap, ◌∙◌, subst}
use mathlib.Core.Logic.{⊎_elim}
use mathlib.Core.Bool.{Bool, true, false}
use mathlib.Core.List.{List, [], ◌∷◌, map, append-nil}
use Prim.Native.Nat.{ℕ, suc, ◌+◌, ◌*◌, ◌%◌, ◌≤◌, ◌<◌}
use native.Mathlib.Nat.{zero-add}
use native.Mathlib.Decide.{dec_lt}
use native.Mathlib.Omega.{arith}
use lib.ListN.{length, get_or, length-map}
use lib.Dec.{eqb, leb}
use Rattle.meaning.specs.Finite.{Yes, pick, ◌and◌}
use Rattle.meaning.specs.Tree.{Node, Parent}
use Rattle.meaning.specs.ReadOff.{NodeRecord, blank_record, tree_of, node_bytes}
use Rattle.meaning.specs.Files.{Quad, quads, nodes_then_places, of_kind, nodes_fine, places_fine, JudgedAnswer, refused_answer, accepted_answer, node_of, judge_quads, judge_answer, all_nodes, JudgedNodes, refused_nodes, accepted_nodes, judge_nodes}
use Rattle.meaning.specs.Xml.{Element, alone, count, document_records}
use Rattle.meaning.proofs.Tests.{pick_yes, pick_no, is_eq, eq_yes, self_eq, is_le, le_yes, and_left, and_right, and_both, or_left, or_cases}
use Rattle.meaning.proofs.Records.{length_quads}
use Rattle.meaning.proofs.XmlTrees.{document_size, document_smaller, document_below}
use Rattle.theory.proofs.AnswerFile.{node_quads, quads_nodes, nodes_back, length_nodes, nodes_fine_lem, WellNumbered, length_node_bytes}
use Rattle.theory.proofs.AnswerRead.{nodes_numbered}
use Rattle.theory.proofs.XmlOrdered.{Shape}

-- ---- what is accepted

pub record Accepted (vs : List NodeRecord) : Type 0 where
  pub two_nodes : 1 < length vs
  pub few : length vs ≤ 64
  pub numbered : (k : ℕ) → k < length vs → WellNumbered k (get_or vs k blank_record)

is_nodes : {us ws : List NodeRecord} → accepted_nodes us ≡ accepted_nodes ws → us ≡ ws
is_nodes d = cc

passed : {vs : List NodeRecord} (r : ℕ) (b : Bool) (j : JudgedNodes) → pick b j (refused_nodes r) ≡ accepted_nodes vs → Yes b × (j ≡ accepted_nodes vs)
unfolding pick
passed r true j e = (refl, e)
passed r false j e = let z : ◌≡◌ {A = ℕ} 0 1 = cc in absurd (omega arith)

-- they are whole records, and the nodes are theirs
record Passed (bs : List ℕ) (vs : List NodeRecord) : Type 0 where
  whole : length bs % 4 ≡ 0
  two : 2 ≤ length (quads bs)
  few : length (quads bs) ≤ 64
  fine : Yes (nodes_fine 0 (quads bs))
  are : map node_of (quads bs) ≡ vs

all_passed : (bs : List ℕ) (vs : List NodeRecord) → judge_nodes bs ≡ accepted_nodes vs → Passed bs vs
unfolding judge_nodes
all_passed bs vs e =
    let q8 = passed 8 _ _ e in
    let q9 = passed 9 _ _ q8.1 in
    let q10 = passed 10 _ _ q9.1 in
    let q11 = passed 11 _ _ q10.1 in
    record { whole = is_eq q8.0; two = is_le (and_left _ q10.0); few = is_le (and_right _ q10.0); fine = q11.0; are = is_nodes q11.1 }

pub judged_whole : (bs : List ℕ) (vs : List NodeRecord) → judge_nodes bs ≡ accepted_nodes vs → length bs % 4 ≡ 0
judged_whole bs vs e = (all_passed bs vs e).whole

pub judged_records : (bs : List ℕ) (vs : List NodeRecord) → judge_nodes bs ≡ accepted_nodes vs → map node_of (quads bs) ≡ vs
judged_records bs vs e = (all_passed bs vs e).are

pub nodes_accepted : (bs : List ℕ) (vs : List NodeRecord) → judge_nodes bs ≡ accepted_nodes vs → Accepted vs
nodes_accepted bs vs e =
    let p = all_passed bs vs e in
    let d = p.are in
    let n : length vs ≡ length (quads bs) = ap length (sym d) ∙ length-map (quads bs) node_of in
    let a = p.two in
    let b = p.few in
    record {
      two_nodes = omega arith;
      few = omega arith;
      numbered = λ k l. subst (λ (ws : List NodeRecord). WellNumbered k (get_or ws k blank_record)) d
          (subst (λ (j : ℕ). WellNumbered j (get_or (map node_of (quads bs)) k blank_record)) (zero-add k) (nodes_numbered 0 (quads bs) p.fine k (omega arith)));
    }

-- as many records as nodes
pub judged_length : (bs : List ℕ) (vs : List NodeRecord) → judge_nodes bs ≡ accepted_nodes vs → length bs ≡ 4 * length vs
judged_length bs vs e =
    let p = all_passed bs vs e in
    let n : length vs ≡ length (quads bs) = ap length (sym p.are) ∙ length-map (quads bs) node_of in
    let m = p.whole in
    let l = length_quads bs in
    omega arith

all_nodes_lem : (i : ℕ) (vs : List NodeRecord) → Yes (all_nodes (node_quads i vs))
unfolding all_nodes node_quads
all_nodes_lem i [] = refl
all_nodes_lem i (v ∷ vs) = and_both (self_eq 1) (all_nodes_lem (suc i) vs)

nodes_quads : (vs : List NodeRecord) → quads (node_bytes 0 vs) ≡ node_quads 0 vs
nodes_quads vs = ap quads (sym (append-nil (node_bytes 0 vs))) ∙ quads_nodes 0 vs [] ∙ (unfold quads in append-nil _)

pub accepted_judged : (vs : List NodeRecord) → Accepted vs → judge_nodes (node_bytes 0 vs) ≡ accepted_nodes vs
unfolding judge_nodes
accepted_judged vs a =
    let n = length_node_bytes 0 vs in
    let e = nodes_quads vs in
    let l : length (quads (node_bytes 0 vs)) ≡ length vs = ap length e ∙ length_nodes 0 vs in
    pick_yes _ _ (eq_yes (fours (length vs) n))
    ∙ pick_yes _ _ (subst (λ (qs : List Quad). Yes (all_nodes qs)) (sym e) (all_nodes_lem 0 vs))
    ∙ pick_yes _ _ (subst (λ (k : ℕ). Yes (leb 2 k and leb k 64)) (sym l) (and_both (le_yes {x = 2} {y = length vs} a.two_nodes) (le_yes {x = length vs} {y = 64} a.few)))
    ∙ pick_yes _ _ (subst (λ (qs : List Quad). Yes (nodes_fine 0 qs)) (sym e)
    (nodes_fine_lem 0 vs (λ k l. subst (λ (j : ℕ). WellNumbered j (get_or vs k blank_record)) (sym (zero-add k)) (a.numbered k l))))
    ∙ ap accepted_nodes (ap (map node_of) e ∙ nodes_back 0 vs)
  where
    fours : {n : ℕ} (k : ℕ) → n ≡ 4 * k → n % 4 ≡ 0
    fours k e = omega arith

pub accepted_shape : (vs : List NodeRecord) → Accepted vs → Shape (tree_of vs)
unfolding tree_of
accepted_shape vs a = record {
  two_nodes = a.two_nodes;
  one_child = λ v p. only v p (dec_lt 1 v);
  smaller = λ v p l. (a.numbered v l).later p;
}
  where
    only : (v : Node) → Parent (tree_of vs) 0 v → Dec (1 < v) → v ≡ 1
    only v p (yes l) = absurd (let q = (a.numbered v p.inside).not_first l in let e : (get_or vs v blank_record).up ≡ 0 = p.is in omega arith)
    only v p (no l) = let q = p.not_first in omega arith

-- ---- the records of an ordered tree in document order

-- the document node is blank, and the parents of the others are smaller; only node 1 stands next under it
document_numbered : (e : Element) (k : ℕ) → k < length (document_records e) → WellNumbered k (get_or (document_records e) k blank_record)
unfolding document_records tree_of
document_numbered e k l = record { first = λ z. at_first z; later = λ a. document_smaller e k a l; not_first = λ a. document_below e k a l }
  where
    at_first : k ≡ 0 → ((get_or (document_records e) k blank_record).up ≡ 0) × ((get_or (document_records e) k blank_record).label ≡ 0)
    at_first z =
        let f : get_or (document_records e) k blank_record ≡ blank_record = ap (λ (i : ℕ). get_or (document_records e) i blank_record) z in
        (ap (λ (v : NodeRecord). v.up) f, ap (λ (v : NodeRecord). v.label) f)

-- the records in document order are accepted
pub document_accepted : (e : Element) → suc (count (alone e)) ≤ 64 → Accepted (document_records e)
document_accepted e l =
    let n = document_size e in
    let c : count (alone e) ≡ suc (count e.children + 0) = unfold count in refl in
    record { two_nodes = omega arith; few = omega arith; numbered = document_numbered e }

pub document_judged : (e : Element) → suc (count (alone e)) ≤ 64 → judge_nodes (node_bytes 0 (document_records e)) ≡ accepted_nodes (document_records e)
document_judged e l = accepted_judged (document_records e) (document_accepted e l)

-- ---- beside the marker's questions

then_places : (qs : List Quad) → Yes (all_nodes qs) → Yes (nodes_then_places qs)
unfolding all_nodes nodes_then_places
then_places [] y = refl
then_places (q ∷ qs) y = or_left _ (and_both (and_left _ y) (then_places qs (and_right _ y)))

all_kept : (qs : List Quad) → Yes (all_nodes qs) → of_kind 1 qs ≡ qs
unfolding all_nodes of_kind
all_kept [] y = refl
all_kept (q ∷ qs) y = pick_yes _ _ (and_left _ y) ∙ ap (λ (r : List Quad). q ∷ r) (all_kept qs (and_right _ y))

none_placed : (qs : List Quad) → Yes (all_nodes qs) → of_kind 2 qs ≡ []
unfolding all_nodes of_kind
none_placed [] y = refl
none_placed (q ∷ qs) y =
    let e : q.first ≡ 1 = is_eq (and_left _ y) in
    pick_no _ _ (λ z. let d : q.first ≡ 2 = is_eq z in omega arith) ∙ none_placed qs (and_right _ y)

only_nodes : (qs : List Quad) → Yes (nodes_then_places qs) → length (of_kind 2 qs) ≡ 0 → Yes (all_nodes qs)
unfolding all_nodes nodes_then_places of_kind
only_nodes [] y e = refl
only_nodes (q ∷ qs) y e =
    ⊎_elim
    (λ t. let f : q.first ≡ 1 = is_eq (and_left _ t) in
    let n : ¬ Yes (eqb q.first 2) = λ z. let d : q.first ≡ 2 = is_eq z in omega arith in
    and_both (and_left _ t) (only_nodes qs (and_right _ t) (sym (ap length (pick_no (q ∷ of_kind 2 qs) (of_kind 2 qs) n)) ∙ e)))
    (λ t. let d = ap length (pick_yes (q ∷ of_kind 2 qs) (of_kind 2 qs) (and_left _ t)) in absurd (omega arith))
    (or_cases _ _ y)

passed_answer : {vs : List NodeRecord} {ps : List Node} (r : ℕ) (b : Bool) (j : JudgedAnswer) → pick b j (refused_answer r) ≡ accepted_answer vs ps → Yes b × (j ≡ accepted_answer vs ps)
unfolding pick
passed_answer r true j e = (refl, e)
passed_answer r false j e = let z : ◌≡◌ {A = ℕ} 0 1 = cc in absurd (omega arith)

pub nodes_answer : (bs : List ℕ) (vs : List NodeRecord) → judge_nodes bs ≡ accepted_nodes vs → judge_answer 0 bs ≡ accepted_answer vs []
unfolding judge_nodes judge_answer judge_quads
nodes_answer bs vs e =
    let qs = quads bs in
    let q8 = passed 8 _ _ e in
    let q9 = passed 9 _ _ q8.1 in
    let q10 = passed 10 _ _ q9.1 in
    let q11 = passed 11 _ _ q10.1 in
    let k = sym (all_kept qs q9.0) in
    let p = none_placed qs q9.0 in
    let same : map node_of qs ≡ vs = is_nodes q11.1 in
    pick_yes _ _ q8.0
    ∙ pick_yes _ _ (then_places qs q9.0)
    ∙ pick_yes _ _ (subst (λ (rs : List Quad). Yes (leb 2 (length rs) and leb (length rs) 64)) k q10.0)
    ∙ pick_yes _ _ (subst (λ (rs : List Quad). Yes (nodes_fine 0 rs)) k q11.0)
    ∙ pick_yes _ _ (and_both (eq_yes (ap length p)) (subst (λ (rs : List Quad). Yes (places_fine (length (of_kind 1 qs)) 0 rs)) (sym p) (unfold places_fine in refl)))
    ∙ ap (λ (rs : List Quad). accepted_answer (map node_of rs) (map (λ q. q.third) (of_kind 2 qs))) (sym k)
    ∙ ap (λ (rs : List Quad). accepted_answer (map node_of qs) (map (λ q. q.third) rs)) p
    ∙ ap (λ (ws : List NodeRecord). accepted_answer ws []) same

pub answer_nodes : (bs : List ℕ) (vs : List NodeRecord) (ps : List Node) → judge_answer 0 bs ≡ accepted_answer vs ps → judge_nodes bs ≡ accepted_nodes vs
unfolding judge_nodes judge_answer judge_quads
answer_nodes bs vs ps e =
    let qs = quads bs in
    let q8 = passed_answer 8 _ _ e in
    let q9 = passed_answer 9 _ _ q8.1 in
    let q10 = passed_answer 10 _ _ q9.1 in
    let q11 = passed_answer 11 _ _ q10.1 in
    let q12 = passed_answer 12 _ _ q11.1 in
    let a = only_nodes qs q9.0 (is_eq (and_left _ q12.0)) in
    let k = all_kept qs a in
    pick_yes _ _ q8.0
    ∙ pick_yes _ _ a
    ∙ pick_yes _ _ (subst (λ (rs : List Quad). Yes (leb 2 (length rs) and leb (length rs) 64)) k q10.0)
    ∙ pick_yes _ _ (subst (λ (rs : List Quad). Yes (nodes_fine 0 rs)) k q11.0)
    ∙ ap (λ (rs : List Quad). accepted_nodes (map node_of rs)) (sym k)
    ∙ ap accepted_nodes (same_nodes q12.1)
  where
    same_nodes : {us ws : List NodeRecord} {qs rs : List Node} → accepted_answer us qs ≡ accepted_answer ws rs → us ≡ ws
    same_nodes d = cc
