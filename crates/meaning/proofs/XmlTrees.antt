-- A numbered tree is no more than one ordered tree; the node records of an ordered tree in document order are a tree that is it, in which a node's
-- parent is the node before it or above that.
use mathlib.Core.Path.{◌≡◌, refl, sym, ap, ◌∙◌, subst}
use mathlib.Core.Logic.{◌⊎◌, inl, inr, ⊎_elim}
use mathlib.Core.Bool.{false}
use mathlib.Core.List.{List, [], ◌∷◌, ◌++◌, append_assoc, append-nil}
use Prim.Native.Nat.{ℕ, zero, suc, ◌+◌, ◌-◌, ◌≤◌, ◌<◌, zero-le}
use native.Mathlib.Nat.{not-suc-le-zero, le_refl, le_trans}
use native.Mathlib.Decide.{dec_lt}
use native.Mathlib.Omega.{arith}
use lib.ListN.{length, get_or, length-append}
use lib.Seq.{get_or_at}
use Rattle.meaning.specs.Tree.{Node, Label, is_capital, Tree, Parent, Above, self, up}
use Rattle.meaning.specs.Finite.{Yes, ◌and◌, ◌or◌}
use Rattle.meaning.specs.ReadOff.{NodeRecord, blank_record, tree_of}
use Rattle.meaning.specs.Paths.{is_small, is_letter}
use Rattle.meaning.specs.Xml.{Forest, no_element, element, Element, alone, count, Children, IsOrdered, is_nameable, all_nameable, forest_records, document_records, records_nameable}
use Rattle.meaning.proofs.Tests.{and_left, and_right, and_both}

-- ---- by computing: an order or a question that is changed shows here

-- what is inside an element comes before those after it
inside_first : (u i : Node) (l m n : Label)
    → forest_records u i (element l (element m no_element no_element) (element n no_element no_element))
    ≡ record { up = u; label = l } ∷ record { up = i; label = m } ∷ record { up = u; label = n } ∷ []
unfolding forest_records
inside_first u i l m n = refl

-- question 15 is asked of later nodes too
later_not_named : records_nameable (blank_record ∷ record { up = 0; label = 95 } ∷ []) ≡ false
unfolding records_nameable is_nameable is_letter is_small is_capital ◌and◌ ◌or◌
later_not_named = refl

-- ---- one ordered tree at most

pub forest_unique : (t : Tree) (w v : Forest) (u : Node) (i : ℕ) → Children t u i w → Children t u i v → w ≡ v
forest_unique t no_element no_element u i a b = refl
forest_unique t no_element (element l c r) u i a b = absurd (a b.0 b.1.from b.1.is_child)
forest_unique t (element l c r) no_element u i a b = absurd (b a.0 a.1.from a.1.is_child)
forest_unique t (element l c r) (element k d s) u i a b =
    let e : l ≡ k = sym a.2 ∙ ap t.label same ∙ b.2 in
    let f : c ≡ d = forest_unique t c d a.0 0 a.3 (subst (λ (x : Node). Children t x 0 d) (sym same) b.3) in
    let g : r ≡ s = forest_unique t r s u (suc a.0) a.4 (subst (λ (x : Node). Children t u (suc x) s) (sym same) b.4) in
    cc
  where
    same : a.0 ≡ b.0
    same = go (dec_lt a.0 b.0) (dec_lt b.0 a.0)
      where
        go : Dec (a.0 < b.0) → Dec (b.0 < a.0) → a.0 ≡ b.0
        go (yes h) k = absurd (b.1.none_between a.0 a.1.from h a.1.is_child)
        go (no h) (yes k) = absurd (a.1.none_between b.0 b.1.from k b.1.is_child)
        go (no h) (no k) = omega arith

pub ordered_unique : (t : Tree) (e f : Element) → IsOrdered t e → IsOrdered t f → e ≡ f
ordered_unique t e f a b =
    let h : alone e ≡ alone f = forest_unique t (alone e) (alone f) 0 0 a b in
    let p : e.label ≡ f.label = cc in
    let q : e.children ≡ f.children = cc in
    ap (λ (l : Label). record { label = l; children = e.children }) p ∙ ap (λ (c : Forest). record { label = f.label; children = c }) q

-- no child has a number from i up to j
pub lower : (t : Tree) (w : Forest) (u : Node) (i j : ℕ) → i ≤ j → ((v : Node) → i ≤ v → v < j → ¬ Parent t u v) → Children t u j w → Children t u i w
lower t no_element u i j l n a = λ v h p. go v h p (dec_lt v j)
  where
    go : (v : Node) → i ≤ v → Parent t u v → Dec (v < j) → ⊥
    go v h p (yes k) = n v h k p
    go v h p (no k) = a v (omega arith) p
lower t (element m c r) u i j l n a =
    (a.0, record { from = le_trans l a.1.from; is_child = a.1.is_child; none_between = λ v h k p. go v h k p (dec_lt v j) }, a.2, a.3, a.4)
  where
    go : (v : Node) → i ≤ v → v < a.0 → Parent t u v → Dec (v < j) → ⊥
    go v h k p (yes q) = n v h q p
    go v h k p (no q) = a.1.none_between v (omega arith) k p

-- ---- the records of a forest, where they stand

pub records_length : (w : Forest) (u i : Node) → length (forest_records u i w) ≡ count w
unfolding forest_records count
records_length no_element u i = refl
records_length (element l c r) u i =
    let a = length-append (forest_records i (suc i) c) (forest_records u (suc i + count c) r) in
    let b = records_length c i (suc i) in
    let d = records_length r u (suc i + count c) in
    omega arith

-- the nodes from i on have the parents and labels of the forest under u
abbrev Holds : Tree → Node → ℕ → Forest → Type 0
Holds t u i no_element = Unit {0}
Holds t u i (element l c r) = (t.parent i ≡ u) × (t.label i ≡ l) × Holds t i (suc i) c × Holds t u (suc i + count c) r

holds : (w : Forest) (vs pre post : List NodeRecord) (u i : ℕ) → length pre ≡ i → vs ≡ pre ++ (forest_records u i w ++ post) → Holds (tree_of vs) u i w
unfolding forest_records tree_of
holds no_element vs pre post u i e d = tt
holds (element l c r) vs pre post u i e d =
    let x : NodeRecord = record { up = u; label = l } in
    let cs = forest_records i (suc i) c in
    let rs = forest_records u (suc i + count c) r in
    let a : get_or vs i blank_record ≡ x = ap (λ (k : List NodeRecord). get_or k i blank_record) d ∙ get_or_at pre x ((cs ++ rs) ++ post) blank_record i e in
    let f = length-append pre (x ∷ []) in
    let g = length-append pre (x ∷ cs) in
    let n = records_length c i (suc i) in (
      ap (λ (k : NodeRecord). k.up) a,
      ap (λ (k : NodeRecord). k.label) a,
      holds c vs (pre ++ (x ∷ [])) (rs ++ post) i (suc i) (omega arith) (d ∙ simp append_assoc),
      holds r vs (pre ++ (x ∷ cs)) post u (suc i + count c) (omega arith) (d ∙ simp append_assoc),
    )

-- a parent in the forest is smaller than its node, and is u or in the forest too
inside : (w : Forest) (t : Tree) (u i : ℕ) → u < i → Holds t u i w → (v : Node) → i ≤ v → v < i + count w → (t.parent v < v) × ((t.parent v ≡ u) ⊎ (i ≤ t.parent v))
unfolding count
inside no_element t u i l h v a b = absurd (omega arith)
inside (element m c r) t u i l h v a b = go (dec_lt i v) (dec_lt v (suc i + count c)) (λ p q. inside c t i (suc i) (omega arith) h.2 v p q) (λ p q. inside r t u (suc i + count c) (omega arith) h.3 v p q)
  where
    go : Dec (i < v) → Dec (v < suc i + count c)
        → (suc i ≤ v → v < suc i + count c → (t.parent v < v) × ((t.parent v ≡ i) ⊎ (suc i ≤ t.parent v)))
        → (suc i + count c ≤ v → v < suc i + count c + count r → (t.parent v < v) × ((t.parent v ≡ u) ⊎ (suc i + count c ≤ t.parent v)))
        → (t.parent v < v) × ((t.parent v ≡ u) ⊎ (i ≤ t.parent v))
    go (no k) j f g = let e : v ≡ i = omega arith in let p : t.parent v ≡ u = ap t.parent e ∙ h.0 in (omega arith, inl p)
    go (yes k) (yes j) f g = let p = f k j in (p.0, ⊎_elim (λ e. inr (omega arith)) (λ q. inr (omega arith)) p.1)
    go (yes k) (no j) f g = let p = g (omega arith) (omega arith) in (p.0, ⊎_elim (λ e. inl e) (λ q. inr (omega arith)) p.1)

-- later nodes have parents above u or after the forest
abbrev Later : Tree → Node → ℕ → Type 0
Later t u n = (v : Node) → n ≤ v → v < t.size → (t.parent v < u) ⊎ (n ≤ t.parent v)

held_children : (w : Forest) (t : Tree) (u i : ℕ) → ((v : Node) → 0 < v → v < t.size → t.parent v < v) → u < i → i + count w ≤ t.size → Holds t u i w → Later t u (i + count w) → Children t u i w
unfolding count
held_children no_element t u i s l n h k = λ v a p. let e = p.is in ⊎_elim (λ q. omega arith) (λ q. omega arith) (k v (omega arith) p.inside)
held_children (element m c r) t u i s l n h k = (
  i,
  record { from = le_refl _; is_child = record { not_first = omega arith; inside = omega arith; is = h.0 }; none_between = λ w a b p. omega arith },
  h.1,
  lower t c i 0 (suc i) zero-le (λ v a b p. let q = s v p.not_first p.inside in let e = p.is in omega arith)
      (held_children c t i (suc i) s (omega arith) (omega arith) h.2 (λ v a b. after v a b (dec_lt v (suc i + count c + count r)))),
  lower t r u (suc i) (suc i + count c) (omega arith)
      (λ v a b p. let e = p.is in ⊎_elim (λ q. omega arith) (λ q. omega arith) (inside c t i (suc i) (omega arith) h.2 v a b).1)
      (held_children r t u (suc i + count c) s (omega arith) (omega arith) h.3 (λ v a b. ⊎_elim (λ q. inl q) (λ q. inr (omega arith)) (k v (omega arith) b))),
)
  where
    after : (v : Node) → suc i + count c ≤ v → v < t.size → Dec (v < suc i + count c + count r) → (t.parent v < i) ⊎ (suc i + count c ≤ t.parent v)
    after v a b (yes d) = ⊎_elim (λ e. inl (omega arith)) (λ q. inr q) (inside r t u (suc i + count c) (omega arith) h.3 v a d).1
    after v a b (no d) = ⊎_elim (λ q. inl (omega arith)) (λ q. inr (omega arith)) (k v (omega arith) b)

chain : {t : Tree} {u v w : Node} → Above t u v → Above t v w → Above t u w
chain h self = h
chain h (up p k) = up p (chain h k)

-- every node of the forest stands below u
below : (w : Forest) (t : Tree) (u i : ℕ) → u < i → i + count w ≤ t.size → Holds t u i w → (v : Node) → i ≤ v → v < i + count w → Above t u v
unfolding count
below no_element t u i l n h v a b = absurd (omega arith)
below (element m c r) t u i l n h v a b =
    go (dec_lt i v) (dec_lt v (suc i + count c)) (λ p q. below c t i (suc i) (omega arith) (omega arith) h.2 v p q) (λ p q. below r t u (suc i + count c) (omega arith) (omega arith) h.3 v p q)
  where
    child : Above t u i
    child = let p : Parent t u i = record { not_first = omega arith; inside = omega arith; is = h.0 } in up p self

    go : Dec (i < v) → Dec (v < suc i + count c) → (suc i ≤ v → v < suc i + count c → Above t i v) → (suc i + count c ≤ v → v < suc i + count c + count r → Above t u v) → Above t u v
    go (no k) j f g = subst (Above t u) (omega arith) child
    go (yes k) (yes j) f g = chain child (f k j)
    go (yes k) (no j) f g = g (omega arith) (omega arith)

-- the parent of each node of the forest is the node before it or above that
before_it : (w : Forest) (t : Tree) (u i : ℕ) → u < i → i + count w ≤ t.size → Holds t u i w → Above t u (i - 1) → (v : Node) → i ≤ v → v < i + count w → Above t (t.parent v) (v - 1)
unfolding count
before_it no_element t u i l n h e v a b = absurd (omega arith)
before_it (element m c r) t u i l n h e v a b =
    go (dec_lt i v) (dec_lt v (suc i + count c))
    (λ p q. before_it c t i (suc i) (omega arith) (omega arith) h.2 (subst (Above t i) (omega arith) self) v p q)
    (λ p q. before_it r t u (suc i + count c) (omega arith) (omega arith) h.3 (last (dec_lt 0 (count c))) v p q)
  where
    child : Above t u i
    child = let p : Parent t u i = record { not_first = omega arith; inside = omega arith; is = h.0 } in up p self

    last : Dec (0 < count c) → Above t u (suc i + count c - 1)
    last (yes k) = chain child (below c t i (suc i) (omega arith) (omega arith) h.2 (suc i + count c - 1) (omega arith) (omega arith))
    last (no k) = subst (Above t u) (omega arith) child

    go : Dec (i < v) → Dec (v < suc i + count c) → (suc i ≤ v → v < suc i + count c → Above t (t.parent v) (v - 1))
        → (suc i + count c ≤ v → v < suc i + count c + count r → Above t (t.parent v) (v - 1)) → Above t (t.parent v) (v - 1)
    go (no k) j f g =
        let d : i ≡ v = omega arith in
        subst (λ (x : Node). Above t (t.parent x) (x - 1)) d (subst (λ (x : Node). Above t x (i - 1)) (sym h.0) e)
    go (yes k) (yes j) f g = f k j
    go (yes k) (no j) f g = g (omega arith) (omega arith)

-- ---- the node records in document order

module _ (e : Element) where
  abbrev document : Tree
  document = tree_of (document_records e)

  pub document_size : length (document_records e) ≡ suc (count (alone e))
  unfolding document_records
  document_size = ap suc (records_length (alone e) 0 1)

  document_holds : Holds document 0 1 (alone e)
  document_holds = holds (alone e) (document_records e) (blank_record ∷ []) [] 0 1 refl (unfold document_records in ap (λ (k : List NodeRecord). blank_record ∷ k) (sym (append-nil _)))

  pub document_smaller : (v : Node) → 0 < v → v < document.size → document.parent v < v
  unfolding tree_of
  document_smaller v a b = let d = document_size in (inside (alone e) document 0 1 (omega arith) document_holds v a (omega arith)).0

  -- only node 1 stands next under the document node
  pub document_below : (v : Node) → 1 < v → v < document.size → 0 < document.parent v
  unfolding tree_of
  document_below v a b =
      let d = document_size in
      let n : count (alone e) ≡ suc (count e.children + 0) = unfold count in refl in
      ⊎_elim (λ q. omega arith) (λ q. omega arith) (inside e.children document 1 2 (omega arith) document_holds.2 v a (omega arith)).1

  -- it is the ordered tree whose records they are
  pub document_ordered : IsOrdered document e
  unfolding tree_of
  document_ordered =
      let d = document_size in
      lower document (alone e) 0 0 1 zero-le (λ v a b p. let q = p.not_first in omega arith)
      (held_children (alone e) document 0 1 document_smaller (omega arith) (omega arith) document_holds (λ v a b. absurd (omega arith)))

  -- document order: a node's parent is the node before it or above that
  pub document_order : (v : Node) → suc v < length (document_records e) → Above document (document.parent (suc v)) v
  unfolding tree_of
  document_order v b =
      let d = document_size in
      let p : suc v - 1 ≡ v = omega arith in
      subst (Above document (document.parent (suc v))) p (before_it (alone e) document 0 1 (omega arith) (omega arith) document_holds self (suc v) (omega arith) (omega arith))

-- ---- the labels

all_nameable_lem : (vs : List NodeRecord) → Yes (records_nameable vs) → (v : Node) → v < length vs → Yes (is_nameable (get_or vs v blank_record).label)
unfolding records_nameable
all_nameable_lem [] y v l = absurd (not-suc-le-zero l)
all_nameable_lem (x ∷ vs) y zero l = and_left _ y
all_nameable_lem (x ∷ vs) y (suc v) l = all_nameable_lem vs (and_right _ y) v (omega arith)

forest_nameable : (t : Tree) → ((v : Node) → v < t.size → Yes (is_nameable (t.label v))) → (w : Forest) (u : Node) (i : ℕ) → Children t u i w → Yes (all_nameable w)
unfolding all_nameable
forest_nameable t f no_element u i h = refl
forest_nameable t f (element l c r) u i h =
    and_both (subst (λ (k : Label). Yes (is_nameable k)) h.2 (f h.0 h.1.is_child.inside))
    (and_both (forest_nameable t f c h.0 0 h.3) (forest_nameable t f r u (suc h.0) h.4))

-- of records that question 15 passes
pub ordered_nameable : (vs : List NodeRecord) (e : Element) → Yes (records_nameable vs) → IsOrdered (tree_of vs) e → Yes (all_nameable (alone e))
ordered_nameable vs e y h = forest_nameable (tree_of vs) (λ v l. unfold tree_of in all_nameable_lem vs y v l) (alone e) 0 0 h

both_nameable : (us vs : List NodeRecord) → Yes (records_nameable us) → Yes (records_nameable vs) → Yes (records_nameable (us ++ vs))
unfolding records_nameable
both_nameable [] vs a b = b
both_nameable (u ∷ us) vs a b = and_both (and_left _ a) (both_nameable us vs (and_right _ a) b)

first_nameable : (v : NodeRecord) (vs : List NodeRecord) → Yes (is_nameable v.label) → Yes (records_nameable vs) → Yes (records_nameable (v ∷ vs))
unfolding records_nameable
first_nameable v vs a b = and_both a b

records_nameable_lem : (w : Forest) (u i : Node) → Yes (all_nameable w) → Yes (records_nameable (forest_records u i w))
unfolding forest_records all_nameable
records_nameable_lem no_element u i y = unfold records_nameable in refl
records_nameable_lem (element l c r) u i y =
    let a = both_nameable _ _ (records_nameable_lem c i (suc i) (and_left _ (and_right _ y))) (records_nameable_lem r u (suc i + count c) (and_right _ (and_right _ y))) in
    first_nameable (record { up = u; label = l }) _ (and_left _ y) a

pub document_nameable : (e : Element) → Yes (all_nameable (alone e)) → Yes (records_nameable (document_records e))
unfolding document_records records_nameable is_nameable ◌or◌
document_nameable e y = and_both refl (records_nameable_lem (alone e) 0 1 y)
