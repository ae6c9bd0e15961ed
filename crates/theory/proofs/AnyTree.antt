-- Trees whose nodes bear no numbers and trees of docs/FORMAT.md meet the same constraints, since each is the other under a numbering. So 'none'
-- also means that no tree in the sense of source 004, definition 2.1, meets the constraints.
use mathlib.Core.Path.{◌≡◌, refl, sym, ap, ◌∙◌, subst}
use mathlib.Core.Logic.{◌≢◌, ◌↔◌, ◌⊎◌, inl, inr, ⊎_elim}
use mathlib.Core.HLevel.{Σ_prop_path}
use mathlib.Core.List.{List, [], ◌∷◌, Memᴰ}
use Prim.Native.Nat.{ℕ, zero, suc, ◌≤◌, ◌<◌, zero-le}
use native.Mathlib.Nat.{le_refl, le_trans, lt_trans, le_of_lt, lt_irrefl, not-suc-le-zero}
use native.Mathlib.Bridge.{le_prop}
use native.Mathlib.Decide.{dec_lt, dec_le}
use native.Mathlib.Omega.{arith}
use Rattle.meaning.specs.Tree.{Var, Node, Label, folded, SameLabel, Assignment, Tree, IsTree, Parent, Above, self, up, EarlierSibling}
use Rattle.meaning.specs.Constraint.{Constraint, is_child, is_below, is_strictly_below, is_same, is_differ, is_root, is_leaf, is_label, is_before, Meets, vars, MeetsAll, ByteLabels}
use Rattle.meaning.specs.AnyTree.{Reaches, here, down, AnyTree, PrecedesSibling, ByteLabelled, MeetsAny, MeetsAllAny, NoAnyTree, Numbering}
use Rattle.meaning.specs.FixedSearch.{Outcome, in_none}
use Rattle.meaning.specs.Demand.{a_none, FixedSearch, Demand3}
use Rattle.meaning.specs.Files.{accepted, judge}
use Rattle.meaning.specs.Results.{Solved, solver_answers}
use Rattle.meaning.specs.Promises.{SolverPromise}
use Rattle.meaning.proofs.Finite.{split_lt}
use Rattle.meaning.proofs.Labels.{folded_least, folded_most}
use Rattle.meaning.proofs.Trees.{root_above, some_node, element_child}
use Rattle.meaning.proofs.Constraints.{Names, names_below, meets_agree, named_most}
use Rattle.meaning.proofs.Said.{none_ends, answered}
use Rattle.theory.proofs.ConstraintFile.{Bytes, accepted_labels}
use Rattle.theory.proofs.Numbering.{numbered}

-- ---- one tree, numbered or not, meets the same constraints

module _ {N : Type 0} (T : AnyTree N) (t : Tree) (s : Numbering T t) where
  pub number_reaches : {u v : N} → Reaches T.IsParent u v → Above t (s.number u) (s.number v)
  number_reaches here = self
  number_reaches (down p h) = up ((s.same_parents _ _).0 p) (number_reaches h)

  pub number_sibling : {u v : N} → PrecedesSibling T u v → EarlierSibling t (s.number u) (s.number v)
  number_sibling h = record {
    above = s.number h.above;
    parent_u = (s.same_parents _ _).0 h.parent_u;
    parent_v = (s.same_parents _ _).0 h.parent_v;
    smaller = (s.same_order h.parent_u h.parent_v).0 h.first;
  }

module _ {N : Type 0} (T : AnyTree N) (t : Tree) (i : IsTree t) (s : Numbering T t) where
  -- a numbered node with a parent has one in T
  pub parent_numbered : {k : Node} {v : N} → Parent t k (s.number v) → (u : N) × T.IsParent u v
  parent_numbered {k} {v} p =
      let l : t.parent (s.number v) < s.number v = i.smaller (s.number v) p.not_first p.inside in
      let e : t.parent (s.number v) ≡ k = p.is in
      let w = s.onto k (let q = p.inside in omega arith) in
      (w.0, (s.same_parents w.0 v).1 (subst (λ (j : Node). Parent t j (s.number v)) (sym w.1) p))

  child_numbered : {u : N} {j : Node} → Parent t (s.number u) j → (v : N) × T.IsParent u v
  child_numbered {u} p = let w = s.onto _ p.inside in (w.0, (s.same_parents u w.0).1 (subst (λ (j : Node). Parent t (s.number u) j) (sym w.1) p))

  -- what is above in t reaches in T
  pub above_numbered : {k j : Node} → Above t k j → (v : N) → s.number v ≡ j → (u : N) → s.number u ≡ k → Reaches T.IsParent u v
  above_numbered self v e u f = subst (λ (w : N). Reaches T.IsParent u w) (s.one_to_one u v (f ∙ sym e)) here
  above_numbered (up {v = j} {w = m} p h) v e u f =
      let w = parent_numbered {v = v} (subst (λ (x : Node). Parent t m x) (sym e) p) in
      let q : t.parent (s.number v) ≡ s.number w.0 = ((s.same_parents w.0 v).0 w.1).is in
      let r : t.parent (s.number v) ≡ m = ap t.parent e ∙ p.is in
      down w.1 (above_numbered h w.0 (sym q ∙ r) u f)

  pub sibling_numbered : {u v : N} → EarlierSibling t (s.number u) (s.number v) → PrecedesSibling T u v
  sibling_numbered {u} {v} h =
      let w = parent_numbered h.parent_u in
      let e : h.above ≡ s.number w.0 = sym h.parent_u.is ∙ ((s.same_parents w.0 u).0 w.1).is in
      let b : T.IsParent w.0 v = (s.same_parents w.0 v).1 (subst (λ (k : Node). Parent t k (s.number v)) e h.parent_v) in
      record { above = w.0; parent_u = w.1; parent_v = b; first = (s.same_order w.1 b).1 h.smaller }

  pub numbering_meets : (a : Var → N) (c : Constraint) → MeetsAny T a c ↔ Meets t (λ x. s.number (a x)) c
  numbering_meets a (is_child x y) = s.same_parents (a x) (a y)
  numbering_meets a (is_below x y) = (number_reaches T t s, λ h. above_numbered h (a y) refl (a x) refl)
  numbering_meets a (is_strictly_below x y) = (
    λ h. (number_reaches T t s h.0, λ e. h.1 (s.one_to_one _ _ e)),
    λ h. (above_numbered h.0 (a y) refl (a x) refl, λ e. h.1 (ap s.number e)),
  )
  numbering_meets a (is_same x y) = (ap s.number, s.one_to_one _ _)
  numbering_meets a (is_differ x y) = (λ h e. h (s.one_to_one _ _ e), λ h e. h (ap s.number e))
  numbering_meets a (is_root x) = (λ h k p. let w = parent_numbered p in h w.0 w.1, λ h u p. h (s.number u) ((s.same_parents u (a x)).0 p))
  numbering_meets a (is_leaf x) = (λ h k p. let w = child_numbered p in h w.0 w.1, λ h v p. h (s.number v) ((s.same_parents (a x) v).0 p))
  numbering_meets a (is_label x l) = (λ e. ap folded (s.same_labels (a x)) ∙ e, λ e. sym (ap folded (s.same_labels (a x))) ∙ e)
  numbering_meets a (is_before x y) = (number_sibling T t s, λ h. sibling_numbered h)

  pub numbering_meets_all : (n : ℕ) (a : Var → N) (cs : List Constraint) → MeetsAllAny T a cs ↔ MeetsAll n t (λ x. s.number (a x)) cs
  numbering_meets_all n a cs = (
    λ h. record { placed = λ x l. s.inside (a x); every = λ c m. (numbering_meets a c).0 (h c m) },
    λ h c m. (numbering_meets a c).1 (h.every c m),
  )

-- ---- labels that are no bytes: where the constraints name only bytes, blank does as well

pub byte_or_blank : (l : Label) → Dec (l ≤ 255) → Label
byte_or_blank l (yes h) = l
byte_or_blank l (no h) = 0

byte_or_blank_small : (l : Label) (d : Dec (l ≤ 255)) → byte_or_blank l d ≤ 255
unfolding byte_or_blank
byte_or_blank_small l (yes h) = h
byte_or_blank_small l (no h) = zero-le

pub byte_stays : (l : Label) (d : Dec (l ≤ 255)) → l ≤ 255 → byte_or_blank l d ≡ l
unfolding byte_or_blank
byte_stays l (yes h) k = refl
byte_stays l (no h) k = absurd (h k)

-- a label that equals a byte is one
pub byte_same : (k : Label) {l : Label} → l ≤ 255 → SameLabel k l → SameLabel (byte_or_blank k (dec_le k 255)) l
byte_same k {l} b e = ap folded (byte_stays k _ (le_trans (folded_least k) (subst (λ (m : Label). m ≤ 255) (sym e) (folded_most l b)))) ∙ e

module _ {N : Type 0} (T : AnyTree N) where
  abbrev pub with_bytes : AnyTree N
  with_bytes = record {
    nodes = T.nodes;
    listed = T.listed;
    IsParent = T.IsParent;
    root = T.root;
    no_parent = T.no_parent;
    one_parent = T.one_parent;
    reached = T.reached;
    root_blank = byte_stays _ _ (subst (λ (k : Label). k ≤ 255) (sym T.root_blank) zero-le) ∙ T.root_blank;
    element = T.element;
    has_element = T.has_element;
    one_element = T.one_element;
    label = λ v. byte_or_blank (T.label v) (dec_le (T.label v) 255);
    Precedes = T.Precedes;
    precedes_not = T.precedes_not;
    precedes_chain = T.precedes_chain;
    precedes_total = T.precedes_total;
  }

  pub with_bytes_small : ByteLabelled with_bytes
  with_bytes_small v = byte_or_blank_small (T.label v) _

  with_bytes_meets : (a : Var → N) (cs : List Constraint) → ByteLabels cs → (c : Constraint) → Memᴰ c cs → MeetsAny T a c → MeetsAny with_bytes a c
  with_bytes_meets a cs b (is_child x y) m h = h
  with_bytes_meets a cs b (is_below x y) m h = h
  with_bytes_meets a cs b (is_strictly_below x y) m h = h
  with_bytes_meets a cs b (is_same x y) m h = h
  with_bytes_meets a cs b (is_differ x y) m h = h
  with_bytes_meets a cs b (is_root x) m h = h
  with_bytes_meets a cs b (is_leaf x) m h = h
  with_bytes_meets a cs b (is_before x y) m h = record { above = h.above; parent_u = h.parent_u; parent_v = h.parent_v; first = h.first }
  with_bytes_meets a cs b (is_label x l) m h = byte_same (T.label (a x)) (b x l m).1 h

  -- where a tree of the paper meets constraints whose labels are bytes, so does one of docs/FORMAT.md
  pub any_tree_meets : (n : ℕ) (a : Var → N) (cs : List Constraint) → ByteLabels cs → MeetsAllAny T a cs → (t : Tree) × IsTree t × ((b : Assignment) × MeetsAll n t b cs)
  any_tree_meets n a cs b h =
      let w = numbered with_bytes with_bytes_small in
      (w.0, w.1, (_, (numbering_meets_all with_bytes w.0 w.1 w.2 n a cs).0 (λ c m. with_bytes_meets a cs b c m (h c m))))

-- ---- every tree of docs/FORMAT.md is a tree of the paper

abbrev pub NodeOf : Tree → Type 0
NodeOf t = (v : Node) × (v < t.size)

module _ (t : Tree) (i : IsTree t) where
  pub node_same : (u v : NodeOf t) → u.0 ≡ v.0 → u ≡ v
  node_same u v e = Σ_prop_path (λ (k : Node). le_prop) {u = u} {v = v} e

  nodes_below : (m : ℕ) → m ≤ t.size → List (NodeOf t)
  nodes_below zero l = []
  nodes_below (suc m) l = (m, l) ∷ nodes_below m (le_of_lt l)

  node_listed : (m : ℕ) (l : m ≤ t.size) (v : NodeOf t) → v.0 < m → Memᴰ v (nodes_below m l)
  unfolding nodes_below
  node_listed zero l v k = absurd (not-suc-le-zero k)
  node_listed (suc m) l v k = ⊎_elim (λ e. Memᴰ.head (node_same v (m, l) e)) (λ h. Memᴰ.tail (node_listed m (le_of_lt l) v h)) (split_lt k)

  abbrev ParentOf : NodeOf t → NodeOf t → Type 0
  ParentOf u v = Parent t u.0 v.0

  above_reaches : {j k : Node} → Above t j k → (l : j < t.size) (m : k < t.size) → Reaches ParentOf (j, l) (k, m)
  above_reaches {j} self l m = subst (λ (v : NodeOf t). Reaches ParentOf (j, l) v) (node_same (j, l) (j, m) refl) here
  above_reaches (up {v = v} {w = w} p h) l m =
      let s : t.parent v < v = i.smaller v p.not_first p.inside in
      let e : t.parent v ≡ w = p.is in
      let k : w < t.size = omega arith in
      down {w = (w, k)} p (above_reaches h l k)

  compared : (u v : NodeOf t) → u ≢ v → Dec (u.0 < v.0) → Dec (v.0 < u.0) → (u.0 < v.0) ⊎ (v.0 < u.0)
  compared u v d (yes l) _ = inl l
  compared u v d (no l) (yes k) = inr k
  compared u v d (no l) (no k) = absurd (d (node_same u v (omega arith)))

  pub any_tree : AnyTree (NodeOf t)
  any_tree = record {
    nodes = nodes_below t.size (le_refl _);
    listed = λ v. node_listed t.size (le_refl _) v v.1;
    IsParent = ParentOf;
    root = (0, some_node t i);
    no_parent = λ u p. lt_irrefl 0 p.not_first;
    one_parent = λ {u} {v} p q. node_same u v (sym p.is ∙ q.is);
    reached = λ v. above_reaches (root_above t i v.0 v.1) (some_node t i) v.1;
    root_blank = i.blank_first;
    element = (1, i.two_nodes);
    has_element = element_child t i;
    one_element = λ {v} p. node_same v (1, i.two_nodes) (i.one_child v.0 p);
    label = λ v. t.label v.0;
    Precedes = λ u v. u.0 < v.0;
    precedes_not = λ v l. lt_irrefl _ l;
    precedes_chain = λ l k. lt_trans l k;
    precedes_total = λ {p} {u} {v} a b d. compared u v d (dec_lt u.0 v.0) (dec_lt v.0 u.0);
  }

  -- its nodes under their own numbers
  unfoldable pub any_tree_numbering : Numbering any_tree t
  unfolding any_tree
  any_tree_numbering = record {
    number = λ v. v.0;
    inside = λ v. v.1;
    one_to_one = node_same;
    onto = λ k l. ((k, l), refl);
    same_parents = λ u v. (λ p. p, λ p. p);
    same_labels = λ v. refl;
    same_order = λ a b. (λ l. l, λ l. l);
  }

  on_node : (n : ℕ) (a : Assignment) → ((x : Var) → x < n → a x < t.size) → (x : Var) → Dec (x < n) → NodeOf t
  on_node n a p x (yes l) = (a x, p x l)
  on_node n a p x (no l) = (0, some_node t i)

  on_node_same : (n : ℕ) (a : Assignment) (p : (x : Var) → x < n → a x < t.size) (x : Var) (d : Dec (x < n)) → x < n → a x ≡ (on_node n a p x d).0
  unfolding on_node
  on_node_same n a p x (yes l) k = refl
  on_node_same n a p x (no l) k = absurd (l k)

  -- where a tree of docs/FORMAT.md meets the constraints, so does one of the paper
  pub tree_meets_any : (n : ℕ) (a : Assignment) (cs : List Constraint) → vars cs ≤ n → MeetsAll n t a cs → (b : Var → NodeOf t) × MeetsAllAny any_tree b cs
  unfolding any_tree_numbering
  tree_meets_any n a cs few h = (b, λ c m. (numbering_meets any_tree t i any_tree_numbering b c).1 (meets_agree t a (λ x. (b x).0) c (same c m) (h.every c m)))
    where
      b : Var → NodeOf t
      b x = on_node n a h.placed x (dec_lt x n)

      same : (c : Constraint) → Memᴰ c cs → (v : Var) → Names c v → a v ≡ (b v).0
      same c m v q = on_node_same n a h.placed v (dec_lt v n) (le_trans (names_below c v q) (le_trans (named_most cs c m) few))

-- ---- none

module _ {n : ℕ} {cs : List Constraint} (b : ByteLabels cs) where
  -- the fixed search ends in none only if no tree of the paper meets the constraints
  pub none_any_tree : {c : ℕ} → FixedSearch n cs in_none c → NoAnyTree cs
  none_any_tree f N T a h = let w = any_tree_meets T n a cs b h in f.none_iff.0 refl w.0 w.1 w.2.0 w.2.1

  -- and exactly then
  pub none_iff_any_tree : vars cs ≤ n → {o : Outcome} {c : ℕ} → FixedSearch n cs o c → (o ≡ in_none) ↔ NoAnyTree cs
  none_iff_any_tree few {o} {c} f = (
    λ e. none_any_tree (subst (λ (p : Outcome). FixedSearch n cs p c) e f),
    λ g. f.none_iff.1 (λ t i a h. let w = tree_meets_any t i n a cs few h in g (NodeOf t) (any_tree t i) w.0 w.1),
  )

  -- the answer none says so
  pub answered_none : {A c : ℕ} → Demand3 A n cs (a_none c) → NoAnyTree cs
  answered_none d = none_any_tree (subst (λ (p : Outcome). FixedSearch n cs p d.count) (none_ends d refl) d.search)

-- and so does a solver that keeps its promise, of any constraint file
pub promised_none : {A c : ℕ} {file buffer after : List ℕ} {r : Solved} {cs : List Constraint} → ByteLabels cs → SolverPromise A file buffer r after
    → judge file ≡ accepted cs → r ≡ solver_answers (a_none c) → NoAnyTree cs
promised_none b p e q = answered_none b (answered p e q).1.demand_3

pub solver_none : {A c : ℕ} {file buffer after : List ℕ} {r : Solved} {cs : List Constraint} → Bytes file → SolverPromise A file buffer r after
    → judge file ≡ accepted cs → r ≡ solver_answers (a_none c) → NoAnyTree cs
solver_none {file = file} {cs = cs} b p e q = promised_none (accepted_labels file b cs e) p e q
