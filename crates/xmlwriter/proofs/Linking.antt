-- Links from the last node to the first hold the children: at number k every node's first child among the numbers from k on starts the forest of all
-- of them. One node more becomes the first child of its parent, and what was first there is its next sibling.
use mathlib.Core.Path.{◌≡◌, refl, sym, ap, ◌∙◌, subst}
use mathlib.Core.Logic.{⊎_elim}
use mathlib.Core.List.{List}
use Prim.Native.Nat.{ℕ, suc, ◌+◌, ◌-◌, ◌*◌, ◌/◌, ◌≤◌, ◌<◌}
use native.Mathlib.Nat.{le_refl, le_trans}
use native.Mathlib.Omega.{arith}
use lib.Dec.{eqb, ltb}
use lib.ListN.{length, get_or, set, replicate, get_or-replicate}
use lib.Seq.{get_or-set_same, get_or-set_other}
use Rattle.meaning.specs.Tree.{Tree}
use Rattle.meaning.specs.Finite.{◌and◌}
use Rattle.meaning.specs.Xml.{Forest, no_element, element, name_of}
use Rattle.meaning.proofs.Tests.{clash, yes_case, pick_yes, pick_no, is_eq, eq_yes, lt_yes, and_right, and_both}
use Rattle.theory.specs.Xml.{forest_from}
use Rattle.answers.specs.Tree.{tree_in}
use Rattle.xmlwriter.specs.declared.links.Links.{Links}
use Rattle.xmlwriter.specs.Links.{Linkable, Added, Linked}

-- ---- the links

-- the links of the nodes from k on are the same in both
abbrev Same : Links → Links → ℕ → Type 0
Same old new k =
    (v : ℕ) → k ≤ v → v < 64
    → (get_or new.first v 0 ≡ get_or old.first v 0) × (get_or new.next v 0 ≡ get_or old.next v 0) × (get_or new.names v 0 ≡ get_or old.names v 0)

-- they are all that a forest from k on reads
linked_same : (w : Forest) (old new : Links) (j k x : ℕ) → j ≤ k → Same old new k → Linked old k x w → Linked new j x w
linked_same no_element old new j k x l e h = h
linked_same (element m c r) old new j k x l e h =
    let s = e x h.0 h.2 in
    let more : Same old new (suc x) = λ v a b. e v (let z = h.0 in omega arith) b in (
      le_trans l h.0,
      h.1,
      h.2,
      s.2 ∙ h.3,
      subst (λ (y : ℕ). Linked new (suc x) y c) (sym s.0) (linked_same c old new (suc x) (suc x) (get_or old.first x 0) (le_refl _) more h.4),
      subst (λ (y : ℕ). Linked new (suc x) y r) (sym s.1) (linked_same r old new (suc x) (suc x) (get_or old.next x 0) (le_refl _) more h.5),
    )

pub linked_below : (w : Forest) (links : Links) (j k x : ℕ) → j ≤ k → Linked links k x w → Linked links j x w
linked_below w links j k x l h = linked_same w links links j k x l (λ v a b. (refl, refl, refl)) h

-- the links of the m numbers from k on: each node's first child among them starts the forest of all of them
abbrev pub Held : Tree → Links → ℕ → ℕ → Type 0
Held t links m k = (u : ℕ) → u < 64 → Linked links k (get_or links.first u 0) (forest_from t m k u)

pub held_none : (t : Tree) (links : Links) (k : ℕ) → links.first ≡ replicate 64 0 → Held t links 0 k
unfolding forest_from
held_none t links k e u l = ap (λ (x : List ℕ). get_or x u 0) e ∙ get_or-replicate 64 u 0 0 l

module _ (t : Tree) (old new : Links) (m k up : ℕ) (added : Added old k up (t.label k) new)
    (pos : 0 < k) (few : k < 64) (is_up : t.parent k ≡ up) (smaller : up < k) (h : Held t old m (suc k)) where
  at_first : (v : ℕ) → get_or new.first v 0 ≡ get_or (set old.first up k) v 0
  at_first v = ap (λ (x : List ℕ). get_or x v 0) added.first

  at_next : (v : ℕ) → get_or new.next v 0 ≡ get_or (set old.next k (get_or old.first up 0)) v 0
  at_next v = ap (λ (x : List ℕ). get_or x v 0) added.next

  at_names : (v : ℕ) → get_or new.names v 0 ≡ get_or (set old.names k (name_of (t.label k))) v 0
  at_names v = ap (λ (x : List ℕ). get_or x v 0) added.names

  later : Same old new (suc k)
  later v a b = (
    at_first v ∙ get_or-set_other old.first up v k 0 (λ e. omega arith),
    at_next v ∙ get_or-set_other old.next k v _ 0 (λ e. omega arith),
    at_names v ∙ get_or-set_other old.names k v _ 0 (λ e. omega arith),
  )

  kept : (j x : ℕ) (w : Forest) → j ≤ suc k → Linked old (suc k) x w → Linked new j x w
  kept j x w l a = linked_same w old new j (suc k) x l later a

  first_same : (v : ℕ) → ¬ (v ≡ up) → get_or new.first v 0 ≡ get_or old.first v 0
  first_same v d = at_first v ∙ get_or-set_other old.first up v k 0 d

  next_is : get_or new.next k 0 ≡ get_or old.first up 0
  next_is = let g = old.long_next in at_next k ∙ get_or-set_same old.next k (get_or old.first up 0) 0 (omega arith)

  first_is : get_or new.first up 0 ≡ k
  first_is = let f = old.long_first in at_first up ∙ get_or-set_same old.first up k 0 (omega arith)

  child : Linked new k k (element (t.label k) (forest_from t m (suc k) k) (forest_from t m (suc k) up))
  child =
      let inner = forest_from t m (suc k) k in
      let after = forest_from t m (suc k) up in
      let n = old.long_names in (
        le_refl _,
        pos,
        few,
        at_names k ∙ get_or-set_same old.names k _ 0 (omega arith),
        subst (λ (y : ℕ). Linked new (suc k) y inner) (sym (first_same k (λ e. omega arith))) (kept (suc k) (get_or old.first k 0) inner (le_refl _) (h k few)),
        subst (λ (y : ℕ). Linked new (suc k) y after) (sym next_is) (kept (suc k) (get_or old.first up 0) after (le_refl _) (h up (omega arith))),
      )

  pub held_more : Held t new (suc m) k
  unfolding forest_from
  held_more u l =
      ⊎_elim
      (λ y. let e : up ≡ u = sym is_up ∙ is_eq (and_right _ y) in
      subst (λ (w : Forest). Linked new k (get_or new.first u 0) w) (sym (pick_yes _ _ y))
      (subst (λ (x : ℕ). Linked new k (get_or new.first x 0) (element (t.label k) (forest_from t m (suc k) k) (forest_from t m (suc k) x))) e
      (subst (λ (x : ℕ). Linked new k x (element (t.label k) (forest_from t m (suc k) k) (forest_from t m (suc k) up))) (sym first_is) child)))
      (λ z. let d : ¬ (u ≡ up) = λ e. clash (and_both (lt_yes pos) (eq_yes (is_up ∙ sym e))) z in
      subst (λ (w : Forest). Linked new k (get_or new.first u 0) w) (sym (pick_no _ _ (λ y. clash y z)))
      (subst (λ (x : ℕ). Linked new k x (forest_from t m (suc k) u)) (sym (first_same u d)) (kept k (get_or old.first u 0) (forest_from t m (suc k) u) (omega arith) (h u l))))
      (yes_case (ltb 0 k and eqb (t.parent k) u))

-- ---- the loop of the links, k going down

module _ (bs : List ℕ) where
  abbrev pub HeldFrom : Links → ℕ → Type 0
  HeldFrom links k = Held (tree_in bs) links (length bs / 4 - k) k

  pub link_start : (links : Links) {k : ℕ} → k ≡ length bs / 4 → links.first ≡ replicate 64 0 → HeldFrom links k
  link_start links {k} d e = subst (λ (m : ℕ). Held (tree_in bs) links m k) (omega arith) (held_none (tree_in bs) links k e)

  pub up_small : (k : ℕ) → Linkable bs → 0 < k → k < length bs / 4 → get_or bs (k * 4 + 2) 0 < k
  up_small k h a b = h.smaller k a b

  pub link_step : (old new : Links) (k : ℕ) → Linkable bs → 0 < k → k < length bs / 4
      → Added old k (get_or bs (k * 4 + 2) 0) (get_or bs (k * 4 + 3) 0) new → HeldFrom old (suc k) → HeldFrom new k
  unfolding tree_in
  link_step old new k h a b e i =
      let few = h.few in
      let m = length bs / 4 - suc k in
      subst (λ (x : ℕ). Held (tree_in bs) new x k) (omega arith)
      (held_more (tree_in bs) old new m k (get_or bs (k * 4 + 2) 0) e a (omega arith) refl (up_small k h a b) i)

  pub link_end : (links : Links) → HeldFrom links 1 → Linked links 1 (get_or links.first 0 0) (forest_from (tree_in bs) (length bs / 4 - 1) 1 0)
  link_end links h = h 0 (omega arith)
