-- Gluing a set of facts that is closed under the rules, but perhaps for those of one parent and one element: below is widened
-- (tables/proofs/Wider), and what is the same afterwards shares its facts (tables/proofs/Groups). Where no leaf gets anything properly below
-- it, the set so glued is closed again but for what passes through those that were glued, and of parents only theirs have yet to become the same.
use mathlib.Core.Logic.{◌⊎◌, inl, inr, ⊎_elim}
use Prim.Native.Nat.{ℕ, ◌<◌}
use Rattle.meaning.specs.Tree.{Var, Label}
use Rattle.meaning.specs.Constraint.{Fact, child, below, differ, before, root, leaf, label}
use Rattle.meaning.specs.Closed.{Within, Sharing, Siblings}
use Rattle.tables.specs.Free.{Bare}
use Rattle.tables.proofs.Groups.{Twin, Two, Shared, Order, flip, alone, pair, each, via, move_left, move_right, shared_sharing, embed}
use Rattle.tables.proofs.Wider.{Ends, Wide, Mid, wide_chain, wide_cases}
use Rattle.grouping.specs.Grouping.{Awaits, held, waits, Through}

-- where a set of facts can be glued
pub record Cut (P : Fact → Type 0) (Up Down : Var → Type 0) : Type 0 where
  pub ends : Ends P Up Down
  pub leaf_up : (x y : Var) → P (leaf x) → Up x → Down y → Up y
  pub leaf_down : (x : Var) → P (leaf x) → Up x → Down x

module _ (P : Fact → Type 0) (Up Down : Var → Type 0) where
  abbrev pub Glued : Fact → Type 0
  Glued φ = Shared (Wide P Up Down) (Two (Wide P Up Down) (λ i j. P (before i j))) P φ

  -- R of x and of one of those that are glued, either way
  pub record Toward (R : Var → Var → Type 0) (x : Var) : Type 0 where
    pub it : Var
    pub mid : Mid P Up Down it
    pub holds : Two (Wide P Up Down) R x it

  pub record From (R : Var → Var → Type 0) (x : Var) : Type 0 where
    pub it : Var
    pub mid : Mid P Up Down it
    pub holds : Two (Wide P Up Down) R it x

  -- a parent of what is glued; what is earlier, and later
  abbrev pub Over : Var → Type 0
  Over = Toward (λ i j. P (child i j))

  abbrev pub Earlier : Var → Type 0
  Earlier = Toward (λ i j. P (before i j))

  abbrev pub Later : Var → Type 0
  Later = From (λ i j. P (before i j))

module _ (n : ℕ) (P : Fact → Type 0) (Up Down : Var → Type 0) (s : Sharing n P) (c : Cut P Up Down) where
  abbrev B : Var → Var → Type 0
  B = Wide P Up Down

  pub mid_twin : {x y : Var} → Mid P Up Down x → Mid P Up Down y → Twin B x y
  mid_twin p q = record { to = inr (p.0, q.1); fro = inr (q.0, p.1) }

  pub twin_cases : {x y : Var} → Twin B x y → (P (below x y) × P (below y x)) ⊎ (Mid P Up Down x × Mid P Up Down y)
  twin_cases t = wide_cases n P Up Down s c.ends t.to t.fro

  pub order : Order n P B
  order = record {
    keeps = λ x y p. inl p;
    self = λ x l. inl (s.self_below x l);
    chain = wide_chain n P Up Down s c.ends;
    over_child = λ x y p. inl (s.child_below x y p);
    under_root = λ x y p l. inl (s.root_below x y p l);
    under_leaf = λ x y l b. ⊎_elim (λ p. inl (s.leaf_below x y l p)) (λ p. inr (c.leaf_up x y l p.0 p.1, c.leaf_down x l p.0)) b;
    child_differ = s.child_differ;
    differ_back = s.differ_back;
  }

  pub glued_sharing : Sharing n (Glued P Up Down)
  glued_sharing = shared_sharing n P B order _

  -- nothing differs from itself, if nothing did and what is glued does not differ
  pub glued_apart : ((x : Var) → ¬ P (differ x x)) → ((x y : Var) → Mid P Up Down x → Mid P Up Down y → ¬ P (differ x y)) → (x : Var) → ¬ Glued P Up Down (differ x x)
  glued_apart h k x a =
      ⊎_elim (λ p. h _ (s.same_differ _ _ _ p.0 p.1 a.holds)) (λ p. k _ _ p.0 p.1 a.holds)
      (twin_cases (via n P B order a.left_twin (flip a.right_twin)))

  -- neither leaf nor label on the document node, if there was none and what is glued has none
  pub glued_bare : Bare P → ((x y : Var) → Mid P Up Down x → Mid P Up Down y → P (root x) → ¬ P (leaf y))
      → ((x y : Var) (l : Label) → Mid P Up Down x → Mid P Up Down y → P (root x) → ¬ P (label y l)) → Bare (Glued P Up Down)
  glued_bare h k m = record {
    no_leaf = λ x a b. ⊎_elim (λ p. h.no_leaf _ (s.same_root _ _ p.0 p.1 a.holds) b.holds) (λ p. k _ _ p.0 p.1 a.holds b.holds)
        (twin_cases (via n P B order a.twin (flip b.twin)));
    no_label = λ x l a b. ⊎_elim (λ p. h.no_label _ l (s.same_root _ _ p.0 p.1 a.holds) b.holds) (λ p. m _ _ l p.0 p.1 a.holds b.holds)
        (twin_cases (via n P B order a.twin (flip b.twin)));
  }

  -- ---- what does not pass through those that are glued is as it was

  toward : {R : Var → Var → Type 0} {x z : Var} (a : Two B R x z) → Mid P Up Down a.right → Toward P Up Down R x
  toward a m = record { it = a.right; mid = m; holds = record { left = a.left; right = a.right; left_twin = a.left_twin; right_twin = mid_twin m m; holds = a.holds } }

  from : {R : Var → Var → Type 0} {x z : Var} (a : Two B R z x) → Mid P Up Down a.left → From P Up Down R x
  from a m = record { it = a.left; mid = m; holds = record { left = a.left; right = a.right; left_twin = mid_twin m m; right_twin = a.right_twin; holds = a.holds } }

  pub glued_siblings : Siblings n P → Through (Glued P Up Down) (Over P Up Down) (Earlier P Up Down) (Later P Up Down)
  glued_siblings b = record {
    before_chain = λ x y z a d. ⊎_elim (λ p. inl (outer a d (b.before_chain _ _ _ a.holds (b.same_before _ _ _ p.1 p.0 d.holds))))
        (λ p. inr (toward a p.0, from d p.1)) (twin_cases (via n P B order a.right_twin (flip d.left_twin)));
    before_differ = λ x y a. each b.before_differ a;
    before_child = λ x y u a d. ⊎_elim (λ p. inl (outer d a (b.before_child _ _ _ a.holds (s.same_child _ _ _ p.0 p.1 d.holds))))
        (λ p. inr (toward d p.0, from a p.1)) (twin_cases (via n P B order d.right_twin (flip a.left_twin)));
    after_child = λ x y u a d. ⊎_elim
        (λ p. inl (record { left = d.left; right = a.left; left_twin = d.left_twin; right_twin = a.left_twin; holds = b.after_child _ _ _ a.holds (s.same_child _ _ _ p.0 p.1 d.holds) }))
        (λ p. inr (toward d p.0, toward a p.1)) (twin_cases (via n P B order d.right_twin (flip a.right_twin)));
    same_before = λ x y u p q. move_left n P B order p q;
    same_after = λ x y u p q. move_right n P B order p q;
  }
    where
      outer : {R Q S : Var → Var → Type 0} {x y z v : Var} (a : Two B R x y) (d : Two B Q z v) → S a.left d.right → Two B S x v
      outer a d h = record { left = a.left; right = d.right; left_twin = a.left_twin; right_twin = d.right_twin; holds = h }

  module _ (within : (φ : Fact) → P φ → Within n φ) (X : Var → Type 0) (ends : (x : Var) → X x → Mid P Up Down x) where
    own_twin : {x : Var} → x < n → Twin B x x
    own_twin l = alone (inl (s.self_below _ l))

    -- what was awaited is there
    pub arrived : (φ : Fact) → Awaits X P φ → Glued P Up Down φ
    arrived φ (held p) = embed n P B order _ (λ x y q. let w = within (before x y) q in pair (own_twin w.0) (own_twin w.1) q) within φ p
    arrived φ (waits {x} {y} a b) = inr ((ends x a).0, (ends y b).1)

    -- two parents of one child are the same, or both are parents of what is glued
    pub glued_parent : ((x y z : Var) → P (child x z) → P (child y z) → Awaits X P (below x y))
        → (x y z : Var) → Glued P Up Down (child x z) → Glued P Up Down (child y z) → B x y ⊎ (Over P Up Down x × Over P Up Down y)
    glued_parent h x y z a b =
        ⊎_elim
        (λ p. inl (link a.left_twin.fro (link (arrived _ (h _ _ _ a.holds (s.same_child _ _ _ p.1 p.0 b.holds))) b.left_twin.to)))
        (λ p. inr (toward a p.0, toward b p.1))
        (twin_cases (via n P B order a.right_twin (flip b.right_twin)))
      where
        link : {x y z : Var} → B x y → B y z → B x z
        link p q = order.chain _ _ _ p q
