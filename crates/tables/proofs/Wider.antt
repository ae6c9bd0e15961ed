-- Below widened: let all of Up be at or above all of Down, where Up is closed upwards and Down downwards. Two variables are the same afterwards
-- only if they were, or if both are in Up and in Down. Where nothing is in both, and no leaf in Up, nothing becomes the same: then a set of
-- facts that is closed under the rules is closed again (`wide_rules`).
use mathlib.Core.Logic.{◌⊎◌, inl, inr, ⊎_elim}
use Prim.Native.Nat.{ℕ}
use Rattle.meaning.specs.Tree.{Var}
use Rattle.meaning.specs.Constraint.{Fact, child, below, differ, before, root, leaf, label}
use Rattle.meaning.specs.Closed.{Sharing, Siblings, Rules}

pub record Ends (P : Fact → Type 0) (Up Down : Var → Type 0) : Type 0 where
  pub up : (x y : Var) → P (below x y) → Up y → Up x
  pub down : (x y : Var) → Down x → P (below x y) → Down y

pub record Opening (P : Fact → Type 0) (Up Down : Var → Type 0) : Type 0 where
  pub ends : Ends P Up Down
  pub no_mid : (x : Var) → Up x → ¬ Down x
  pub no_leaf : (x : Var) → P (leaf x) → ¬ Up x

module _ (P : Fact → Type 0) (Up Down : Var → Type 0) where
  abbrev pub Wide : Var → Var → Type 0
  Wide x y = P (below x y) ⊎ (Up x × Down y)

  abbrev pub Mid : Var → Type 0
  Mid x = Up x × Down x

  abbrev pub Wider : Fact → Type 0
  Wider (child x y) = P (child x y)
  Wider (below x y) = Wide x y
  Wider (differ x y) = P (differ x y)
  Wider (before x y) = P (before x y)
  Wider (root x) = P (root x)
  Wider (leaf x) = P (leaf x)
  Wider (label x l) = P (label x l)

  -- it is in every set that has P, and all of Up over all of Down
  module _ (Q : Fact → Type 0) (has : (φ : Fact) → P φ → Q φ) (over : (x y : Var) → Up x → Down y → Q (below x y)) where
    pub wide_least : (φ : Fact) → Wider φ → Q φ
    wide_least (child x y) u = has _ u
    wide_least (below x y) u = ⊎_elim (has _) (λ p. over x y p.0 p.1) u
    wide_least (differ x y) u = has _ u
    wide_least (before x y) u = has _ u
    wide_least (root x) u = has _ u
    wide_least (leaf x) u = has _ u
    wide_least (label x l) u = has _ u

module _ (n : ℕ) (P : Fact → Type 0) (Up Down : Var → Type 0) (s : Sharing n P) (e : Ends P Up Down) where
  abbrev B : Var → Var → Type 0
  B = Wide P Up Down

  pub wide_chain : (x y z : Var) → B x y → B y z → B x z
  wide_chain x y z (inl p) (inl q) = inl (s.chain _ _ _ p q)
  wide_chain x y z (inl p) (inr q) = inr (e.up _ _ p q.0, q.1)
  wide_chain x y z (inr p) (inl q) = inr (p.0, e.down _ _ p.1 q)
  wide_chain x y z (inr p) (inr q) = inr (p.0, q.1)

  pub wide_cases : {x y : Var} → B x y → B y x → (P (below x y) × P (below y x)) ⊎ (Mid P Up Down x × Mid P Up Down y)
  wide_cases (inl p) (inl q) = inl (p, q)
  wide_cases (inl p) (inr q) = inr ((e.up _ _ p q.0, q.1), (q.0, e.down _ _ q.1 p))
  wide_cases (inr p) (inl q) = inr ((p.0, e.down _ _ p.1 q), (e.up _ _ q p.0, p.1))
  wide_cases (inr p) (inr q) = inr ((p.0, q.1), (q.0, p.1))

module _ (n : ℕ) (P : Fact → Type 0) (Up Down : Var → Type 0) (o : Opening P Up Down) where
  -- what is the same now was the same before
  pub wide_same : Sharing n P → {x y : Var} → Wide P Up Down x y → Wide P Up Down y x → P (below x y) × P (below y x)
  wide_same s a b = ⊎_elim (λ p. p) (λ p. absurd (o.no_mid _ p.0.0 p.0.1)) (wide_cases n P Up Down s o.ends a b)

  pub wide_sharing : Sharing n P → Sharing n (Wider P Up Down)
  wide_sharing s = record {
    child_below = λ x y a. inl (s.child_below x y a);
    child_differ = s.child_differ;
    self_below = λ x l. inl (s.self_below x l);
    chain = wide_chain n P Up Down s o.ends;
    root_below = λ x y a l. inl (s.root_below x y a l);
    leaf_below = λ x y a b. ⊎_elim (λ p. inl (s.leaf_below x y a p)) (λ p. absurd (o.no_leaf x a p.0)) b;
    differ_back = s.differ_back;
    same_parent = λ x y u a b c. let h = wide_same s a b in s.same_parent x y u h.0 h.1 c;
    same_child = λ x y u a b c. let h = wide_same s a b in s.same_child x y u h.0 h.1 c;
    same_differ = λ x y u a b c. let h = wide_same s a b in s.same_differ x y u h.0 h.1 c;
    same_root = λ x u a b c. let h = wide_same s a b in s.same_root x u h.0 h.1 c;
    same_leaf = λ x u a b c. let h = wide_same s a b in s.same_leaf x u h.0 h.1 c;
    same_label = λ x u l a b c. let h = wide_same s a b in s.same_label x u l h.0 h.1 c;
  }

  pub wide_siblings : Sharing n P → Siblings n P → Siblings n (Wider P Up Down)
  wide_siblings s b = record {
    before_chain = b.before_chain;
    before_differ = b.before_differ;
    before_child = b.before_child;
    after_child = b.after_child;
    same_before = λ x y u p q c. let h = wide_same s p q in b.same_before x y u h.0 h.1 c;
    same_after = λ x y u p q c. let h = wide_same s p q in b.same_after x y u h.0 h.1 c;
  }

  pub wide_rules : Rules n P → Rules n (Wider P Up Down)
  wide_rules r = record {
    sharing = wide_sharing r.sharing;
    siblings = wide_siblings r.sharing r.siblings;
    one_parent = λ x y z a b. inl (r.one_parent x y z a b);
    one_element = λ x y z a b c. inl (r.one_element x y z a b c);
  }
