-- Two groups kept apart: let all of Left differ from all of Right, both ways, where each has the variables that are the same as one of its own. A set of
-- facts that is closed under the rules is closed again (`parted_rules`), since a differ fact is the premise of differ facts alone.
use mathlib.Core.Logic.{◌⊎◌, inl, inr, ⊎_elim}
use Prim.Native.Nat.{ℕ}
use Rattle.meaning.specs.Tree.{Var}
use Rattle.meaning.specs.Constraint.{Fact, child, below, differ, before, root, leaf, label}
use Rattle.meaning.specs.Closed.{Sharing, Siblings, Rules}

module _ (P : Fact → Type 0) (Left Right : Var → Type 0) where
  abbrev pub Apart : Var → Var → Type 0
  Apart x y = P (differ x y) ⊎ ((Left x × Right y) ⊎ (Right x × Left y))

  abbrev pub Parted : Fact → Type 0
  Parted (child x y) = P (child x y)
  Parted (below x y) = P (below x y)
  Parted (differ x y) = Apart x y
  Parted (before x y) = P (before x y)
  Parted (root x) = P (root x)
  Parted (leaf x) = P (leaf x)
  Parted (label x l) = P (label x l)

  -- it is in every set that has P, and all of Left apart from all of Right
  module _ (Q : Fact → Type 0) (has : (φ : Fact) → P φ → Q φ) (there : (x y : Var) → Left x → Right y → Q (differ x y)) (back : (x y : Var) → Right x → Left y → Q (differ x y)) where
    pub parted_least : (φ : Fact) → Parted φ → Q φ
    parted_least (child x y) u = has _ u
    parted_least (below x y) u = has _ u
    parted_least (differ x y) u = ⊎_elim (has _) (λ k. ⊎_elim (λ p. there x y p.0 p.1) (λ p. back x y p.0 p.1) k) u
    parted_least (before x y) u = has _ u
    parted_least (root x) u = has _ u
    parted_least (leaf x) u = has _ u
    parted_least (label x l) u = has _ u

-- what is the same as one of the set is in it
abbrev pub Whole : (Fact → Type 0) → (Var → Type 0) → Type 0
Whole P X = (x u : Var) → P (below x u) → P (below u x) → X x → X u

module _ (n : ℕ) (P : Fact → Type 0) (Left Right : Var → Type 0) (left : Whole P Left) (right : Whole P Right) where
  parted_sharing : Sharing n P → Sharing n (Parted P Left Right)
  parted_sharing s = record {
    child_below = s.child_below;
    child_differ = λ x y a. inl (s.child_differ x y a);
    self_below = s.self_below;
    chain = s.chain;
    root_below = s.root_below;
    leaf_below = s.leaf_below;
    differ_back = λ x y a. ⊎_elim (λ d. inl (s.differ_back x y d)) (λ k. inr (⊎_elim (λ p. inr (p.1, p.0)) (λ p. inl (p.1, p.0)) k)) a;
    same_parent = s.same_parent;
    same_child = s.same_child;
    same_differ = λ x y u a b c. ⊎_elim (λ d. inl (s.same_differ x y u a b d))
        (λ k. inr (⊎_elim (λ p. inl (left x u a b p.0, p.1)) (λ p. inr (right x u a b p.0, p.1)) k)) c;
    same_root = s.same_root;
    same_leaf = s.same_leaf;
    same_label = s.same_label;
  }

  parted_siblings : Siblings n P → Siblings n (Parted P Left Right)
  parted_siblings b = record {
    before_chain = b.before_chain;
    before_differ = λ x y a. inl (b.before_differ x y a);
    before_child = b.before_child;
    after_child = b.after_child;
    same_before = b.same_before;
    same_after = b.same_after;
  }

  pub parted_rules : Rules n P → Rules n (Parted P Left Right)
  parted_rules r = record { sharing = parted_sharing r.sharing; siblings = parted_siblings r.siblings; one_parent = r.one_parent; one_element = r.one_element }
