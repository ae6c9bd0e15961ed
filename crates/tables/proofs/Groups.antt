-- Facts shared within groups. Let B be what below is to be, and let two variables be twins where B holds both ways. What a set of facts P has
-- of a variable is then shared by its twins; R is what before is to be, which the rules of sharing do not name. The set so shared is closed under these
-- rules (`shared_sharing`) and is in every such set that has P, B and R (`shared_least`). P itself need not be closed: only B has to have what its
-- child, root and leaf facts give, and differ has to hold with child, and both ways.
use Prim.Native.Nat.{ℕ, ◌<◌}
use Rattle.meaning.specs.Tree.{Var}
use Rattle.meaning.specs.Constraint.{Fact, child, below, differ, before, root, leaf, label}
use Rattle.meaning.specs.Closed.{Within, Sharing, Siblings, Rules}

module _ (B : Var → Var → Type 0) where
  pub record Twin (x y : Var) : Type 0 where
    pub to : B x y
    pub fro : B y x

  -- a twin has it
  pub record One (R : Var → Type 0) (x : Var) : Type 0 where
    pub it : Var
    pub twin : Twin it x
    pub holds : R it

  pub record Two (R : Var → Var → Type 0) (x y : Var) : Type 0 where
    pub left : Var
    pub right : Var
    pub left_twin : Twin left x
    pub right_twin : Twin right y
    pub holds : R left right

  abbrev pub Shared : (Var → Var → Type 0) → (Fact → Type 0) → Fact → Type 0
  Shared R P (child x y) = Two (λ i j. P (child i j)) x y
  Shared R P (below x y) = B x y
  Shared R P (differ x y) = Two (λ i j. P (differ i j)) x y
  Shared R P (before x y) = R x y
  Shared R P (root x) = One (λ i. P (root i)) x
  Shared R P (leaf x) = One (λ i. P (leaf i)) x
  Shared R P (label x l) = One (λ i. P (label i l)) x

pub record Order (n : ℕ) (P : Fact → Type 0) (B : Var → Var → Type 0) : Type 0 where
  pub keeps : (x y : Var) → P (below x y) → B x y
  pub self : (x : Var) → x < n → B x x
  pub chain : (x y z : Var) → B x y → B y z → B x z
  pub over_child : (x y : Var) → P (child x y) → B x y
  pub under_root : (x y : Var) → P (root x) → y < n → B x y
  pub under_leaf : (x y : Var) → P (leaf x) → B x y → B y x
  pub child_differ : (x y : Var) → P (child x y) → P (differ x y)
  pub differ_back : (x y : Var) → P (differ x y) → P (differ y x)

module _ {B : Var → Var → Type 0} where
  pub flip : {x y : Var} → Twin B x y → Twin B y x
  flip t = record { to = t.fro; fro = t.to }

  pub alone : {x : Var} → B x x → Twin B x x
  alone b = record { to = b; fro = b }

  pub own : {R : Var → Type 0} {x : Var} → Twin B x x → R x → One B R x
  own {x = x} a h = record { it = x; twin = a; holds = h }

  pub pair : {R : Var → Var → Type 0} {x y : Var} → Twin B x x → Twin B y y → R x y → Two B R x y
  pair {x = x} {y = y} a b h = record { left = x; right = y; left_twin = a; right_twin = b; holds = h }

  pub each : {R Q : Var → Var → Type 0} {x y : Var} → ((i j : Var) → R i j → Q i j) → Two B R x y → Two B Q x y
  each h a = record { left = a.left; right = a.right; left_twin = a.left_twin; right_twin = a.right_twin; holds = h _ _ a.holds }

  pub turn : {R Q : Var → Var → Type 0} {x y : Var} → ((i j : Var) → R i j → Q j i) → Two B R x y → Two B Q y x
  turn h a = record { left = a.right; right = a.left; left_twin = a.right_twin; right_twin = a.left_twin; holds = h _ _ a.holds }

-- what is held is shared
module _ (n : ℕ) (P : Fact → Type 0) (B R : Var → Var → Type 0) (keeps : (x y : Var) → P (below x y) → B x y) (self : (x : Var) → x < n → B x x)
    (orders : (x y : Var) → P (before x y) → R x y) (within : (φ : Fact) → P φ → Within n φ) where
  own_twin : {x : Var} → x < n → Twin B x x
  own_twin l = alone (self _ l)

  pub embed_in : (φ : Fact) → P φ → Shared B R P φ
  embed_in (child x y) p = let w = within (child x y) p in pair (own_twin w.0) (own_twin w.1) p
  embed_in (below x y) p = keeps x y p
  embed_in (differ x y) p = let w = within (differ x y) p in pair (own_twin w.0) (own_twin w.1) p
  embed_in (before x y) p = orders x y p
  embed_in (root x) p = own (own_twin (within (root x) p)) p
  embed_in (leaf x) p = own (own_twin (within (leaf x) p)) p
  embed_in (label x l) p = own (own_twin (within (label x l) p)) p

module _ (n : ℕ) (P : Fact → Type 0) (B : Var → Var → Type 0) (o : Order n P B) where
  pub via : {x y z : Var} → Twin B x y → Twin B y z → Twin B x z
  via t u = record { to = o.chain _ _ _ t.to u.to; fro = o.chain _ _ _ u.fro t.fro }

  move_one : {R : Var → Type 0} {x u : Var} → B x u → B u x → One B R x → One B R u
  move_one a b h = record { it = h.it; twin = via h.twin (record { to = a; fro = b }); holds = h.holds }

  pub move_left : {R : Var → Var → Type 0} {x y u : Var} → B x u → B u x → Two B R x y → Two B R u y
  move_left a b h = record { left = h.left; right = h.right; left_twin = via h.left_twin (record { to = a; fro = b }); right_twin = h.right_twin; holds = h.holds }

  pub move_right : {R : Var → Var → Type 0} {x y u : Var} → B y u → B u y → Two B R x y → Two B R x u
  move_right a b h = record { left = h.left; right = h.right; left_twin = h.left_twin; right_twin = via h.right_twin (record { to = a; fro = b }); holds = h.holds }

  pub shared_sharing : (R : Var → Var → Type 0) → Sharing n (Shared B R P)
  shared_sharing R = record {
    child_below = λ x y a. o.chain _ _ _ a.left_twin.fro (o.chain _ _ _ (o.over_child _ _ a.holds) a.right_twin.to);
    child_differ = λ x y a. each o.child_differ a;
    self_below = o.self;
    chain = o.chain;
    root_below = λ x y a l. o.chain _ _ _ a.twin.fro (o.under_root _ _ a.holds l);
    leaf_below = λ x y a b. o.chain _ _ _ (o.under_leaf _ _ a.holds (o.chain _ _ _ a.twin.to b)) a.twin.to;
    differ_back = λ x y a. turn o.differ_back a;
    same_parent = λ x y u a b. move_left a b;
    same_child = λ x y u a b. move_right a b;
    same_differ = λ x y u a b. move_left a b;
    same_root = λ x u a b. move_one a b;
    same_leaf = λ x u a b. move_one a b;
    same_label = λ x u l a b. move_one a b;
  }

  pub embed : (R : Var → Var → Type 0) → ((x y : Var) → P (before x y) → R x y) → ((φ : Fact) → P φ → Within n φ) → (φ : Fact) → P φ → Shared B R P φ
  embed R = embed_in n P B R o.keeps o.self

-- what is shared is in every set that is closed under sharing and has P, B and R
module _ (n : ℕ) (P Q : Fact → Type 0) (B R : Var → Var → Type 0) (s : Sharing n Q) (has : (φ : Fact) → P φ → Q φ)
    (over : (x y : Var) → B x y → Q (below x y)) (earlier : (x y : Var) → R x y → Q (before x y)) where
  pub shared_least : (φ : Fact) → Shared B R P φ → Q φ
  shared_least (child x y) a =
      s.same_parent _ _ _ (over _ _ a.left_twin.to) (over _ _ a.left_twin.fro)
      (s.same_child _ _ _ (over _ _ a.right_twin.to) (over _ _ a.right_twin.fro) (has _ a.holds))
  shared_least (below x y) a = over x y a
  shared_least (differ x y) a =
      s.same_differ _ _ _ (over _ _ a.left_twin.to) (over _ _ a.left_twin.fro)
      (s.differ_back _ _ (s.same_differ _ _ _ (over _ _ a.right_twin.to) (over _ _ a.right_twin.fro) (s.differ_back _ _ (has _ a.holds))))
  shared_least (before x y) a = earlier x y a
  shared_least (root x) a = s.same_root _ _ (over _ _ a.twin.to) (over _ _ a.twin.fro) (has _ a.holds)
  shared_least (leaf x) a = s.same_leaf _ _ (over _ _ a.twin.to) (over _ _ a.twin.fro) (has _ a.holds)
  shared_least (label x l) a = s.same_label _ _ _ (over _ _ a.twin.to) (over _ _ a.twin.fro) (has _ a.holds)

-- ---- a set of facts and another one that has the same

module _ (n : ℕ) (P Q : Fact → Type 0) (to : (φ : Fact) → P φ → Q φ) (from : (φ : Fact) → Q φ → P φ) where
  pub sharing_same : Sharing n P → Sharing n Q
  sharing_same s = record {
    child_below = λ x y a. to _ (s.child_below x y (from _ a));
    child_differ = λ x y a. to _ (s.child_differ x y (from _ a));
    self_below = λ x l. to _ (s.self_below x l);
    chain = λ x y z a b. to _ (s.chain x y z (from _ a) (from _ b));
    root_below = λ x y a l. to _ (s.root_below x y (from _ a) l);
    leaf_below = λ x y a b. to _ (s.leaf_below x y (from _ a) (from _ b));
    differ_back = λ x y a. to _ (s.differ_back x y (from _ a));
    same_parent = λ x y u a b c. to _ (s.same_parent x y u (from _ a) (from _ b) (from _ c));
    same_child = λ x y u a b c. to _ (s.same_child x y u (from _ a) (from _ b) (from _ c));
    same_differ = λ x y u a b c. to _ (s.same_differ x y u (from _ a) (from _ b) (from _ c));
    same_root = λ x u a b c. to _ (s.same_root x u (from _ a) (from _ b) (from _ c));
    same_leaf = λ x u a b c. to _ (s.same_leaf x u (from _ a) (from _ b) (from _ c));
    same_label = λ x u l a b c. to _ (s.same_label x u l (from _ a) (from _ b) (from _ c));
  }

  pub siblings_same : Siblings n P → Siblings n Q
  siblings_same b = record {
    before_chain = λ x y z u v. to _ (b.before_chain x y z (from _ u) (from _ v));
    before_differ = λ x y u. to _ (b.before_differ x y (from _ u));
    before_child = λ x y u p q. to _ (b.before_child x y u (from _ p) (from _ q));
    after_child = λ x y u p q. to _ (b.after_child x y u (from _ p) (from _ q));
    same_before = λ x y u p q c. to _ (b.same_before x y u (from _ p) (from _ q) (from _ c));
    same_after = λ x y u p q c. to _ (b.same_after x y u (from _ p) (from _ q) (from _ c));
  }

  pub rules_same : Rules n P → Rules n Q
  rules_same r = record {
    sharing = sharing_same r.sharing;
    siblings = siblings_same r.siblings;
    one_parent = λ x y z a b. to _ (r.one_parent x y z (from _ a) (from _ b));
    one_element = λ x y z a b c. to _ (r.one_element x y z (from _ a) (from _ b) (from _ c));
  }
