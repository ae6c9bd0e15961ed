-- Every finite tree whose nodes bear no numbers has a numbering as docs/FORMAT.md wants, with the same parents and labels, and siblings in their
-- order. A node's key is its depth, then how many siblings precede it, then its place in the list of nodes; its number is how many keys are
-- smaller. A parent is less deep, so its number is smaller; of two siblings the one that precedes has fewer before it.
use mathlib.Core.Path.{◌≡◌, refl, sym, ap, ◌∙◌, subst}
use mathlib.Core.Logic.{◌≢◌, ◌⊎◌, inl, inr, ⊎_elim}
use mathlib.Core.List.Memᴰ
use mathlib.Core.List.{List, [], ◌∷◌, Memᴰ}
use Prim.Native.Nat.{ℕ, suc, ◌+◌, ◌*◌, ◌%◌, ◌≤◌, ◌<◌, max, zero-le, suc-le-suc}
use native.Mathlib.Nat.{le_refl, le_step, zero-lt-suc, mul-le-mul_right, suc-mul, mul-add-mod_self_right, mod-eq_of_lt}
use native.Mathlib.Decide.{map_dec, dec_lt, ℕ_discrete}
use native.Mathlib.Omega.{arith}
use lib.ListN.{length, get_or}
use Rattle.meaning.specs.Tree.{Node, Tree, IsTree}
use Rattle.meaning.specs.AnyTree.{Reaches, here, down, AnyTree, PrecedesSibling, ByteLabelled, Numbering}
use Rattle.theory.proofs.Rank.{rank, rank_smaller, rank_onto}

-- ---- the place of a member of a list

module _ {A : Type 0} where
  place : {v : A} {xs : List A} → Memᴰ v xs → ℕ
  place (Memᴰ.head e) = 0
  place (Memᴰ.tail m) = suc (place m)

  place_inside : {v : A} {xs : List A} (m : Memᴰ v xs) → place m < length xs
  unfolding place
  place_inside (Memᴰ.head e) = zero-lt-suc _
  place_inside (Memᴰ.tail m) = suc-le-suc (place_inside m)

  place_at : {v : A} {xs : List A} (m : Memᴰ v xs) (d : A) → get_or xs (place m) d ≡ v
  unfolding place
  place_at (Memᴰ.head e) d = sym e
  place_at (Memᴰ.tail m) d = place_at m d

remainders_same : (n a b p q : ℕ) → p < n → q < n → a * n + p ≡ b * n + q → p ≡ q
remainders_same n a b p q l k e = sym (rest a p l) ∙ ap (λ (i : ℕ). i % n) e ∙ rest b q k
  where
    rest : (c r : ℕ) → r < n → (c * n + r) % n ≡ r
    rest c r h = mul-add-mod_self_right c n r ∙ mod-eq_of_lt h

-- the first of two digits decides
digits : (n a b p q : ℕ) → a < b → p < n → a * n + p < b * n + q
digits n a b p q l k = let m : suc a * n ≤ b * n = mul-le-mul_right n l in let e : suc a * n ≡ a * n + n = suc-mul a n in omega arith

-- one more if it holds
more : {A : Type 0} → Dec A → ℕ → ℕ
more (yes h) k = suc k
more (no h) k = k

more_most : {A : Type 0} (d : Dec A) (k : ℕ) → more d k ≤ suc k
unfolding more
more_most (yes h) k = le_refl _
more_most (no h) k = le_step (le_refl _)

more_le : {A B : Type 0} (d : Dec A) (e : Dec B) → (A → B) → {j k : ℕ} → j ≤ k → more d j ≤ more e k
unfolding more
more_le (yes h) (yes g) f l = suc-le-suc l
more_le (yes h) (no g) f l = absurd (g (f h))
more_le (no h) (yes g) f l = le_step l
more_le (no h) (no g) f l = l

more_still : {A B : Type 0} (d : Dec A) (e : Dec B) → (A → B) → {j k : ℕ} → j < k → more d j < more e k
unfolding more
more_still (yes h) (yes g) f l = suc-le-suc l
more_still (yes h) (no g) f l = absurd (g (f h))
more_still (no h) (yes g) f l = le_step l
more_still (no h) (no g) f l = l

more_lt : {A B : Type 0} (d : Dec A) (e : Dec B) → ¬ A → B → {j k : ℕ} → j ≤ k → more d j < more e k
unfolding more
more_lt (yes h) e n b l = absurd (n h)
more_lt (no h) (yes g) n b l = suc-le-suc l
more_lt (no h) (no g) n b l = absurd (g b)

-- ---- depth

steps : {N : Type 0} {R : N → N → Type 0} {u v : N} → Reaches R u v → ℕ
steps here = 0
steps (down p h) = suc (steps h)

module _ {N : Type 0} (T : AnyTree N) where
  -- one way leads from the root to a node
  steps_same : {v w : N} (h : Reaches T.IsParent T.root v) (k : Reaches T.IsParent T.root w) → v ≡ w → steps h ≡ steps k
  unfolding steps
  steps_same here here e = refl
  steps_same here (down {w = x} q k) e = absurd (T.no_parent x (subst (T.IsParent x) (sym e) q))
  steps_same (down {w = u} p h) here e = absurd (T.no_parent u (subst (T.IsParent u) e p))
  steps_same (down {w = u} p h) (down q k) e = ap suc (steps_same h k (T.one_parent (subst (T.IsParent u) e p) q))

  depth : N → ℕ
  depth v = steps (T.reached v)

  depth_parent : {u v : N} → T.IsParent u v → depth v ≡ suc (depth u)
  unfolding depth steps
  depth_parent {u} {v} p = steps_same (T.reached v) (down p (T.reached u)) refl

  -- ---- a node is the root or has a parent, and two nodes have two places

  root_or_last : {v : N} → Reaches T.IsParent T.root v → (v ≡ T.root) ⊎ ((u : N) × T.IsParent u v)
  root_or_last here = inl refl
  root_or_last (down {w = u} p h) = inr (u, p)

  root_or_child : (v : N) → (v ≡ T.root) ⊎ ((u : N) × T.IsParent u v)
  root_or_child v = root_or_last (T.reached v)

  place_one_to_one : (u v : N) → place (T.listed u) ≡ place (T.listed v) → u ≡ v
  place_one_to_one u v e = sym (place_at (T.listed u) T.root) ∙ ap (λ (i : ℕ). get_or T.nodes i T.root) e ∙ place_at (T.listed v) T.root

  pub nodes_discrete : (u v : N) → Dec (u ≡ v)
  nodes_discrete u v = map_dec (place_one_to_one u v) (ap (λ (w : N). place (T.listed w))) (ℕ_discrete _ _)

  -- ---- the siblings that precede a node

  -- two siblings can be compared
  pub siblings_compared : {p u v : N} → T.IsParent p u → T.IsParent p v → Dec (T.Precedes u v)
  siblings_compared {p} {u} {v} a b = same_or_not (nodes_discrete u v)
    where
      same_or_not : Dec (u ≡ v) → Dec (T.Precedes u v)
      same_or_not (yes e) = no (λ q. T.precedes_not v (subst (λ (w : N). T.Precedes w v) e q))
      same_or_not (no d) = ⊎_elim yes (λ r. no (λ q. T.precedes_not u (T.precedes_chain q r))) (T.precedes_total a b d)

  sibling_decided : (u v : N) → Dec (PrecedesSibling T u v)
  sibling_decided u v = by (root_or_child u) (root_or_child v)
    where
      by : (u ≡ T.root) ⊎ ((p : N) × T.IsParent p u) → (v ≡ T.root) ⊎ ((q : N) × T.IsParent q v) → Dec (PrecedesSibling T u v)
      by (inl e) r = no (λ s. T.no_parent s.above (subst (T.IsParent s.above) e s.parent_u))
      by (inr a) (inl e) = no (λ s. T.no_parent s.above (subst (T.IsParent s.above) e s.parent_v))
      by (inr a) (inr b) = parents (nodes_discrete a.0 b.0)
        where
          parents : Dec (a.0 ≡ b.0) → Dec (PrecedesSibling T u v)
          parents (no d) = no (λ s. d (T.one_parent a.1 s.parent_u ∙ T.one_parent s.parent_v b.1))
          parents (yes e) =
              let c : T.IsParent a.0 v = subst (λ (w : N). T.IsParent w v) (sym e) b.1 in
              map_dec (λ f. record { above = a.0; parent_u = a.1; parent_v = c; first = f }) (λ s. s.first) (siblings_compared a.1 c)

  -- how many members of a list do
  preceding : List N → N → ℕ
  preceding [] v = 0
  preceding (x ∷ xs) v = more (sibling_decided x v) (preceding xs v)

  preceding_most : (xs : List N) (v : N) → preceding xs v ≤ length xs
  unfolding preceding
  preceding_most [] v = zero-le
  preceding_most (x ∷ xs) v = let a = more_most (sibling_decided x v) (preceding xs v) in let b = preceding_most xs v in omega arith

  precedes_chain : {u v w : N} → PrecedesSibling T u v → PrecedesSibling T v w → PrecedesSibling T u w
  precedes_chain {w = w} h k = record {
    above = h.above;
    parent_u = h.parent_u;
    parent_v = subst (λ (p : N). T.IsParent p w) (T.one_parent k.parent_u h.parent_v) k.parent_v;
    first = T.precedes_chain h.first k.first;
  }

  preceding_le : (xs : List N) {u v : N} → PrecedesSibling T u v → preceding xs u ≤ preceding xs v
  unfolding preceding
  preceding_le [] s = zero-le
  preceding_le (x ∷ xs) {u} {v} s = more_le (sibling_decided x u) (sibling_decided x v) (λ q. precedes_chain q s) (preceding_le xs s)

  -- u precedes v and not itself
  preceding_lt : (xs : List N) {u v : N} → Memᴰ u xs → PrecedesSibling T u v → preceding xs u < preceding xs v
  unfolding preceding
  preceding_lt [] m s = absurd (Memᴰ.not-nil m)
  preceding_lt (x ∷ xs) {u} {v} m s =
      ⊎_elim
      (λ e. more_lt (sibling_decided x u) (sibling_decided x v)
      (λ q. T.precedes_not u (subst (λ (w : N). T.Precedes w u) (sym e) q.first)) (subst (λ (w : N). PrecedesSibling T w v) e s) (preceding_le xs s))
      (λ k. more_still (sibling_decided x u) (sibling_decided x v) (λ q. precedes_chain q s) (preceding_lt xs k s))
      (Memᴰ.cases_cons m)

  -- ---- the key of a node: its depth, then the number of siblings that precede it, then its place in the list

  spread : N → ℕ
  spread v = depth v * suc (length T.nodes) + preceding T.nodes v

  key : N → ℕ
  key v = spread v * length T.nodes + place (T.listed v)

  key_later : (u v : N) → spread u < spread v → key u < key v
  unfolding key
  key_later u v l = digits _ _ _ _ _ l (place_inside (T.listed u))

  key_parent : {u v : N} → T.IsParent u v → key u < key v
  unfolding spread
  key_parent {u} {v} p =
      key_later u v (digits _ _ _ _ _ (subst (λ (d : ℕ). depth u < d) (sym (depth_parent p)) (le_refl _)) (suc-le-suc (preceding_most T.nodes u)))

  depth_sibling : {p u v : N} → T.IsParent p u → T.IsParent p v → depth u ≡ depth v
  depth_sibling a b = depth_parent a ∙ sym (depth_parent b)

  key_sibling : {u v : N} → PrecedesSibling T u v → key u < key v
  unfolding spread
  key_sibling {u} {v} s =
      let e : depth u * suc (length T.nodes) ≡ depth v * suc (length T.nodes) = ap (λ (d : ℕ). d * suc (length T.nodes)) (depth_sibling s.parent_u s.parent_v) in
      let l = preceding_lt T.nodes (T.listed u) s in
      key_later u v (omega arith)

  key_one_to_one : (u v : N) → key u ≡ key v → u ≡ v
  unfolding key
  key_one_to_one u v e = place_one_to_one u v (remainders_same (length T.nodes) _ _ _ _ (place_inside (T.listed u)) (place_inside (T.listed v)) e)

  IsKey : ℕ → Type 0
  IsKey k = (v : N) × (key v ≡ k)

  key_look : (k : ℕ) (xs : List N) → IsKey k ⊎ ((v : N) → Memᴰ v xs → key v ≢ k)
  unfolding IsKey
  key_look k [] = inr (λ v m. absurd (Memᴰ.not-nil m))
  key_look k (x ∷ xs) = go (ℕ_discrete (key x) k) (key_look k xs)
    where
      go : Dec (key x ≡ k) → IsKey k ⊎ ((v : N) → Memᴰ v xs → key v ≢ k) → IsKey k ⊎ ((v : N) → Memᴰ v (x ∷ xs) → key v ≢ k)
      go (yes e) r = inl (x, e)
      go (no h) (inl w) = inl w
      go (no h) (inr r) = inr (λ v m. ⊎_elim (λ e q. h (ap key (sym e) ∙ q)) (r v) (Memᴰ.cases_cons m))

  key_decided : (k : ℕ) → Dec (IsKey k)
  unfolding IsKey
  key_decided k = ⊎_elim yes (λ r. no (λ w. r w.0 (T.listed w.0) w.1)) (key_look k T.nodes)

  -- larger than the key of every member
  top : List N → ℕ
  top [] = 0
  top (x ∷ xs) = max (suc (key x)) (top xs)

  key_below : (v : N) (xs : List N) → Memᴰ v xs → key v < top xs
  unfolding top
  key_below v [] m = absurd (Memᴰ.not-nil m)
  key_below v (x ∷ xs) m =
      ⊎_elim (λ e. let z : key v ≡ key x = ap key e in omega arith) (λ k. let z = key_below v xs k in omega arith) (Memᴰ.cases_cons m)

  -- ---- the number of a node: the rank of its key

  size_of : ℕ
  size_of = rank IsKey key_decided (top T.nodes)

  number_of : N → Node
  number_of v = rank IsKey key_decided (key v)

  number_inside : (v : N) → number_of v < size_of
  unfolding size_of number_of IsKey
  number_inside v = rank_smaller IsKey key_decided (key v) (top T.nodes) (v, refl) (key_below v T.nodes (T.listed v))

  number_smaller : (u v : N) → key u < key v → number_of u < number_of v
  unfolding number_of IsKey
  number_smaller u v l = rank_smaller IsKey key_decided (key u) (key v) (u, refl) l

  number_one_to_one : (u v : N) → number_of u ≡ number_of v → u ≡ v
  number_one_to_one u v e = go (dec_lt (key u) (key v)) (dec_lt (key v) (key u))
    where
      go : Dec (key u < key v) → Dec (key v < key u) → u ≡ v
      go (yes l) _ = absurd (let z = number_smaller u v l in omega arith)
      go (no l) (yes k) = absurd (let z = number_smaller v u k in omega arith)
      go (no l) (no k) = key_one_to_one u v (omega arith)

  number_onto : (i : Node) → i < size_of → (v : N) × (number_of v ≡ i)
  unfolding size_of number_of IsKey
  number_onto i l = let w = rank_onto IsKey key_decided (top T.nodes) i l in (w.1.0, ap (rank IsKey key_decided) w.1.1 ∙ w.2)

  -- ---- the numbered tree

  parent_of : N → N
  parent_of v = ⊎_elim (λ e. T.root) (λ w. w.0) (root_or_child v)

  parent_is : {u v : N} → T.IsParent u v → parent_of v ≡ u
  unfolding parent_of
  parent_is {u} {v} p = go (root_or_child v)
    where
      go : (d : (v ≡ T.root) ⊎ ((u : N) × T.IsParent u v)) → ⊎_elim (λ e. T.root) (λ w. w.0) d ≡ u
      go (inl e) = absurd (T.no_parent u (subst (T.IsParent u) e p))
      go (inr w) = T.one_parent w.1 p

  parent_there : (v : N) → v ≢ T.root → T.IsParent (parent_of v) v
  parent_there v d = ⊎_elim (λ e. absurd (d e)) (λ w. subst (λ (u : N). T.IsParent u v) (sym (parent_is w.1)) w.1) (root_or_child v)

  node_in : (i : Node) → Dec (i < size_of) → N
  node_in i (yes l) = (number_onto i l).0
  node_in i (no l) = T.root

  node_of : Node → N
  node_of i = node_in i (dec_lt i size_of)

  node_number : (i : Node) → i < size_of → number_of (node_of i) ≡ i
  unfolding node_of node_in
  node_number i l = go (dec_lt i size_of)
    where
      go : (d : Dec (i < size_of)) → number_of (node_in i d) ≡ i
      go (yes k) = (number_onto i k).1
      go (no k) = absurd (k l)

  number_node : (v : N) → node_of (number_of v) ≡ v
  number_node v = number_one_to_one _ v (node_number (number_of v) (number_inside v))

  -- the root has the number 0: a node with number 0 that is not the root has a parent with a smaller number
  number_root : number_of T.root ≡ 0
  number_root = go (dec_lt 0 (number_of T.root))
    where
      go : Dec (0 < number_of T.root) → number_of T.root ≡ 0
      go (no l) = omega arith
      go (yes l) =
          let z : 0 < size_of = let k = number_inside T.root in omega arith in
          let e : number_of (node_of 0) ≡ 0 = node_number 0 z in
          let p : T.IsParent (parent_of (node_of 0)) (node_of 0) = parent_there (node_of 0) (λ q. let r : number_of (node_of 0) ≡ number_of T.root = ap number_of q in omega arith) in
          let s : number_of (parent_of (node_of 0)) < number_of (node_of 0) = number_smaller _ _ (key_parent p) in
          absurd (omega arith)

  not_root : (v : N) → 0 < number_of v → v ≢ T.root
  not_root v l e = let z : number_of v ≡ number_of T.root = ap number_of e in let r = number_root in omega arith

  abbrev numbered_tree : Tree
  numbered_tree = record { size = size_of; parent = λ i. number_of (parent_of (node_of i)); label = λ i. T.label (node_of i) }

  numbered_is_tree : ByteLabelled T → IsTree numbered_tree
  numbered_is_tree b = record {
    two_nodes = two;
    blank_first = ap T.label (root_at_lem) ∙ T.root_blank;
    one_child = λ v p. only v p.not_first p.inside p.is;
    smaller = λ i z l.
        let e : number_of (node_of i) ≡ i = node_number i l in
        let s : number_of (parent_of (node_of i)) < number_of (node_of i) = number_smaller _ _ (key_parent (parent_there (node_of i) (not_root (node_of i) (omega arith)))) in
        omega arith;
    byte_label = λ i l. b (node_of i);
  }
    where
      two : 1 < size_of
      two = let a = number_smaller T.root T.element (key_parent T.has_element) in let c = number_inside T.element in omega arith

      root_at_lem : node_of 0 ≡ T.root
      root_at_lem = ap node_of (sym number_root) ∙ number_node T.root

      -- a child of the root is its element
      child_is : (v : Node) → 0 < v → v < size_of → number_of (parent_of (node_of v)) ≡ 0 → node_of v ≡ T.element
      child_is v z l e =
          let p = parent_there (node_of v) (not_root (node_of v) (let q = node_number v l in omega arith)) in
          T.one_element (subst (λ (w : N). T.IsParent w (node_of v)) (number_one_to_one _ T.root (e ∙ sym number_root)) p)

      -- and so is the node with the number 1, since only 0 is smaller
      first_child : node_of 1 ≡ T.element
      first_child =
          child_is 1 (le_refl _) two
          (let e = node_number 1 two in
          let s = number_smaller _ _ (key_parent (parent_there (node_of 1) (not_root (node_of 1) (let q = node_number 1 two in omega arith)))) in
          omega arith)

      only : (v : Node) → 0 < v → v < size_of → number_of (parent_of (node_of v)) ≡ 0 → v ≡ 1
      only v z l e = sym (node_number v l) ∙ ap number_of (child_is v z l e ∙ sym first_child) ∙ node_number 1 two

  numbered_same : Numbering T numbered_tree
  numbered_same = record {
    number = number_of;
    inside = number_inside;
    one_to_one = number_one_to_one;
    onto = number_onto;
    same_parents = λ u v. (
      λ p. record { not_first = let s = number_smaller u v (key_parent p) in omega arith; inside = number_inside v; is = ap number_of (ap parent_of (number_node v) ∙ parent_is p) },
      λ p. subst (λ (w : N). T.IsParent w v) (number_one_to_one _ u (ap number_of (ap parent_of (sym (number_node v))) ∙ p.is)) (parent_there v (not_root v p.not_first)),
    );
    same_labels = λ v. ap T.label (number_node v);
    same_order = λ {p} {u} {v} a b. (
      λ q. number_smaller u v (key_sibling (record { above = p; parent_u = a; parent_v = b; first = q })),
      λ l. order_back a b l (siblings_compared a b),
    );
  }
    where
      order_back : {p u v : N} → T.IsParent p u → T.IsParent p v → number_of u < number_of v → Dec (T.Precedes u v) → T.Precedes u v
      order_back a b l (yes q) = q
      order_back {p} {u} {v} a b l (no q) =
          ⊎_elim (λ r. r) (λ r. absurd (let z = number_smaller v u (key_sibling (record { above = p; parent_u = b; parent_v = a; first = r })) in omega arith))
          (T.precedes_total a b (λ e. let z : number_of u ≡ number_of v = ap number_of e in omega arith))

  -- every finite tree whose labels are bytes has a numbering
  pub numbered : ByteLabelled T → (t : Tree) × IsTree t × Numbering T t
  numbered b = (numbered_tree, numbered_is_tree b, numbered_same)
