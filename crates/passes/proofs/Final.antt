-- After a pass: for every S that the tables are to settle from, all that the rows took is settled, and the rows are again tables to settle S
-- from. But for what joining added to below they have what the groups share of the given facts (tables/proofs/Groups), so where below did not
-- grow they are closed under the rules of sharing and those of one parent and one element.
use mathlib.Core.Path.{◌≡◌, refl, sym, ap, ◌∙◌, subst}
use mathlib.Core.Logic.{◌≢◌, inl, inr, ⊎_elim}
use mathlib.Core.Bool.{Bool, true, false}
use mathlib.Core.List.{List}
use Prim.Native.Nat.{ℕ, ◌+◌, ◌^◌, ◌<◌, ◌≤◌}
use native.Mathlib.Nat.{le_trans}
use native.Mathlib.Decide.{dec_lt, ℕ_discrete}
use native.Mathlib.Omega.{arith}
use lib.ListN.{length, get_or-eq_default}
use lib.Bits.{bit_or}
use mir.Val.{Fits}
use mir.Syntax.{w16}
use Rattle.meaning.specs.Constraint.{Fact, child, below, differ, before, root, leaf, label}
use Rattle.meaning.specs.Settled.{Settled, Clash, differs, labels, leaf_below, one_parent, one_element}
use Rattle.meaning.specs.Finite.{Yes, sum, pick}
use Rattle.meaning.proofs.Finite.{sum_le, sum_lt}
use Rattle.meaning.proofs.Tests.{yes_eq}
use Rattle.meaning.specs.Closed.{Within}
use Rattle.meaning.proofs.Least.{settled_within, settled_rules}
use Rattle.rowbits.specs.Bit.{bit}
use Rattle.tables.specs.Tables.{row, has, Seeded}
use Rattle.tables.specs.declared.Facts.{Facts}
use Rattle.tables.proofs.Bits.{none_in, or_l, or_r, in_both, both_in, in_row, one_has}
use Rattle.tables.proofs.Loops.{transposed_columns}
use Rattle.tables.proofs.Labels.{label_has, label_is}
use Rattle.tables.proofs.Groups as groups
use Rattle.tables.proofs.Groups.{Twin, One, Two, Order, flip, alone, own, each, turn, embed_in, shared_sharing, shared_least, sharing_same}
use Rattle.passes.specs.Rows.{In, GroupsOf, WholeGroups, Joins, by_leaf, by_child, by_root, JoinedOf}
use Rattle.sharing.specs.Shares.{share_at, Source, GroupClash, two_labels, apart, Shared}
use Rattle.passes.proofs.Weights.{bits_le}
use Rattle.passes.specs.Steps.{weight, StepOf, PassRules}
use Rattle.passes.specs.declared.Groups.{Groups}
use Rattle.sharing.specs.declared.Share.{Share}
use Rattle.sharing.specs.declared.Shares.{Shares}
use Rattle.passes.specs.declared.Joined.{Joined}

-- the tables that f's groups share
abbrev pub shares : Facts → Shares
shares f = record { child = f.child; parent = f.parent; differ = f.differ; label = f.label }

-- what a pass knows before its loops
pub record Start (n : ℕ) (f : Facts) (k : Groups) : Type 0 where
  pub few : n ≤ 16
  pub groups : GroupsOf n f.below f.child f.root k
  pub parent_long : length f.parent ≡ 16
  pub parent_fits : (i : ℕ) → Fits w16 (row f.parent i)
  pub child_fits : (i : ℕ) → Fits w16 (row f.child i)

module _ {n : ℕ} {f : Facts} {k : Groups} (o : Start n f k) (S : List Fact) (seed : Seeded n S f) where
  abbrev B : List ℕ
  B = k.below

  abbrev E : List ℕ
  E = k.same

  abbrev P : Fact → Type 0
  P φ = Yes (has f φ)

  in_16 : {x : ℕ} → x < n → x < 16
  in_16 h = le_trans h o.few

  within : (φ : Fact) → P φ → Within n φ
  within φ u = settled_within n S seed.inside (seed.sound φ u)

  -- ---- below, and the same

  B-s : (x y : ℕ) → In B x y → Settled n S (below x y)
  unfolding has
  B-s x y u = o.groups.chained.sound S (λ i j. seed.sound (below i j)) (λ i j. seed.sound (child i j)) (λ i. seed.sound (root i)) x y u

  B-in : (x y : ℕ) → In B x y → (x < n) × (y < n)
  B-in x y u = settled_within n S seed.inside (B-s x y u)

  B-chain : (x y z : ℕ) → In B x y → In B y z → In B x z
  B-chain x y z u v = let q = B-in x y u in o.groups.chained.chained x y z q.0 q.1 u v

  -- y in the group of x
  twin : {x y : ℕ} → x < 16 → In E x y → Twin (In B) y x
  twin {x} {y} h u =
      let q = in_both (row B x) (row k.above x) y (subst (λ (i : ℕ). Yes (bit i y)) (o.groups.common.rows x) u) in
      record { to = (o.groups.columns.columns x h).from y q.1; fro = q.0 }

  group : {x y : ℕ} → Twin (In B) y x → In E x y
  group {x} {y} t =
      let q = B-in x y t.fro in
      subst (λ (i : ℕ). Yes (bit i y)) (sym (o.groups.common.rows x))
      (both_in (row B x) (row k.above x) y t.fro ((o.groups.columns.columns x (in_16 q.0)).to y (in_16 q.1) t.to))

  itself : {x : ℕ} → x < n → Twin (In B) x x
  itself {x} h = alone (o.groups.chained.itself x h)

  twin_in : {x y : ℕ} → Twin (In B) y x → x < n
  twin_in t = (B-in _ _ t.to).1

  one : {R : ℕ → Type 0} {x : ℕ} (y : ℕ) → x < 16 → In E x y → R y → One (In B) R x
  one y h u r = record { it = y; twin = twin h u; holds = r }

  -- a variable with another one that is the same, or x itself, is visited
  visited : (x z j : ℕ) → (j ≡ z → z ≡ x) → Twin (In B) z j → Yes (bit (bit_or k.several (2 ^ x)) z)
  visited x z j e u = go (ℕ_discrete j z)
    where
      go : Dec (j ≡ z) → Yes (bit (bit_or k.several (2 ^ x)) z)
      go (yes i) = or_r k.several (2 ^ x) z (subst (λ (m : ℕ). Yes (bit (2 ^ x) m)) (sym (e i)) (one_has x))
      go (no i) = or_l k.several (2 ^ x) z (o.groups.grouped.has j z (in_16 (twin_in u)) (in_16 (twin_in (flip u))) (λ q. i (sym q)) (group u))

  -- ---- the given facts, and what the groups share of them; before is not shared

  abbrev R : ℕ → ℕ → Type 0
  R x y = P (before x y)

  least : (φ : Fact) → groups.Shared (In B) R P φ → Settled n S φ
  least = shared_least n P (Settled n S) (In B) R (settled_rules n S).sharing seed.sound B-s (λ x y. seed.sound (before x y))

  parent_child : (x y : ℕ) → In f.parent x y → P (child y x)
  unfolding has
  parent_child x y u = sym (seed.parents y x (in_row (row f.parent x) y ((o.parent_fits x).fits) u) (go (dec_lt x 16))) ∙ u
    where
      go : Dec (x < 16) → x < 16
      go (yes h) = h
      go (no h) = none_in y (subst (λ (i : ℕ). Yes (bit i y)) (get_or-eq_default f.parent 0 (rw o.parent_long (omega arith))) u)

  child_parent : (x y : ℕ) → P (child x y) → In f.parent y x
  unfolding has
  child_parent x y u = let q = within (child x y) u in seed.parents x y (in_16 q.0) (in_16 q.1) ∙ u

  -- a table of given facts: they name variables, and those differ
  pub record Given (t : List ℕ) : Type 0 where
    pub few : (x y : ℕ) → In t x y → (x < n) × (y < n)
    pub apart : (x y : ℕ) → In t x y → In f.differ x y

  child_given : Given f.child
  unfolding has
  child_given = record { few = λ x y. within (child x y); apart = seed.child_differ }

  parent_given : Given f.parent
  unfolding has
  parent_given = record {
    few = λ x y u. let q = within (child y x) (parent_child x y u) in (q.1, q.0);
    apart = λ x y u. seed.turned y x (seed.child_differ y x (parent_child x y u));
  }

  differ_given : Given f.differ
  unfolding has
  differ_given = record { few = λ x y. within (differ x y); apart = λ x y u. u }

  two : {t : List ℕ} {x y : ℕ} → Given t → (i z : ℕ) → x < n → In E x i → In t i z → In E z y → Two (In B) (In t) x y
  two g i z h u v w = record { left = i; right = z; left_twin = twin (in_16 h) u; right_twin = flip (twin (in_16 (g.few i z v).1) w); holds = v }

  pub group_clash : GroupClash n (shares f) E → Clash n S
  unfolding has
  group_clash (two_labels x y z h u v a b e) =
      labels {x = x} (least (label x _) (one y (in_16 h) u (label_has f y _ refl a))) (least (label x _) (one z (in_16 h) v (label_has f z _ refl b))) e
  group_clash (apart x y z h u v w) = differs (least (differ x x) (two differ_given y z h u v w))

  -- ---- the tables after the pass

  module _ {t : Shares} {j : Joined} {roots leaves : ℕ} (w : Shared n (shares f) E k.several t)
      (a : JoinedOf n B k.above f.leaf roots t.child t.parent j) (r : WholeGroups E f.root roots) (l : WholeGroups E f.leaf leaves) where
    abbrev g : Facts
    g = record { child = t.child; parent = t.parent; below = j.below; above = k.above; differ = t.differ; before = f.before; after = f.after; root = roots; label = t.label; leaf = leaves }

    -- rows from n on are as they were, and hold nothing
    rest : (x : ℕ) → ¬ (x < n) → share_at t x ≡ share_at (shares f) x
    rest x h = w.rest x (omega arith)

    -- u has what the groups share of t, and nothing else
    record Spread (given u : List ℕ) : Type 0 where
      from : (x y : ℕ) → In u x y → Two (In B) (In given) x y
      to : (x y : ℕ) → Two (In B) (In given) x y → In u x y

    spread : {t u : List ℕ} → Given t → ((x : ℕ) → ¬ (x < n) → row u x ≡ row t x) → ((x y : ℕ) → x < n → In u x y → Source E t (row E x) y)
        → ((x i y : ℕ) → x < n → In E x i → In t i y → In u x y)
        → ((x i z y : ℕ) → x < n → In E x i → In f.differ i z → Yes (bit (bit_or k.several (2 ^ x)) z) → In t i z → In E z y → In u x y) → Spread t u
    spread {t} {u} g e a b c = record { from = λ x y v. from x y v (dec_lt x n); to = λ x y v. to x y v (ℕ_discrete y v.right) }
      where
        source : (x y : ℕ) → x < n → Source E t (row E x) y → Two (In B) (In t) x y
        source x y h (i, u, inl v) = two g i y h u v (group (itself (g.few i y v).1))
        source x y h (i, u, inr (z, v, w)) = two g i z h u v w

        from : (x y : ℕ) → In u x y → Dec (x < n) → Two (In B) (In t) x y
        from x y v (yes h) = source x y h (a x y h v)
        from x y v (no h) = absurd (h (g.few x y (subst (λ (i : ℕ). Yes (bit i y)) (e x h) v)).0)

        to : (x y : ℕ) (v : Two (In B) (In t) x y) → Dec (y ≡ v.right) → In u x y
        to x y v (yes i) = b x v.left y (twin_in v.left_twin) (group v.left_twin) (subst (In t v.left) (sym i) v.holds)
        to x y v (no i) = c x v.left v.right y (twin_in v.left_twin) (group v.left_twin) (g.apart v.left v.right v.holds)
            (visited x v.right y (λ q. absurd (i q)) v.right_twin) v.holds (group (flip v.right_twin))

    child_spread : Spread f.child t.child
    child_spread = spread child_given (λ x h. ap (λ (i : Share). i.child) (rest x h)) (λ x y h u. (w.done x h).taking.child y u) (λ x i y h e u. ((w.done x h).taken i e).child y u) (λ x i z y h e d v u q. (((w.done x h).taken i e).twins z d v).child u y q)

    parent_spread : Spread f.parent t.parent
    parent_spread = spread parent_given (λ x h. ap (λ (i : Share). i.parent) (rest x h)) (λ x y h u. (w.done x h).taking.parent y u) (λ x i y h e u. ((w.done x h).taken i e).parent y u) (λ x i z y h e d v u q. (((w.done x h).taken i e).twins z d v).parent u y q)

    differ_spread : Spread f.differ t.differ
    differ_spread = spread differ_given (λ x h. ap (λ (i : Share). i.differ) (rest x h)) (λ x y h u. (w.done x h).taking.differ y u) (λ x i y h e u. ((w.done x h).taken i e).differ y u) (λ x i z y h e d v u q. (((w.done x h).taken i e).twins z d v).differ y q)

    to_child : (x y : ℕ) → In t.parent y x → In t.child x y
    unfolding has
    to_child x y u = child_spread.to x y (turn parent_child (parent_spread.from y x u))

    to_parent : (x y : ℕ) → In t.child x y → In t.parent y x
    unfolding has
    to_parent x y u = parent_spread.to y x (turn child_parent (child_spread.from x y u))

    -- a variable of whole groups, and the one that it is the same as
    whole_from : {t r : ℕ} → WholeGroups E t r → ((x : ℕ) → Yes (bit t x) → x < n) → (x : ℕ) → Yes (bit r x) → One (In B) (λ i. Yes (bit t i)) x
    whole_from w few x u = ⊎_elim (λ v. own (itself (few x v)) v) (λ v. one v.1 v.0 v.2 v.3) (w.from x u)

    whole_to : {t r : ℕ} → WholeGroups E t r → (x : ℕ) → One (In B) (λ i. Yes (bit t i)) x → Yes (bit r x)
    whole_to w x v = w.to x v.it (in_16 (twin_in v.twin)) (group v.twin) v.holds

    label_from : (x m : ℕ) → Yes (has g (label x m)) → One (In B) (λ i. P (label i m)) x
    label_from x m u = go (dec_lt x n)
      where
        q : (row t.label x ≡ m) × (m ≢ 0)
        q = label_is g x m u

        go : Dec (x < n) → One (In B) (λ i. P (label i m)) x
        go (yes h) = let v = (w.done x h).taking.label (λ z. q.1 (sym q.0 ∙ z)) in one v.0 (in_16 h) v.1 (label_has f v.0 m (v.2 ∙ q.0) q.1)
        go (no h) = absurd (h (within (label x m) (label_has f x m (sym (ap (λ (i : Share). i.label) (rest x h)) ∙ q.0) q.1)))

    -- but for what joining added to below, the tables have what the groups share
    from : (Q : Fact → Type 0) → ((φ : Fact) → groups.Shared (In B) R P φ → Q φ) → ((x y : ℕ) → In j.below x y → Q (below x y)) → (φ : Fact) → Yes (has g φ) → Q φ
    unfolding has
    from Q q b (child x y) u = q (child x y) (child_spread.from x y u)
    from Q q b (below x y) u = b x y u
    from Q q b (differ x y) u = q (differ x y) (differ_spread.from x y u)
    from Q q b (before x y) u = q (before x y) u
    from Q q b (root x) u = q (root x) (whole_from r (λ i. within (root i)) x u)
    from Q q b (leaf x) u = q (leaf x) (whole_from l (λ i. within (leaf i)) x u)
    from Q q b (label x m) u = q (label x m) (label_from x m u)

    to : (φ : Fact) → groups.Shared (In B) R P φ → Yes (has g φ)
    unfolding has
    to (child x y) v = child_spread.to x y v
    to (below x y) v = (a.up x).kept y v
    to (differ x y) v = differ_spread.to x y v
    to (before x y) v = v
    to (root x) v = whole_to r x v
    to (leaf x) v = whole_to l x v
    to (label x m) v =
        let q = label_is f v.it m v.holds in
        label_has g x m (((w.done x (twin_in v.twin)).taken v.it (group v.twin)).label (λ z. q.1 (sym q.0 ∙ z)) ∙ q.0) q.1

    child_s : (x y : ℕ) → In t.child x y → Settled n S (child x y)
    unfolding has
    child_s x y u = least (child x y) (child_spread.from x y u)

    root_s : (x : ℕ) → Yes (bit roots x) → Settled n S (root x)
    unfolding has
    root_s x u = least (root x) (whole_from r (λ i. within (root i)) x u)

    joins_s : (x y : ℕ) → x < n → Joins k.above f.leaf roots t.child t.parent x y → Settled n S (below x y)
    unfolding has
    joins_s x y h (by_leaf u v) = leaf_below (seed.sound (leaf y) v) (B-s y x ((o.groups.columns.columns x (in_16 h)).from y u))
    joins_s x y h (by_child z u v) = one_parent (child_s x z u) (child_s y z (to_child y z v))
    joins_s x y h (by_root z u v w) = one_element (root_s z v) (child_s z x (to_child z x u)) (child_s z y w)

    joined_s : (x y : ℕ) → In j.below x y → Settled n S (below x y)
    joined_s x y u = ⊎_elim (B-s x y) (λ v. joins_s x y v.0 v.1) (a.from x y u)

    keeps : (φ : Fact) → P φ → Yes (has g φ)
    unfolding has
    keeps φ u = to φ (embed_in n P (In B) R (λ x y. (o.groups.chained.up x).kept y) o.groups.chained.itself (λ x y v. v) within φ u)

    pub seeded : Seeded n S g
    unfolding has
    seeded = record {
      inside = seed.inside;
      held = λ φ m. keeps φ (seed.held φ m);
      sound = from (Settled n S) least joined_s;
      child_differ = λ x y u. differ_spread.to x y (each seed.child_differ (child_spread.from x y u));
      before_differ = λ x y u. keeps (differ x y) (seed.before_differ x y u);
      turned = λ x y u. differ_spread.to y x (turn seed.turned (differ_spread.from x y u));
      parents = λ x y hx hy. yes_eq _ _ (to_child x y) (to_parent x y);
      siblings = seed.siblings;
    }

    -- ---- closed, where below did not grow

    module _ (still : j.more ≡ false) where
      out : (x y : ℕ) → In j.below x y → In B x y
      out x y u = subst (λ (i : ℕ). Yes (bit i y)) (a.still still x) u

      order : Order n P (In B)
      unfolding has
      order = record {
        keeps = λ x y. (o.groups.chained.up x).kept y;
        self = o.groups.chained.itself;
        chain = B-chain;
        over_child = λ x y u. o.groups.chained.parent x y (within (child x y) u).0 u;
        under_root = λ x y u. o.groups.chained.rooted x y (within (root x) u) u;
        under_leaf = λ x y u v. let i = B-in x y v in out y x (a.to y x i.1 (by_leaf ((o.groups.columns.columns y (in_16 i.1)).to x (in_16 i.0) v) u));
        child_differ = seed.child_differ;
        differ_back = seed.turned;
      }

      no_differ : (x : ℕ) → Yes (has g (differ x x)) → ⊥
      unfolding has
      no_differ x u =
          let v = differ_spread.from x x u in
          let t = v.right_twin in
          (((w.done x (twin_in t)).taken v.left (group v.left_twin)).twins v.right v.holds (visited x v.right x sym t)).apart (group (flip t))

      pub closed : PassRules n g
      unfolding has
      closed = record {
        sharing = sharing_same n (groups.Shared (In B) R P) (λ φ. Yes (has g φ)) to (from (groups.Shared (In B) R P) (λ φ s. s) out) (shared_sharing n P (In B) order R);
        one_parent = λ x y z u v. a.to x y (twin_in (child_spread.from x z u).left_twin) (by_child z u (to_parent y z v));
        one_element = λ x y z q u v. a.to y z (twin_in (child_spread.from x y u).right_twin) (by_root x (to_parent x y u) q v);
        apart = no_differ;
        ancestors = λ x y hx hy. transposed_columns o.groups.columns x y hx hy ∙ ap (λ (i : ℕ). bit i y) (sym (a.still still x));
      }

-- ---- how a pass ends

module _ {n : ℕ} {f : Facts} {k : Groups} (o : Start n f k) {s : Shares} (w : Shared n (shares f) k.same k.several s) where
  pub ended_well : {j : Joined} {roots leaves : ℕ} → JoinedOf n k.below k.above f.leaf roots s.child s.parent j
      → WholeGroups k.same f.root roots → WholeGroups k.same f.leaf leaves → StepOf (PassRules n) n f (record {
        more = j.more;
        facts = record { child = s.child; parent = s.parent; below = j.below; above = k.above; differ = s.differ; before = f.before; after = f.after; root = roots; label = s.label; leaf = leaves };
      })
  unfolding weight pick
  ended_well {j} a r l = record {
    seeded = λ S seed. seeded o S seed w a r l;
    closed = λ still S seed. closed o S seed w a r l still;
    grown = grown j.more refl;
  }
    where
      up : (x : ℕ) → row f.below x ≤ row j.below x
      up x = le_trans (o.groups.chained.up x).most (a.up x).most

      child_up : (x : ℕ) → row f.child x ≤ row s.child x
      child_up x = bits_le 16 _ _ ((o.child_fits x).fits) (λ y u. kept y u (dec_lt x n))
        where
          -- x is in its own group
          kept : (y : ℕ) → Yes (bit (row f.child x) y) → Dec (x < n) → Yes (bit (row s.child x) y)
          kept y u (yes h) =
              let b = o.groups.chained.itself x h in
              let l = le_trans h o.few in
              let e = both_in (row k.below x) (row k.above x) x b ((o.groups.columns.columns x l).to x l b) in
              ((w.done x h).taken x (subst (λ (i : ℕ). Yes (bit i x)) (sym (o.groups.common.rows x)) e)).child y u
          kept y u (no h) = subst (λ (i : ℕ). Yes (bit i y)) (sym (ap (λ (i : Share). i.child) (w.rest x (omega arith)))) u

      child_sum : sum 16 (row f.child) ≤ sum 16 (row s.child)
      child_sum = sum_le 16 (row f.child) (row s.child) (λ x h. child_up x)

      grown : (b : Bool) → j.more ≡ b → sum 16 (row f.below) + sum 16 (row f.child) + sum 16 (row f.before) + pick b 1 0
          ≤ sum 16 (row j.below) + sum 16 (row s.child) + sum 16 (row f.before)
      grown false e = let q = sum_le 16 (row f.below) (row j.below) (λ x h. up x) in let p = child_sum in omega arith
      grown true e =
          let m = a.moved e in
          let q = sum_lt 16 (row f.below) (row j.below) (λ x h. up x) m.0 (le_trans m.1 o.few) (let b = (o.groups.chained.up m.0).most in let c = m.2 in omega arith) in
          let p = child_sum in
          omega arith
