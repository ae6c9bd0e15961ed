-- Tables in which a group was made, and from them those where before is chained through it and its parents are given to its family: what is
-- new is settled; and where before meets below neither way, nothing else became the same, and all rules hold again but those of one parent and
-- one element.
use mathlib.Core.Path.{◌≡◌, sym, ◌∙◌, subst}
use mathlib.Core.Logic.{◌⊎◌, inl, inr, ⊎_elim}
use mathlib.Core.List.{List}
use Prim.Native.Nat.{ℕ, ◌<◌}
use native.Mathlib.Nat.{le_trans}
use lib.Bits.{bit_or}
use lib.Dec.{eqb}
use Rattle.meaning.specs.Tree.{Var}
use Rattle.meaning.specs.Constraint.{Fact, child, below, differ, before, root, leaf, label}
use Rattle.meaning.specs.Settled.{Settled, child_below, child_differ, chain, differ_back, one_parent, before_chain, before_differ, before_child, after_child}
use Rattle.meaning.specs.Finite.{Yes, ◌and◌, neg}
use Rattle.meaning.specs.Closed.{Within, Sharing, Siblings}
use Rattle.meaning.proofs.Least.{settled_within}
use Rattle.tables.specs.Tables.{row, has, Mirrored}
use Rattle.tables.specs.declared.Facts.{Facts}
use Rattle.tables.specs.Free.{Clear}
use Rattle.tables.proofs.Bits.{none_in, in_row, or_l, or_r}
use Rattle.tables.proofs.Groups.{sharing_same, siblings_same}
use Rattle.tables.proofs.Rises.{rises, raised_out, raised_in, columns_raised}
use Rattle.tables.proofs.Wider.{Opening, Wider, wide_same, wide_sharing}
use Rattle.grouping.specs.Rows.{In}
use Rattle.siblings.specs.Rows.{Kin, own, to_later, to_earlier}
use Rattle.grouping.specs.Grouping.{Awaits, held, waits, Held, Pending, Through, Grouped}
use Rattle.siblings.specs.Passing.{GivenToFamily}
use Rattle.grouping.proofs.Masks.{union_columns, columns_union}
use Rattle.siblings.proofs.Added.{Across, Added, Adding, added_sharing, added_siblings, added_parents}

-- what comes next: the tables hold what is settled, and where before meets below neither way only the parents have yet to become the same
pub record Follows (n : ℕ) (T : List Fact) (parents : ℕ) (g : Facts) : Type 0 where
  pub sound : (φ : Fact) → Held g φ → Settled n T φ
  pub mirrored : Mirrored g
  pub pending : Clear (Held g) → Pending n T parents g

module _ (n : ℕ) (T : List Fact) (group parents earlier later : ℕ) (f : Facts) (o : Grouped n T group parents earlier later f) where
  abbrev P : Fact → Type 0
  P = Held f

  s : Sharing n P
  s = o.standing.sharing

  through : Through P (In parents) (In earlier) (In later)
  through = o.siblings

  settled : (φ : Fact) → P φ → Settled n T φ
  settled = o.standing.sound

  inner : (φ : Fact) → P φ → Within n φ
  inner φ u = settled_within n T o.standing.inside (settled φ u)

  sixteen : {x : Var} → x < n → x < 16
  sixteen h = le_trans h o.standing.few

  -- a parent of one of the group is one of all
  of_group : (x k y : Var) → In group k → In group y → P (child x k) → P (child x y)
  of_group x k y u v c = s.same_child x k y (o.one_group k y u v) (o.one_group y k v u) c

  of_all : (x y : Var) → In parents x → In group y → P (child x y)
  of_all x y u v = let k = o.is_parents.from x u in of_group x k.0 y k.1 v k.2

  -- nothing is at or above a parent of its own
  not_over : (x y : Var) → P (child x y) → ¬ P (below y x)
  not_over x y c b = o.standing.apart y (s.same_differ x y y (s.child_below x y c) b (s.child_differ x y c))

  -- two parents of the group have to be the same
  pub parents_settled : (x y : Var) → In parents x → In parents y → Settled n T (below x y)
  parents_settled x y u v =
      let k = o.is_parents.from x u in
      one_parent (settled (child x k.0) k.2) (settled (child y k.0) (of_all y k.0 v k.1))

  -- ---- nothing is earlier or later than the group

  module _ (none : bit_or earlier later ≡ 0) where
    not_earlier : {A : Type 0} (x : Var) → In earlier x → A
    not_earlier x u = none_in x (subst (λ (k : ℕ). In k x) none (or_l earlier later x u))

    not_later : {A : Type 0} (x : Var) → In later x → A
    not_later x u = none_in x (subst (λ (k : ℕ). In k x) none (or_r earlier later x u))

    alone_siblings : Siblings n P
    alone_siblings = record {
      before_chain = λ x y z p q. ⊎_elim (λ h. h) (λ h. not_earlier x h.0) (through.before_chain x y z p q);
      before_differ = through.before_differ;
      before_child = λ x y u p q. ⊎_elim (λ h. h) (λ h. not_later y h.1) (through.before_child x y u p q);
      after_child = λ x y u p q. ⊎_elim (λ h. h) (λ h. not_earlier x h.1) (through.after_child x y u p q);
      same_before = through.same_before;
      same_after = through.same_after;
    }

    pub alone_follows : Follows n T parents f
    alone_follows = record {
      sound = settled;
      mirrored = o.standing.mirrored;
      pending = λ clear. record {
        standing = o.standing;
        siblings = alone_siblings;
        clear = clear;
        due = parents_settled;
        complete = λ φ m. held (o.complete φ m);
        one_parent = o.one_parent;
      };
    }

  -- ---- the family

  module _ (g : Facts) (q : GivenToFamily f group parents earlier later g) where
    abbrev K : Var → Type 0
    K = Kin f.before f.after group

    kin_in : {x : Var} → K x → In q.kin x
    kin_in (own u) = q.is_kin.owns _ u
    kin_in (to_later k u) = q.is_kin.later _ _ (kin_in k) u
    kin_in (to_earlier k u) = q.is_kin.earlier _ _ (kin_in k) u

    kin_at : {x : Var} → In q.kin x → x < 16
    kin_at u = in_row q.kin _ q.is_kin.small u

    -- a row of after, read as before
    turned : (x y : Var) → x < 16 → y < 16 → In (row f.after x) y → P (before y x)
    unfolding has
    turned x y hx hy u = sym (o.standing.mirrored.siblings y x hy hx) ∙ u

    turned_back : (x y : Var) → P (before y x) → In (row f.after x) y
    unfolding has
    turned_back x y u = let h = inner (before y x) u in o.standing.mirrored.siblings y x (sixteen h.0) (sixteen h.1) ∙ u

    step : (x y : Var) → K x → In (row f.after x) y → P (before y x)
    step x y k u = turned x y (kin_at (kin_in k)) (kin_at (kin_in (to_earlier k u))) u

    kin_later : (x y : Var) → P (before x y) → In q.kin x → In q.kin y
    unfolding has
    kin_later x y b u = q.is_kin.later x y u b

    kin_earlier : (x y : Var) → P (before x y) → In q.kin y → In q.kin x
    kin_earlier x y b u = q.is_kin.earlier y x u (turned_back y x b)

    -- what has a child in the family is a parent of the group
    parents_of : {y : Var} → K y → (x : Var) → P (child x y) → In parents x
    unfolding has
    parents_of {y} (own u) x c = o.is_parents.to x y u c
    parents_of {y} (to_later {i} k u) x c = ⊎_elim (parents_of k x) (λ h. h.0) (through.after_child i y x u c)
    parents_of {y} (to_earlier {i} k u) x c = ⊎_elim (parents_of k x) (λ h. h.0) (through.before_child y i x (step i y k u) c)

    kin_same : {x : Var} → K x → (y : Var) → P (below x y) → P (below y x) → In q.kin y
    unfolding has
    kin_same {x} (own u) y a b = q.is_kin.owns y (o.same_group x y a b u)
    kin_same {x} (to_later {i} k u) y a b = kin_later i y (through.same_after i x y a b u) (kin_in k)
    kin_same {x} (to_earlier {i} k u) y a b = kin_earlier y i (through.same_before x i y a b (step i x k u)) (kin_in k)

    child_settled : {y : Var} → K y → (x : Var) → In parents x → Settled n T (child x y)
    unfolding has
    child_settled {y} (own u) x v = settled (child x y) (of_all x y v u)
    child_settled {y} (to_later {i} k u) x v = before_child (settled (before i y) u) (child_settled k x v)
    child_settled {y} (to_earlier {i} k u) x v = after_child (settled (before y i) (step i y k u)) (child_settled k x v)

    -- ---- over and under

    over_is : (x : Var) → In q.over x → (k : Var) × In parents k × P (below x k)
    unfolding has
    over_is x u = union_columns f.below f.above parents q.over q.parents_small o.standing.mirrored.ancestors q.is_over x u

    is_over : (x k : Var) → In parents k → P (below x k) → In q.over x
    unfolding has
    is_over x k u b = columns_union f.below f.above parents q.over q.parents_small o.standing.mirrored.ancestors q.is_over x (sixteen (inner (below x k) b).0) (k, u, b)

    under_is : (x : Var) → In q.under x → (k : Var) × In q.kin k × P (below k x)
    unfolding has
    under_is x u = q.is_under.from x u

    is_under : (x k : Var) → In q.kin k → P (below k x) → In q.under x
    unfolding has
    is_under x k u b = q.is_under.to k x u b

    -- ---- what the new tables hold

    abbrev W : Fact → Type 0
    W = Wider P (In q.over) (In q.under)

    abbrev Q : Fact → Type 0
    Q = Added W (In earlier) (In later) (In parents) (In q.kin)

    has_new : (φ : Fact) → Held g φ → Q φ
    unfolding has
    has_new (child x y) u = raised_out f.child parents q.kin g.child (rises q.parents_small q.child) x y u
    has_new (below x y) u = raised_out f.below q.over q.under g.below (rises q.is_over.small q.below) x y u
    has_new (differ x y) u = ⊎_elim (λ v. ⊎_elim inl (λ w. inr (inl w)) (q.differ_first.out x y v)) (λ v. inr (inr v)) (q.differ.out x y u)
    has_new (before x y) u = raised_out f.before earlier later g.before (rises q.earlier_small q.before) x y u
    has_new (root x) u = subst (λ (k : ℕ). In k x) q.root u
    has_new (leaf x) u = subst (λ (k : ℕ). In k x) q.leaf u
    has_new (label x l) u = subst (λ (k : List ℕ). Yes (eqb (row k x) l and neg (eqb l 0))) q.label u

    new_has : (φ : Fact) → Q φ → Held g φ
    unfolding has
    new_has (child x y) u = raised_in f.child parents q.kin g.child (rises q.parents_small q.child) x y u
    new_has (below x y) u = raised_in f.below q.over q.under g.below (rises q.is_over.small q.below) x y u
    new_has (differ x y) u =
        ⊎_elim (λ v. q.differ.keeps x y (q.differ_first.keeps x y v))
        (λ v. ⊎_elim
        (λ w. q.differ.keeps x y (⊎_elim (λ z. q.differ_first.rows x y z.0 z.1) (λ z. q.differ_first.columns x y z.0 z.1) w))
        (λ w. ⊎_elim (λ z. q.differ.rows x y z.0 z.1) (λ z. q.differ.columns x y z.0 z.1) w) v) u
    new_has (before x y) u = raised_in f.before earlier later g.before (rises q.earlier_small q.before) x y u
    new_has (root x) u = subst (λ (k : ℕ). In k x) (sym q.root) u
    new_has (leaf x) u = subst (λ (k : ℕ). In k x) (sym q.leaf) u
    new_has (label x l) u = subst (λ (k : List ℕ). Yes (eqb (row k x) l and neg (eqb l 0))) (sym q.label) u

    -- ---- it is settled

    below_settled : (x y : Var) → In q.over x → In q.under y → Settled n T (below x y)
    below_settled x y u v =
        let a = over_is x u in
        let b = under_is y v in
        chain (settled (below x a.0) a.2) (chain (child_below (child_settled (q.is_kin.from b.0 b.1) a.0 a.1)) (settled (below b.0 y) b.2))

    before_settled : (x y : Var) → In earlier x → In later y → Settled n T (before x y)
    before_settled x y u v =
        let a = o.is_earlier.from x u in
        let b = o.is_later.from y v in
        before_chain (settled (before x a.0) a.2)
        (settled (before a.0 y) (through.same_before b.0 y a.0 (o.one_group b.0 a.0 b.1 a.1) (o.one_group a.0 b.0 a.1 b.1) b.2))

    differ_settled : (x y : Var) → Across (In earlier) (In later) x y ⊎ Across (In parents) (In q.kin) x y → Settled n T (differ x y)
    differ_settled x y (inl (inl h)) = before_differ (before_settled x y h.0 h.1)
    differ_settled x y (inl (inr h)) = differ_back (before_differ (before_settled y x h.1 h.0))
    differ_settled x y (inr (inl h)) = child_differ (child_settled (q.is_kin.from y h.1) x h.0)
    differ_settled x y (inr (inr h)) = differ_back (child_differ (child_settled (q.is_kin.from x h.0) y h.1))

    new_settled : (φ : Fact) → Q φ → Settled n T φ
    new_settled (child x y) u = ⊎_elim (settled (child x y)) (λ h. child_settled (q.is_kin.from y h.1) x h.0) u
    new_settled (below x y) u = ⊎_elim (settled (below x y)) (λ h. below_settled x y h.0 h.1) u
    new_settled (differ x y) u = ⊎_elim (settled (differ x y)) (differ_settled x y) u
    new_settled (before x y) u = ⊎_elim (settled (before x y)) (λ h. before_settled x y h.0 h.1) u
    new_settled (root x) u = settled (root x) u
    new_settled (leaf x) u = settled (leaf x) u
    new_settled (label x l) u = settled (label x l) u

    passed_sound : (φ : Fact) → Held g φ → Settled n T φ
    passed_sound φ u = new_settled φ (has_new φ u)

    keeps : (φ : Fact) → P φ → Q φ
    keeps (child x y) u = inl u
    keeps (below x y) u = inl u
    keeps (differ x y) u = inl u
    keeps (before x y) u = inl u
    keeps (root x) u = u
    keeps (leaf x) u = u
    keeps (label x l) u = u

    passed_mirrored : Mirrored g
    passed_mirrored = record {
      parents = columns_raised f.child f.parent parents q.kin g.child g.parent o.standing.mirrored.parents
          (rises q.parents_small q.child) (rises q.is_kin.small q.parent);
      ancestors = columns_raised f.below f.above q.over q.under g.below g.above o.standing.mirrored.ancestors
          (rises q.is_over.small q.below) (rises q.is_under.small q.above);
      siblings = columns_raised f.before f.after earlier later g.before g.after o.standing.mirrored.siblings
          (rises q.earlier_small q.before) (rises q.later_small q.after);
    }

    passed_below : (x y : Var) → P (below x y) → Held g (below x y)
    passed_below x y u = new_has (below x y) (inl u)

    -- ---- where before meets below neither way

    module _ (clear : Clear (Held g)) where
      -- no member of the family is at or above a parent: it would be over its siblings
      kin_under : {x : Var} → K x → (y : Var) → In parents y → ¬ P (below x y)
      unfolding has
      kin_under {x} (own u) y v b = not_over y x (of_all y x v u) b
      kin_under {x} (to_later {i} k u) y v b =
          clear.not_under i x (new_has (before i x) (inl u))
          (new_has (below x i) (inr (is_over x y v b, is_under i i (kin_in k) (s.self_below i (inner (before i x) u).0))))
      kin_under {x} (to_earlier {i} k u) y v b =
          clear.not_above x i (new_has (before x i) (inl (step i x k u)))
          (new_has (below x i) (inr (is_over x y v b, is_under i i (kin_in k) (s.self_below i (inner (before x i) (step i x k u)).1))))

      not_both : (x : Var) → In q.over x → ¬ In q.under x
      not_both x u v =
          let a = over_is x u in
          let b = under_is x v in
          kin_under (q.is_kin.from b.0 b.1) a.0 a.1 (s.chain b.0 x a.0 b.2 a.2)

      opening : Opening P (In q.over) (In q.under)
      opening = record {
        ends = record {
          up = λ x y b u. let a = over_is y u in is_over x a.0 a.1 (s.chain x y a.0 b a.2);
          down = λ x y u b. let a = under_is x u in is_under y a.0 a.1 (s.chain a.0 x y a.2 b);
        };
        no_mid = not_both;
        no_leaf = λ x l u.
            let a = over_is x u in
            let k = o.is_parents.from a.0 a.1 in
            let b = s.chain x a.0 k.0 a.2 (s.child_below a.0 k.0 k.2) in
            not_over a.0 k.0 k.2 (s.chain k.0 x a.0 (s.leaf_below x k.0 l b) a.2);
      }

      same : (x y : Var) → W (below x y) → W (below y x) → P (below x y) × P (below y x)
      same x y a b = wide_same n P (In q.over) (In q.under) opening s {x = x} {y = y} a b

      adding : Adding W (In earlier) (In later) (In parents) (In q.kin)
      unfolding has
      adding = record {
        siblings = record {
          before_chain = through.before_chain;
          before_differ = through.before_differ;
          before_child = through.before_child;
          after_child = through.after_child;
          same_before = λ x y u p q. let h = same x u p q in through.same_before x y u h.0 h.1;
          same_after = λ x y u p q. let h = same y u p q in through.same_after x y u h.0 h.1;
        };
        first_same = λ x y a b u. let h = same x y a b in let k = o.is_earlier.from x u in o.is_earlier.to y k.0 k.1 (through.same_before x k.0 y h.0 h.1 k.2);
        last_same = λ x y a b u. let h = same x y a b in let k = o.is_later.from x u in o.is_later.to y k.0 k.1 (through.same_after k.0 x y h.0 h.1 k.2);
        over_same = λ x y a b u. let h = same x y a b in let k = o.is_parents.from x u in o.is_parents.to y k.0 k.1 (s.same_parent x k.0 y h.0 h.1 k.2);
        kin_same = λ x y a b u. let h = same x y a b in kin_same (q.is_kin.from x u) y h.0 h.1;
        first_earlier = λ x y b u. let k = o.is_earlier.from y u in ⊎_elim (o.is_earlier.to x k.0 k.1) (λ h. h.0) (through.before_chain x y k.0 b k.2);
        last_later = λ x y b u. let k = o.is_later.from x u in ⊎_elim (o.is_later.to y k.0 k.1) (λ h. h.1) (through.before_chain k.0 x y k.2 b);
        kin_earlier = kin_earlier;
        kin_later = kin_later;
        first_kin = λ x u. let k = o.is_earlier.from x u in kin_earlier x k.0 k.2 (q.is_kin.owns k.0 k.1);
        last_kin = λ x u. let k = o.is_later.from x u in kin_later k.0 x k.2 (q.is_kin.owns k.0 k.1);
        kin_parents = λ x y c u. parents_of (q.is_kin.from y u) x c;
        over_kin = λ x y u v. inr (over_in x u, under_in y v);
      }
        where
          over_in : (x : Var) → In parents x → In q.over x
          over_in x u = let k = o.is_parents.from x u in is_over x x u (s.self_below x (inner (child x k.0) k.2).0)

          under_in : (y : Var) → In q.kin y → In q.under y
          under_in y v = is_under y y v (self (q.is_kin.from y v))
            where
              self : {y : Var} → K y → P (below y y)
              self {y} (own u) = o.one_group y y u u
              self {y} (to_later {i} k u) = s.self_below y (inner (before i y) u).1
              self {y} (to_earlier {i} k u) = s.self_below y (inner (before y i) (step i y k u)).0

      W-sharing : Sharing n W
      W-sharing = wide_sharing n P (In q.over) (In q.under) opening s

      not_itself : (x : Var) → In earlier x → ¬ In later x
      not_itself x u v =
          let k = o.is_earlier.from x u in
          clear.not_above x x (new_has (before x x) (inr (u, v))) (new_has (below x x) (inl (s.self_below x (inner (before x k.0) k.2).0)))

      not_own : (x : Var) → In parents x → ¬ In q.kin x
      not_own x u v = let k = o.is_parents.from x u in kin_under (q.is_kin.from x v) x u (s.self_below x (inner (child x k.0) k.2).0)

      new_apart : (x : Var) → ¬ Q (differ x x)
      new_apart x (inl u) = o.standing.apart x u
      new_apart x (inr (inl (inl h))) = not_itself x h.0 h.1
      new_apart x (inr (inl (inr h))) = not_itself x h.1 h.0
      new_apart x (inr (inr (inl h))) = not_own x h.0 h.1
      new_apart x (inr (inr (inr h))) = not_own x h.1 h.0

      waiting : (x y : Var) → Awaits (In parents) P (below x y) → Awaits (In parents) (Held g) (below x y)
      waiting x y (held u) = held (passed_below x y u)
      waiting x y (waits u v) = waits u v

      passed_pending : Pending n T parents g
      passed_pending = record {
        standing = record {
          few = o.standing.few;
          inside = o.standing.inside;
          sound = passed_sound;
          sharing = sharing_same n Q (Held g) new_has has_new (added_sharing n W (In earlier) (In later) (In parents) (In q.kin) W-sharing adding);
          apart = λ x u. new_apart x (has_new (differ x x) u);
          bare = record {
            no_leaf = λ x u v. o.standing.bare.no_leaf x (has_new (root x) u) (has_new (leaf x) v);
            no_label = λ x l u v. o.standing.bare.no_label x l (has_new (root x) u) (has_new (label x l) v);
          };
          mirrored = passed_mirrored;
        };
        siblings = siblings_same n Q (Held g) new_has has_new (added_siblings n W (In earlier) (In later) (In parents) (In q.kin) W-sharing adding);
        clear = clear;
        due = parents_settled;
        complete = λ φ m. held (new_has φ (keeps φ (o.complete φ m)));
        one_parent = λ x y z u v. ⊎_elim (λ h. waiting x y (o.one_parent x y z h.0 h.1)) (λ h. waits h.0 h.1)
            (added_parents n W (In earlier) (In later) (In parents) (In q.kin) W-sharing adding x y z (has_new (child x z) u) (has_new (child y z) v));
      }

    pub passed_follows : Follows n T parents g
    passed_follows = record { sound = passed_sound; mirrored = passed_mirrored; pending = passed_pending }
