-- Making a group meets its contract. Where its tests find a clash, the given facts have one; elsewhere its tables are those of the glued facts,
-- and what is left open passes through the group.
use mathlib.Core.Path.{◌≡◌, refl, sym, ◌∙◌, subst}
use mathlib.Core.Logic.{◌≢◌, inl, inr, ⊎_elim}
use Rattle.std.specs.Prelude.{None}
use mathlib.Core.List.{List}
use Prim.Native.Nat.{ℕ, ◌<◌, ◌≤◌}
use native.Mathlib.Nat.{le_trans}
use native.Mathlib.Omega.{arith}
use lib.Bits.{bit_or, bit_and, and_le_r, or_lt}
use Rattle.meaning.specs.Tree.{Var}
use Rattle.meaning.specs.Constraint.{Fact, child, below, differ, before, root, leaf, label}
use Rattle.meaning.specs.Settled.{Settled, Clash, differs, labels, leaf_document, label_document, same_differ, same_leaf, same_label, same_before, same_after}
use Rattle.meaning.specs.Finite.{Yes, neg, pick, one}
use Rattle.meaning.specs.Closed.{Within, Sharing}
use Rattle.meaning.proofs.Finite.{sum_le, sum_lt, one_le, one_lt}
use Rattle.meaning.proofs.Least.{settled_rules}
use Rattle.meaning.proofs.Tests.{clash, no_neg}
use Rattle.rowbits.specs.Bit.{bit}
use Rattle.tables.specs.Tables.{row, has}
use Rattle.tables.specs.Rows.{gained, meets, on_document, Raised, Union, LabelOf}
use Rattle.tables.specs.declared.Facts.{Facts}
use Rattle.tables.specs.Free.{Bare}
use Rattle.tables.proofs.Bits.{in_both, both_in, meets_in, meets_out, in_row, or_l}
use Rattle.tables.proofs.Clashes.{on_document_lem, no_leaf_on, no_label_on}
use Rattle.tables.proofs.Groups.{Twin, alone, shared_least, sharing_same}
use Rattle.tables.proofs.Labels.{label_has, label_is}
use Rattle.tables.proofs.Rises.{rises, raised_out, raised_in, raised_keeps, raised_has, columns_raised}
use Rattle.tables.proofs.Wider.{Wide}
use Rattle.grouping.specs.Rows.{In, Gap, Painted}
use Rattle.grouping.specs.Grouping.{held, waits, Held, Standing, Pending, Through, Grouped, with_siblings, SharesBefore, lacking, Unified, UnifiedOf}
use Rattle.grouping.proofs.Glue.{Cut, Glued, Over, Earlier, Later, glued_sharing, glued_apart, glued_bare, glued_siblings, arrived, glued_parent}
use Rattle.grouping.proofs.Reach.{Reach, within, ends, cut, glue}
use Rattle.grouping.proofs.Masks.{reach, union_columns, columns_union}
use Rattle.grouping.proofs.Loops.{RaisedTwice, was_spread}
use Rattle.grouping.proofs.ByTable.{columns_spread, Shares, two_out, two_in, two_over, two_under, one_out, one_in, label_out, label_in}

-- g is f with u glued over w, where the group m has no clash: its parents, its children, what differs from it, and its label are
-- given to all of it, and it to all of them; before is as it was
pub record Made (f : Facts) (u w m parents : ℕ) (g : Facts) : Type 0 where
  pub is_parents : Union f.parent m parents
  pub children : ℕ
  pub is_children : Union f.child m children
  pub others : ℕ
  pub is_others : Union f.differ m others
  pub apart : ¬ Yes (meets others m)
  pub shown : ℕ
  pub is_shown : LabelOf f.label m shown
  pub only : (i : Var) → In m i → row f.label i ≢ 0 → row f.label i ≡ shown
  pub bare : ¬ Yes (on_document f.root f.leaf m shown)
  pub below : Raised f.below u w g.below
  pub above : Raised f.above w u g.above
  pub child : RaisedTwice f.child m children parents g.child
  pub parent : RaisedTwice f.parent m parents children g.parent
  pub differ : RaisedTwice f.differ m others others g.differ
  pub before : g.before ≡ f.before
  pub after : g.after ≡ f.after
  pub root : g.root ≡ gained (meets f.root m) f.root m
  pub leaf : g.leaf ≡ gained (meets f.leaf m) f.leaf m
  pub label : Painted f.label m shown g.label

module _ (n : ℕ) (T : List Fact) (f : Facts) (x u w : ℕ) (p : Pending n T x f) (r : Reach (Held f) (In x) (In u) (In w)) where
  abbrev P : Fact → Type 0
  P = Held f

  abbrev m : ℕ
  m = bit_and u w

  s : Sharing n P
  s = p.standing.sharing

  settled : (φ : Fact) → P φ → Settled n T φ
  settled = p.standing.sound

  c : Cut P (In u) (In w)
  c = cut n T p.standing.inside P (In x) (In u) (In w) s settled p.due r

  inside_of : (φ : Fact) → P φ → Within n φ
  inside_of = within n T p.standing.inside P (In x) (In u) (In w) s settled p.due r

  over_down : (i j : Var) → In u i → In w j → Settled n T (below i j)
  over_down = glue n T p.standing.inside P (In x) (In u) (In w) s settled p.due r

  -- the group is settled to be one
  one_group : (i j : Var) → In m i → In m j → Settled n T (below i j)
  one_group i j a b = over_down i j (in_both u w i a).0 (in_both u w j b).1

  -- ---- a clash

  pub clash_differs : (d : ℕ) → Union f.differ m d → Yes (meets d m) → Clash n T
  unfolding has
  clash_differs d ud y =
      let j = meets_out d m ud.small y in
      let i = ud.from j.0 j.1 in
      differs (same_differ (one_group i.0 j.0 i.1 j.2) (one_group j.0 i.0 j.2 i.1) (settled (differ i.0 j.0) i.2))

  pub clash_labels : (l : ℕ) → LabelOf f.label m l → (i : Var) → In m i → row f.label i ≢ 0 → row f.label i ≢ l → Clash n T
  clash_labels l lo i a z k =
      let e : l ≢ 0 = λ q. z (lo.none q i a) in
      let j = lo.some e in
      labels (settled _ (label_has f i _ refl z)) (same_label (one_group j.0 i j.1 a) (one_group i j.0 a j.1) (settled _ (label_has f j.0 l j.2 e))) k

  pub clash_document : f.root < 65536 → f.leaf < 65536 → (l : ℕ) → LabelOf f.label m l → Yes (on_document f.root f.leaf m l) → Clash n T
  unfolding has
  clash_document root_small leaf_small l lo y =
      let h = on_document_lem f.root f.leaf m l y in
      let i = meets_out f.root m root_small h.0 in
      ⊎_elim
      (λ k. let j = meets_out f.leaf m leaf_small k in
      leaf_document (settled (root i.0) i.1) (same_leaf (one_group j.0 i.0 j.2 i.2) (one_group i.0 j.0 i.2 j.2) (settled (leaf j.0) j.1)))
      (λ k. let j = lo.some k in
      label_document (settled (root i.0) i.1)
      (same_label (one_group j.0 i.0 j.1 i.2) (one_group i.0 j.0 i.2 j.1) (settled _ (label_has f j.0 l j.2 k)))) h.1

  -- ---- the tables

  twin : (i : Var) → i < n → Twin (Wide P (In u) (In w)) i i
  twin i l = alone (inl (s.self_below i l))

  module _ (up_small : u < 65536) (down-small : w < 65536) (root_small : f.root < 65536) (leaf_small : f.leaf < 65536)
      (parents : ℕ) (g : Facts) (q : Made f u w m parents g) (earlier later : ℕ) (befores afters : List ℕ)
      (z : SharesBefore f.before f.after m earlier later befores afters) where
    abbrev h : Facts
    h = with_siblings g befores afters

    small : m < 65536
    small = let h = and_le_r u w in omega arith

    -- no two variables of the group differ
    apart_in : (i j : Var) → In m i → In m j → ¬ P (differ i j)
    unfolding has
    apart_in i j a b y = q.apart (meets_in q.others m j (q.is_others.to i j a y) b)

    shares_child : Shares n P u w s c f.child g.child q.children parents
    unfolding has
    shares_child = record {
      to_left = λ i j k y z v. s.same_parent i j k y z v;
      to_right = λ i j k y z v. s.same_child i j k y z v;
      selves = λ i j v. let h = inside_of (child i j) v in (twin i h.0, twin j h.1);
      apart = λ i j y z v. apart_in i j y z (s.child_differ i j v);
      is_along = q.is_children;
      from = union_columns f.child f.parent m parents small p.standing.mirrored.parents q.is_parents;
      to = λ i k y v. columns_union f.child f.parent m parents small p.standing.mirrored.parents q.is_parents i (le_trans (inside_of (child i k) v).0 p.standing.few) (k, y, v);
      spreads = was_spread small q.is_parents.small q.child;
    }

    shares_before : Shares n P u w s c f.before befores later earlier
    unfolding has
    shares_before = record {
      to_left = λ i j k y z v. p.siblings.same_before i j k y z v;
      to_right = λ i j k y z v. p.siblings.same_after i j k y z v;
      selves = λ i j v. let h = inside_of (before i j) v in (twin i h.0, twin j h.1);
      apart = λ i j y z v. apart_in i j y z (p.siblings.before_differ i j v);
      is_along = z.is_later;
      from = union_columns f.before f.after m earlier small p.standing.mirrored.siblings z.is_earlier;
      to = λ i k y v. columns_union f.before f.after m earlier small p.standing.mirrored.siblings z.is_earlier i (le_trans (inside_of (before i k) v).0 p.standing.few) (k, y, v);
      spreads = z.shared_before;
    }

    shares_differ : Shares n P u w s c f.differ g.differ q.others q.others
    unfolding has
    shares_differ = record {
      to_left = λ i j k y z v. s.same_differ i j k y z v;
      to_right = λ i j k y z v. s.differ_back k i (s.same_differ j i k y z (s.differ_back i j v));
      selves = λ i j v. let h = inside_of (differ i j) v in (twin i h.0, twin j h.1);
      apart = apart_in;
      is_along = q.is_others;
      from = λ i y. let k = q.is_others.from i y in (k.0, k.1, s.differ_back k.0 i k.2);
      to = λ i k y v. q.is_others.to k i y (s.differ_back i k v);
      spreads = was_spread small q.is_others.small q.differ;
    }

    has_glued : (φ : Fact) → Held h φ → Glued P (In u) (In w) φ
    unfolding has
    has_glued (child i j) y = two_out n P u w s c _ _ _ _ shares_child i j y
    has_glued (below i j) y = raised_out f.below u w g.below (rises up_small q.below) i j y
    has_glued (differ i j) y = two_out n P u w s c _ _ _ _ shares_differ i j y
    has_glued (before i j) y = two_out n P u w s c _ _ _ _ shares_before i j y
    has_glued (root i) y = one_out n P u w s c f.root root_small (λ i k. s.same_root i k) (λ i v. twin i (inside_of (root i) v)) i (subst (λ (k : ℕ). In k i) q.root y)
    has_glued (leaf i) y = one_out n P u w s c f.leaf leaf_small (λ i k. s.same_leaf i k) (λ i v. twin i (inside_of (leaf i) v)) i (subst (λ (k : ℕ). In k i) q.leaf y)
    has_glued (label i l) y =
        label_out n P u w s c f.label l (λ i k. s.same_label i k l) (λ i v. twin i (inside_of (label i l) v)) q.shown q.is_shown q.only g.label q.label i y

    glued_has : (φ : Fact) → Glued P (In u) (In w) φ → Held h φ
    unfolding has
    glued_has (child i j) y = two_in n P u w s c _ _ _ _ shares_child i j y
    glued_has (below i j) y = raised_in f.below u w g.below (rises up_small q.below) i j y
    glued_has (differ i j) y = two_in n P u w s c _ _ _ _ shares_differ i j y
    glued_has (before i j) y = two_in n P u w s c _ _ _ _ shares_before i j y
    glued_has (root i) y = subst (λ (k : ℕ). In k i) (sym q.root) (one_in n P u w s c f.root root_small (λ i k. s.same_root i k) (λ i v. twin i (inside_of (root i) v)) i y)
    glued_has (leaf i) y = subst (λ (k : ℕ). In k i) (sym q.leaf) (one_in n P u w s c f.leaf leaf_small (λ i k. s.same_leaf i k) (λ i v. twin i (inside_of (leaf i) v)) i y)
    glued_has (label i l) y =
        label_in n P u w s c f.label l (λ i k. s.same_label i k l) (λ i v. twin i (inside_of (label i l) v)) q.shown q.is_shown q.only g.label q.label i y

    over : (i : Var) → Over P (In u) (In w) i → In parents i
    unfolding has
    over i o = two_over n P u w s c _ _ _ _ shares_child i o.it (both_in u w o.it o.mid.0 o.mid.1) (glued_has (child i o.it) o.holds)

    first : (i : Var) → Earlier P (In u) (In w) i → In earlier i
    unfolding has
    first i o = two_over n P u w s c _ _ _ _ shares_before i o.it (both_in u w o.it o.mid.0 o.mid.1) (glued_has (before i o.it) o.holds)

    last : (i : Var) → Later P (In u) (In w) i → In later i
    unfolding has
    last i o = two_under n P u w s c _ _ _ _ shares_before o.it i (both_in u w o.it o.mid.0 o.mid.1) (glued_has (before o.it i) o.holds)

    x_ends : (i : Var) → In x i → In u i × In w i
    x_ends = ends n T p.standing.inside P (In x) (In u) (In w) s settled p.due r

    glue_settled : (i j : Var) → Wide P (In u) (In w) i j → Settled n T (below i j)
    glue_settled i j b = ⊎_elim (settled (below i j)) (λ h. over_down i j h.0 h.1) b

    made_bare : Bare (Held h)
    unfolding has
    made_bare = record { no_leaf = λ i y z. b.no_leaf i (has_glued (root i) y) (has_glued (leaf i) z); no_label = λ i l y z. b.no_label i l (has_glued (root i) y) (has_glued (label i l) z) }
      where
        met : (t : ℕ) (i : Var) → In u i × In w i → In t i → Yes (meets t m)
        met t i a y = meets_in t m i y (both_in u w i a.0 a.1)

        b : Bare (Glued P (In u) (In w))
        b = glued_bare n P (In u) (In w) s c p.standing.bare
            (λ i j a d y z. no_leaf_on f.root f.leaf m q.shown q.bare (met f.root i a y) (met f.leaf j d z))
            (λ i j l a d y z. let h = label_is f j l z in
            let e : row f.label j ≢ 0 = λ k. h.1 (sym h.0 ∙ k) in
            e (q.only j (both_in u w j d.0 d.1) e ∙ no_label_on f.root f.leaf m q.shown q.bare (met f.root i a y)))

    made_standing : Standing n T h
    made_standing = record {
      few = p.standing.few;
      inside = p.standing.inside;
      sound = λ φ y. shared_least n P (Settled n T) _ _ (settled_rules n T).sharing settled glue_settled
          (λ i j a. same_before (glue_settled _ _ a.left_twin.to) (glue_settled _ _ a.left_twin.fro)
          (same_after (glue_settled _ _ a.right_twin.to) (glue_settled _ _ a.right_twin.fro) (settled _ a.holds))) φ (has_glued φ y);
      sharing = sharing_same n (Glued P (In u) (In w)) (Held h) glued_has has_glued (glued_sharing n P (In u) (In w) s c);
      apart = λ i y. glued_apart n P (In u) (In w) s c p.standing.apart
          (λ i j a b. apart_in i j (both_in u w i a.0 a.1) (both_in u w j b.0 b.1)) i (has_glued (differ i i) y);
      bare = made_bare;
      mirrored = record {
        parents = columns_spread f.child f.parent m q.children parents g.child g.parent p.standing.mirrored.parents shares_child.spreads
            (was_spread small q.is_children.small q.parent);
        ancestors = columns_raised f.below f.above u w g.below g.above p.standing.mirrored.ancestors (rises up_small q.below) (rises down-small q.above);
        siblings = columns_spread f.before f.after m later earlier befores afters p.standing.mirrored.siblings z.shared_before z.shared_after;
      };
    }

    made_siblings : Through (Held h) (In parents) (In earlier) (In later)
    made_siblings = record {
      before_chain = λ i j k y z. ⊎_elim (λ h. inl (glued_has (before i k) h)) (λ h. inr (first i h.0, last k h.1))
          (b.before_chain i j k (has_glued (before i j) y) (has_glued (before j k) z));
      before_differ = λ i j y. glued_has (differ i j) (b.before_differ i j (has_glued (before i j) y));
      before_child = λ i j k y z. ⊎_elim (λ h. inl (glued_has (child k j) h)) (λ h. inr (over k h.0, last j h.1))
          (b.before_child i j k (has_glued (before i j) y) (has_glued (child k i) z));
      after_child = λ i j k y z. ⊎_elim (λ h. inl (glued_has (child k i) h)) (λ h. inr (over k h.0, first i h.1))
          (b.after_child i j k (has_glued (before i j) y) (has_glued (child k j) z));
      same_before = λ i j k y z v. glued_has (before k j) (b.same_before i j k (has_glued (below i k) y) (has_glued (below k i) z) (has_glued (before i j) v));
      same_after = λ i j k y z v. glued_has (before i k) (b.same_after i j k (has_glued (below j k) y) (has_glued (below k j) z) (has_glued (before i j) v));
    }
      where
        b : Through (Glued P (In u) (In w)) (Over P (In u) (In w)) (Earlier P (In u) (In w)) (Later P (In u) (In w))
        b = glued_siblings n P (In u) (In w) s c p.siblings

    pub made_grouped : Grouped n T m parents earlier later h
    unfolding has
    made_grouped = record {
      standing = made_standing;
      complete = λ φ h. glued_has φ (arrived n P (In u) (In w) s c inside_of (In x) x_ends φ (p.complete φ h));
      siblings = made_siblings;
      one_parent = λ i j k y z. ⊎_elim (λ h. held (glued_has (below i j) h)) (λ h. waits (over i h.0) (over j h.1))
          (glued_parent n P (In u) (In w) s c inside_of (In x) x_ends p.one_parent i j k (has_glued (child i k) y) (has_glued (child j k) z));
      one_group = λ i j y z. glued_has (below i j) (inr ((in_both u w i y).0, (in_both u w j z).1));
      same_group = λ i j y z a. let h = in_both u w i a in both_in u w j (up_same i j z h.0) (down_same i j y h.1);
      is_parents = record { from = λ i y. let k = shares_child.from i y in (k.0, k.1, shares_child.spreads.keeps i k.0 k.2); to = λ i k a y. two_over n P u w s c _ _ _ _ shares_child i k a y };
      is_earlier = record { from = λ i y. let k = shares_before.from i y in (k.0, k.1, z.shared_before.keeps i k.0 k.2); to = λ i k a y. two_over n P u w s c _ _ _ _ shares_before i k a y };
      is_later = record { from = λ i y. let k = z.is_later.from i y in (k.0, k.1, z.shared_before.keeps k.0 i k.2); to = λ i k a y. two_under n P u w s c _ _ _ _ shares_before k i a y };
    }
      where
        up_same : (i j : Var) → Held h (below j i) → In u i → In u j
        up_same i j y z = ⊎_elim (λ h. c.ends.up j i h z) (λ h. h.0) (has_glued (below j i) y)

        down_same : (i j : Var) → Held h (below i j) → In w i → In w j
        down_same i j y z = ⊎_elim (λ h. c.ends.down i j z h) (λ h. h.1) (has_glued (below i j) y)

-- a gap among the rows that were raised over each other is filled
fewer : (t : List ℕ) (x u w : ℕ) (r : List ℕ) → x < 65536 → u < 65536 → ((i : ℕ) → In x i → In u i × In w i) → Raised t u w r → Gap t x → lacking r < lacking t
unfolding lacking
fewer t x u w r small up_small ends h g =
    sum_lt 16 _ _ (λ i _. sum_le 16 _ _ (λ j _. less i j)) g.at (in_row x g.at small g.at_in)
    (sum_lt 16 _ _ (λ j _. less g.at j) g.lacks (in_row x g.lacks small g.lacks_in)
    (one_lt _ _ (no_neg (λ z. clash (raised_has t u w r (rises up_small h) g.at g.lacks (ends g.at g.at_in).0 (ends g.lacks g.lacks_in).1) z)) (no_neg g.missing)))
  where
    less : (i j : ℕ) → one (neg (bit (row r i) j)) ≤ one (neg (bit (row t i) j))
    less i j = one_le _ _ (λ z. no_neg (λ y. clash (raised_keeps t u w r (rises up_small h) i j y) z))

-- ---- the contract

-- what `unify` is given of x, and what of it is far above x
pub record Masks (f : Facts) (x w near from far : ℕ) : Type 0 where
  pub small : x < 65536
  pub root_small : f.root < 65536
  pub leaf_small : f.leaf < 65536
  pub is_w : Union f.below x w
  pub is_near : Union f.above x near
  pub is_from : from ≡ pick (meets (bit_or x near) f.leaf) (bit_or x w) 0
  pub is_far : Union f.above from far

module _ (f : Facts) (x w near from far : ℕ) (k : Masks f x w near from far) where
  abbrev U : ℕ
  U = bit_or (bit_or x near) far

  abbrev D : ℕ
  D = bit_or x w

  abbrev M : ℕ
  M = bit_and U D

  up_small : U < 65536
  up_small = or_lt 16 (bit_or x near) far (or_lt 16 x near k.small k.is_near.small) k.is_far.small

  reached : (n : ℕ) (T : List Fact) → Pending n T x f → Reach (Held f) (In x) (In U) (In D)
  reached n T p =
      reach n T x k.small f p w near far k.is_w k.is_near (subst (λ (i : ℕ). Union f.above i far) k.is_from k.is_far)

  pub unify_differs : (d : ℕ) → Union f.differ M d → Yes (meets d M) → UnifiedOf f x None
  unify_differs d ud h n T p = clash_differs n T f x U D p (reached n T p) d ud h

  pub unify_labels : (l : ℕ) → LabelOf f.label M l → ((i : Var) × In M i × (row f.label i ≢ 0) × (row f.label i ≢ l))
      → UnifiedOf f x None
  unify_labels l lo y n T p = clash_labels n T f x U D p (reached n T p) l lo y.0 y.1 y.2 y.3

  pub unify_document : (l : ℕ) → LabelOf f.label M l → Yes (on_document f.root f.leaf M l) → UnifiedOf f x None
  unify_document l lo y n T p = clash_document n T f x U D p (reached n T p) k.root_small k.leaf_small l lo y

  pub unify_well : (parents : ℕ) (g : Facts) → Made f U D M parents g
      → Unified f x (record { next = parents; group = M; facts = g })
  unify_well parents g q = record {
    groups = λ n T p earlier later b a z. made_grouped n T f x U D p (reached n T p) up_small
        (or_lt 16 x w k.small k.is_w.small) k.root_small k.leaf_small parents g q earlier later b a
        (subst (λ (t : List ℕ). SharesBefore t f.after M earlier later b a) q.before
        (subst (λ (t : List ℕ). SharesBefore g.before t M earlier later b a) q.after z));
    keeps = (q.before, q.after);
    falls = fewer f.below x U D g.below k.small up_small
        (λ i y. (or_l (bit_or x near) far i (or_l x near i y), or_l x w i y)) q.below;
  }
