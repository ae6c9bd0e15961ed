-- differ(b, a) entered by rows, where a and b are not the same: their groups differ, and nothing else follows. A clash would be a variable of both groups.
use mathlib.Core.Path.{◌≡◌, refl, sym, ap, ◌∙◌, subst}
use mathlib.Core.Logic.{inl, inr, ⊎_elim}
use mathlib.Core.Bool.{Bool}
use mathlib.Core.List.Memᴰ
use mathlib.Core.List.{List, ◌∷◌, Memᴰ}
use Prim.Native.Nat.{ℕ, ◌<◌, ◌≤◌}
use native.Mathlib.Nat.{le_trans}
use native.Mathlib.Omega.{arith}
use lib.Bits.{and_le_l}
use lib.Dec.{eqb}
use Rattle.meaning.specs.Finite.{Yes}
use Rattle.meaning.specs.ReadOff.{Decides}
use Rattle.meaning.specs.Constraint.{Fact, child, below, differ, before, root, leaf, label}
use Rattle.meaning.specs.Settled.{Settled, given, differ_back, same_differ}
use Rattle.meaning.specs.Closed.{Rules, Within}
use Rattle.meaning.proofs.Tests.{yes_eq, is_eq, eq_yes}
use Rattle.meaning.proofs.Least.{settled_mono, settled_rules, settled_within}
use Rattle.theory.proofs.Closure.{rules_decide}
use Rattle.rowbits.specs.Bit.{bit}
use Rattle.tables.specs.Tables.{row, has, Ready}
use Rattle.tables.specs.Rows.{gained, RaisedAlike}
use Rattle.tables.specs.Free.{Free}
use Rattle.tables.specs.declared.Facts.{Facts}
use Rattle.tables.proofs.Bits.{in_both, both_in, in_row, same_row}
use Rattle.tables.proofs.Clashes.{free_clash, clash_free}
use Rattle.tables.proofs.Groups.{rules_same}
use Rattle.tables.proofs.Known.{ready_more}
use Rattle.tables.proofs.Parted.{Parted, parted_least, Whole, parted_rules}
use Rattle.tables.proofs.Rises.{Rises, rises, raised_out, raised_keeps, raised_has}
use Rattle.grouping.specs.Rows.{In}
use Rattle.grouping.specs.Grouping.{Held}
use Rattle.enter.specs.Rows.{group, PartedOf}

-- ---- a group is where below has the same row

module _ (n : ℕ) (few : n ≤ 16) (S : List Fact) (f : Facts) (small : (i : ℕ) → row f.below i < 65536) (r : Ready n S f) where
  rules : Rules n (Held f)
  rules = rules_same n (Settled n S) (Held f) (λ φ h. r.decides.complete h) (λ φ y. r.decides.sound y) (settled_rules n S)

  inside : (x y : ℕ) → Held f (below x y) → (x < n) × (y < n)
  inside x y u = settled_within n S r.inside (r.decides.sound {f = below x y} u)

  module _ (a : ℕ) (ha : a < n) where
    abbrev G : ℕ
    G = group f.below f.above a

    group_small : G < 65536
    group_small = let l = and_le_l (row f.below a) (row f.above a) in let m = small a in omega arith

    group_is : (x : ℕ) → In G x → Held f (below a x) × Held f (below x a)
    unfolding has
    group_is x u =
        let b = in_both (row f.below a) (row f.above a) x u in
        (b.0, sym (r.mirrored.ancestors x a (in_row G x group_small u) (le_trans ha few)) ∙ b.1)

    is_group : (x : ℕ) → Held f (below a x) → Held f (below x a) → In G x
    unfolding has
    is_group x u v =
        both_in (row f.below a) (row f.above a) x u (r.mirrored.ancestors x a (le_trans (inside x a v).0 few) (le_trans ha few) ∙ v)

    group_whole : Whole (Held f) (In G)
    group_whole x u p q k = let g = group_is x k in is_group u (rules.sharing.chain a x u g.0 p) (rules.sharing.chain u x a q g.1)

    group_self : In G a
    group_self = is_group a (rules.sharing.self_below a ha) (rules.sharing.self_below a ha)

    alike_in : (x : ℕ) → Yes (eqb (row f.below x) (row f.below a)) → In G x
    unfolding has
    alike_in x t =
        let e : row f.below x ≡ row f.below a = is_eq t in
        let v : Held f (below x a) = subst (λ (k : ℕ). Yes (bit k a)) (sym e) (rules.sharing.self_below a ha) in
        is_group x (subst (λ (k : ℕ). Yes (bit k x)) e (rules.sharing.self_below x (inside x a v).0)) v

    in_alike : (x : ℕ) → In G x → Yes (eqb (row f.below x) (row f.below a))
    unfolding has
    in_alike x u =
        let g = group_is x u in
        eq_yes (same_row _ _ (small x) (small a) (λ i. yes_eq _ _ (λ v. rules.sharing.chain a x i g.0 v) (λ v. rules.sharing.chain x a i g.1 v)))

    alike_raised : (t : List ℕ) (by : ℕ) (q : List ℕ) → RaisedAlike t f.below (row f.below a) by q → Rises t G by q
    alike_raised t by q h = rises {rows = G} group_small (record {
      within = λ x l. h.within x l ∙ ap (λ (c : Bool). gained c (row t x) by) (yes_eq _ _ (alike_in x) (in_alike x));
      beyond = h.beyond;
    })

-- ---- differ(b, a) entered

-- tables with other rows of differ
abbrev pub differing : Facts → List ℕ → Facts
differing f t = record {
  child = f.child;
  parent = f.parent;
  below = f.below;
  above = f.above;
  differ = t;
  before = f.before;
  after = f.after;
  root = f.root;
  leaf = f.leaf;
  label = f.label;
}

module _ (n : ℕ) (few : n ≤ 16) (S : List Fact) (f : Facts) (a b : ℕ) (ha : a < n) (hb : b < n) (small : (i : ℕ) → row f.below i < 65536)
    (r : Ready n S f) (not_above : ¬ Held f (below b a)) (t : List ℕ) (q : PartedOf f.differ f.below f.above a b t) where
  abbrev S' : List Fact
  S' = differ b a ∷ S

  abbrev P : Fact → Type 0
  P = Held f

  abbrev Left : ℕ → Type 0
  Left = In (group f.below f.above a)

  abbrev Right : ℕ → Type 0
  Right = In (group f.below f.above b)

  abbrev with_differ : Facts
  with_differ = differing f t

  there : Rises f.differ (group f.below f.above a) (group f.below f.above b) q.half
  there = alike_raised n few S f small r a ha f.differ _ q.half q.there

  back : Rises q.half (group f.below f.above b) (group f.below f.above a) t
  back = alike_raised n few S f small r b hb q.half _ t q.back

  is_parted : (φ : Fact) → Held with_differ φ → Parted P Left Right φ
  unfolding has
  is_parted (child x y) u = u
  is_parted (below x y) u = u
  is_parted (differ x y) u =
      ⊎_elim (λ v. ⊎_elim inl (λ w. inr (inl w)) (raised_out f.differ _ _ q.half there x y v)) (λ v. inr (inr v)) (raised_out q.half _ _ t back x y u)
  is_parted (before x y) u = u
  is_parted (root x) u = u
  is_parted (leaf x) u = u
  is_parted (label x l) u = u

  keep : (φ : Fact) → P φ → Held with_differ φ
  unfolding has
  keep (child x y) u = u
  keep (below x y) u = u
  keep (differ x y) u = raised_keeps q.half _ _ t back x y (raised_keeps f.differ _ _ q.half there x y u)
  keep (before x y) u = u
  keep (root x) u = u
  keep (leaf x) u = u
  keep (label x l) u = u

  to_right : (x y : ℕ) → Left x → Right y → Held with_differ (differ x y)
  unfolding has
  to_right x y u v = raised_keeps q.half _ _ t back x y (raised_has f.differ _ _ q.half there x y u v)

  to_left : (x y : ℕ) → Right x → Left y → Held with_differ (differ x y)
  unfolding has
  to_left x y u v = raised_has q.half _ _ t back x y u v

  more : (φ : Fact) → P φ → Settled n S' φ
  more φ u = settled_mono n S S' (λ φ m. Memᴰ.tail m) (r.decides.sound u)

  -- from b and a to all that is the same
  apart : (x y : ℕ) → Left x → Right y → Settled n S' (differ y x)
  apart x y u v =
      let g = group_is n few S f small r a ha x u in
      let h = group_is n few S f small r b hb y v in
      same_differ (more (below b y) h.0) (more (below y b) h.1)
      (differ_back (same_differ (more (below a x) g.0) (more (below x a) g.1) (differ_back (given (Memᴰ.head refl)))))

  sound' : (φ : Fact) → Held with_differ φ → Settled n S' φ
  sound' φ u = parted_least P Left Right (Settled n S') more (λ x y v w. differ_back (apart x y v w)) (λ x y v w. apart y x w v) φ (is_parted φ u)

  given' : (φ : Fact) → Memᴰ φ S' → Held with_differ φ
  given' φ m = ⊎_elim
      (λ e. subst (Held with_differ) (sym e) (to_left b a (group_self n few S f small r b hb) (group_self n few S f small r a ha)))
      (λ k. keep φ (r.decides.complete (given k))) (Memᴰ.cases_cons m)

  decides' : Decides n S' (has with_differ)
  decides' = rules_decide n S' (has with_differ) sound' given'
      (rules_same n (Parted P Left Right) (Held with_differ) (parted_least P Left Right (Held with_differ) keep to_right to_left) is_parted
      (parted_rules n P Left Right (group_whole n few S f small r a ha) (group_whole n few S f small r b hb) (rules n few S f small r)))

  -- a variable of both groups would make them the same
  two_groups : (x : ℕ) → Left x → ¬ Right x
  two_groups x u v =
      not_above ((rules n few S f small r).sharing.chain b x a (group_is n few S f small r b hb x v).0 (group_is n few S f small r a ha x u).1)

  pub differ_ready : Ready n S' with_differ
  unfolding has
  differ_ready = record {
    inside = λ φ m. ⊎_elim (λ e. subst (Within n) (sym e) (hb, ha)) (r.inside φ) (Memᴰ.cases_cons m);
    free = free_clash n S' with_differ decides' (record {
      apart = λ x u. ⊎_elim (no_clash.apart x) (λ k. ⊎_elim (λ p. two_groups x p.0 p.1) (λ p. two_groups x p.1 p.0) k) (is_parted (differ x x) u);
      clear = record { not_above = no_clash.clear.not_above; not_under = no_clash.clear.not_under };
      bare = record { no_leaf = no_clash.bare.no_leaf; no_label = no_clash.bare.no_label };
    });
    decides = decides';
    mirrored = record { parents = r.mirrored.parents; ancestors = r.mirrored.ancestors; siblings = r.mirrored.siblings };
  }
    where
      no_clash : Free P
      no_clash = clash_free n S f r.decides r.free

-- where they differ already, nothing changes
pub differ_known : (n : ℕ) (S : List Fact) (f : Facts) (a b : ℕ) → Ready n S f → Held f (differ a b) → Ready n (differ b a ∷ S) f
differ_known n S f a b r u = ready_more n S (differ b a) (differ_back (r.decides.sound {f = differ a b} u)) r
