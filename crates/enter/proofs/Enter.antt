-- Entering below(a, b) by rows, where b is not at or above a and no leaf is: below is widened and nothing becomes the same
-- (tables/proofs/Wider). Elsewhere below(b, a) follows, and groups merge.
use mathlib.Core.Path.{◌≡◌, refl, sym, ◌∙◌, subst}
use mathlib.Core.Logic.{inl, inr, ⊎_elim}
use mathlib.Core.Bool.{Bool, true, false, false≢true, ◌||◌}
use mathlib.Core.List.Memᴰ
use mathlib.Core.List.{List, ◌∷◌, ◌++◌, Memᴰ}
use Prim.Native.Nat.{ℕ, ◌<◌, ◌≤◌}
use Rattle.std.specs.Prelude.{Option, None, Some}
use native.Mathlib.Nat.{le_trans}
use Rattle.meaning.specs.Finite.{Yes}
use Rattle.meaning.specs.ReadOff.{Decides}
use Rattle.meaning.specs.Constraint.{Fact, child, below, differ, before, root, leaf, label}
use Rattle.meaning.specs.Settled.{Settled, given, chain, leaf_below, Clash}
use Rattle.meaning.specs.Closed.{Rules, Inside, Within}
use Rattle.meaning.proofs.Least.{settled_mono, settled_rules, settled_within, clash_mono}
use Rattle.theory.proofs.Closure.{rules_decide}
use Rattle.rowbits.specs.Bit.{bit}
use Rattle.tables.specs.Tables.{row, has, Columns, Ready}
use Rattle.tables.specs.Rows.{Raised, Crossed, meets}
use Rattle.tables.specs.Free.{Free}
use Rattle.tables.specs.declared.Facts.{Facts}
use Rattle.tables.proofs.Bits.{in_row, meets_in, meets_out}
use Rattle.tables.proofs.Clashes.{free_clash, clash_free, crossed_clash, uncrossed_clear}
use Rattle.tables.proofs.Groups.{rules_same}
use Rattle.tables.proofs.Rises.{rises, raised_out, raised_in, columns_raised}
use Rattle.tables.proofs.Tested.{or_yes, or_no}
use Rattle.tables.proofs.Wider.{Opening, Wider, wide_least, wide_rules}
use Rattle.grouping.specs.Rows.{In}
use Rattle.grouping.specs.Grouping.{Held}
use Rattle.merge.specs.Merging.{MergedOf}
use Rattle.merge.proofs.Entered.{back_tested}
use Rattle.enter.specs.Entered.{entering, Forked, EnteredOf}

-- of two variables above a third of which b is not above a, no leaf is above a: it would be the same as the third, and b above it
no_leaf_above : (n : ℕ) → n ≤ 16 → (S : List Fact) (f : Facts) (a b : ℕ) → a < n → Ready n S f → Forked f a b → (x : ℕ) → x < 16 → In (row f.above a) x → ¬ Held f (leaf x)
unfolding has
no_leaf_above n few S f a b ha r k x lx u l =
    let up = r.decides.sound {f = below x a} (sym (r.mirrored.ancestors x a lx (le_trans ha few)) ∙ u) in
    let same = leaf_below (r.decides.sound {f = leaf x} l) (chain up (r.decides.sound {f = below a k.under} k.above_a)) in
    k.not_above (r.decides.complete (chain (r.decides.sound {f = below b k.under} k.above_b) (chain same up)))

-- where the test for them fails, b is not at or above a, and no leaf is
module _ (f : Facts) (a b : ℕ) (p q : Bool)
    (is_p : p ≡ bit (row f.below b) a) (is_q : q ≡ meets (row f.above a) f.leaf) (neither : (p || q) ≡ false) where
  pub not_above : ¬ Held f (below b a)
  unfolding has
  not_above y = false≢true (sym (or_no p q neither).0 ∙ is_p ∙ y)

  no_leaf : (x : ℕ) → In (row f.above a) x → ¬ Held f (leaf x)
  unfolding has
  no_leaf x y z = false≢true (sym (or_no p q neither).1 ∙ is_q ∙ meets_in (row f.above a) f.leaf x y z)

-- tables with other rows of below and above
abbrev pub widened : Facts → List ℕ → List ℕ → Facts
widened f t s = record {
  child = f.child;
  parent = f.parent;
  below = t;
  above = s;
  differ = f.differ;
  before = f.before;
  after = f.after;
  root = f.root;
  leaf = f.leaf;
  label = f.label;
}

module _ (n : ℕ) (few : n ≤ 16) (S : List Fact) (f : Facts) (a b : ℕ) (ha : a < n) (hb : b < n) (r : Ready n S f) where
  abbrev S' : List Fact
  S' = below a b ∷ S

  abbrev P : Fact → Type 0
  P = Held f

  -- row a of the mirror is what is at or above a, row b of below what is at or below b
  abbrev u : ℕ
  u = row f.above a

  abbrev w : ℕ
  w = row f.below b

  rules : Rules n P
  rules = rules_same n (Settled n S) P (λ φ h. r.decides.complete h) (λ φ y. r.decides.sound y) (settled_rules n S)

  more : (φ : Fact) → P φ → Settled n S' φ
  more φ y = settled_mono n S S' (λ φ m. Memᴰ.tail m) (r.decides.sound y)

  is_up : (x : ℕ) → P (below x a) → In u x
  unfolding has
  is_up x y = r.mirrored.ancestors x a (le_trans (settled_within n S r.inside (r.decides.sound {f = below x a} y)).0 few) (le_trans ha few) ∙ y

  module _ (up_small : u < 65536) (down-small : w < 65536) (t s : List ℕ) (up : Raised f.below u w t) (down : Raised f.above w u s)
      (p q : Bool) (is_p : p ≡ bit w a) (is_q : q ≡ meets u f.leaf) (neither : (p || q) ≡ false) where
    abbrev raised : Facts
    raised = widened f t s

    up_is : (x : ℕ) → In u x → P (below x a)
    unfolding has
    up_is x y = sym (r.mirrored.ancestors x a (in_row u x up_small y) (le_trans ha few)) ∙ y

    opening : Opening P (In u) (In w)
    unfolding has
    opening = record {
      ends = record { up = λ x y p q. is_up x (rules.sharing.chain x y a p (up_is y q)); down = λ x y p q. rules.sharing.chain b x y p q };
      no_mid = λ x y z. not_above f a b p q is_p is_q neither (rules.sharing.chain b x a z (up_is x y));
      no_leaf = λ x y z. no_leaf f a b p q is_p is_q neither x z y;
    }

    has_wide : (φ : Fact) → Held raised φ → Wider P (In u) (In w) φ
    unfolding has
    has_wide (child x y) p = p
    has_wide (below x y) p = raised_out f.below u w t (rises up_small up) x y p
    has_wide (differ x y) p = p
    has_wide (before x y) p = p
    has_wide (root x) p = p
    has_wide (leaf x) p = p
    has_wide (label x l) p = p

    over : (x y : ℕ) → In u x → In w y → Held raised (below x y)
    unfolding has
    over x y p q = raised_in f.below u w t (rises up_small up) x y (inr (p, q))

    keep : (φ : Fact) → P φ → Held raised φ
    unfolding has
    keep (child x y) p = p
    keep (below x y) p = raised_in f.below u w t (rises up_small up) x y (inl p)
    keep (differ x y) p = p
    keep (before x y) p = p
    keep (root x) p = p
    keep (leaf x) p = p
    keep (label x l) p = p

    sound' : (φ : Fact) → Held raised φ → Settled n S' φ
    unfolding has
    sound' φ p = wide_least P (In u) (In w) (Settled n S') more
        (λ x y q v. chain (more (below x a) (up_is x q)) (chain (given (Memᴰ.head refl)) (more (below b y) v))) φ (has_wide φ p)

    given' : (φ : Fact) → Memᴰ φ S' → Held raised φ
    unfolding has
    given' φ m = ⊎_elim
        (λ e. subst (Held raised) (sym e) (over a b (is_up a (rules.sharing.self_below a ha)) (rules.sharing.self_below b hb)))
        (λ k. keep φ (r.decides.complete (given k))) (Memᴰ.cases_cons m)

    decides' : Decides n S' (has raised)
    decides' = rules_decide n S' (has raised) sound' given'
        (rules_same n (Wider P (In u) (In w)) (Held raised) (wide_least P (In u) (In w) (Held raised) keep over) has_wide (wide_rules n P (In u) (In w) opening rules))

    inside' : Inside n S'
    inside' φ m = ⊎_elim (λ e. subst (Within n) (sym e) (ha, hb)) (r.inside φ) (Memᴰ.cases_cons m)

    ancestors' : Columns t s
    ancestors' = columns_raised f.below f.above u w t s r.mirrored.ancestors (rises up_small up) (rises down-small down)

    -- before against below is the one clash that there can be
    module _ (c : Bool) (test : Crossed f.before t s c) where
      within' : (φ : Fact) → Held raised φ → Within n φ
      within' φ p = settled_within n S' inside' (sound' φ p)

      pub raised_clash : c ≡ true → Clash n S'
      raised_clash e = crossed_clash n few raised ancestors' within' c test S' sound' e

      pub raised_ready : c ≡ false → Ready n S' raised
      unfolding has
      raised_ready e = record {
        inside = inside';
        free = free_clash n S' raised decides' (record {
          apart = no_clash.apart;
          clear = uncrossed_clear n few raised ancestors' within' c test e;
          bare = record { no_leaf = no_clash.bare.no_leaf; no_label = no_clash.bare.no_label };
        });
        decides = decides';
        mirrored = record { parents = r.mirrored.parents; ancestors = ancestors'; siblings = r.mirrored.siblings };
      }
        where
          no_clash : Free P
          no_clash = clash_free n S f r.decides r.free

-- ---- the contract

pub clash_entering : (n : ℕ) (S : List Fact) (a b : ℕ) (apart : Bool) → Clash n (below a b ∷ S) → Clash n (entering a b apart ++ S)
clash_entering n S a b false c = c
clash_entering n S a b true c =
    clash_mono n _ _ (λ f m. ⊎_elim (λ e. Memᴰ.head e) (λ k. Memᴰ.tail (Memᴰ.tail k)) (Memᴰ.cases_cons m)) c

-- where the test says that b is at or above a, or that a leaf is
module _ (n : ℕ) (f : Facts) (a b : ℕ) (few : n ≤ 16) (ha : a < n) (small : row f.above a < 65536)
    (p q : Bool) (d : p ≡ bit (row f.below b) a) (e : q ≡ meets (row f.above a) f.leaf) (t : (p || q) ≡ true) where
  pub follows : (S : List Fact) → Ready n S f → Settled n (below a b ∷ S) (below b a)
  follows S w = back_tested n S f a b few ha small w (⊎_elim (λ y. inl (sym d ∙ y)) (λ y. inr (sym e ∙ y)) (or_yes p q t))

  -- a and b of a chain join are not such
  not_apart : (S : List Fact) → Ready n S f → Forked f a b → ⊥
  unfolding has
  not_apart S w k =
      ⊎_elim (λ y. k.not_above (sym d ∙ y))
      (λ y. let l = meets_out (row f.above a) f.leaf small (sym e ∙ y) in
      no_leaf_above n few S f a b ha w k l.0 (in_row _ l.0 small l.1) l.1 l.2) (or_yes p q t)

  pub entered_same : (S : List Fact) → Ready n S f → (apart : Bool) → (Yes apart → Forked f a b) → (r : Option Facts)
      → MergedOf n f a b r → EnteredOf n f (entering a b apart) r
  entered_same S w false k None m = λ T z. m T z (follows T z)
  entered_same S w false k (Some g) m = λ T z. m T z (follows T z)
  entered_same S w true k r m = absurd (not_apart S w (k refl))
