-- A round meets its contract: a clash that its tests find is one of the given facts; elsewhere the parents of the group that it made have yet to
-- become the same, or, where they are the same, the children of the document node, or, where these are too, nothing has.
use mathlib.Core.Path.{◌≡◌, refl, sym, ◌∙◌, subst}
use mathlib.Core.Logic.{◌≢◌, ⊎_elim}
use mathlib.Core.Bool.{Bool, true, false}
use mathlib.Core.List.{List}
use Prim.Native.Nat.{ℕ, ◌<◌, ◌≤◌}
use Rattle.std.specs.Prelude.{None}
use native.Mathlib.Nat.{le_trans}
use native.Mathlib.Decide.{ℕ_discrete}
use native.Mathlib.Omega.{arith}
use Rattle.meaning.specs.Constraint.{Fact, child, below, before, root}
use Rattle.meaning.specs.Settled.{Settled, Clash, root_below, same_parent, one_element}
use Rattle.meaning.specs.Closed.{Within}
use Rattle.meaning.proofs.Finite.{sum_le, one_le}
use Rattle.meaning.proofs.Least.{settled_within}
use Rattle.meaning.proofs.Tests.{clash, no_neg}
use Rattle.tables.specs.Tables.{row, has}
use Rattle.tables.specs.Rows.{Union, Crossed, Blank}
use Rattle.tables.specs.declared.Facts.{Facts}
use Rattle.tables.proofs.Bits.{none_in, in_row}
use Rattle.tables.proofs.Clashes.{crossed_clash, uncrossed_clear}
use Rattle.tables.proofs.Rises.{rises, raised_keeps}
use Rattle.grouping.specs.declared.Round.{Round}
use Rattle.grouping.specs.Rows.{In, Gap}
use Rattle.merge.specs.Rows.{Chained, Alike, WithGap, NextOf}
use Rattle.grouping.specs.Grouping.{Awaits, held, waits, Held, Pending, Grouped, with_siblings, lacking, Unified}
use Rattle.siblings.specs.Passing.{PassedOf}
use Rattle.merge.specs.Merging.{OneElement, Going, RoundOf}
use Rattle.siblings.proofs.Loops.{none_spread}
use Rattle.siblings.proofs.Passing.{Follows, alone_follows, passed_follows}

-- ---- what is still apart has to become the same, and nothing else

pub none_left : (f : Facts) (φ : Fact) → Awaits (In 0) (Held f) φ → Held f φ
none_left f φ (held y) = y
none_left f φ (waits {x = i} y z) = none_in i y

pub narrow : (n : ℕ) (T : List Fact) (f : Facts) (x r : ℕ) → WithGap f.below x r → Pending n T x f → Pending n T r f
unfolding has
narrow n T f x r a p = go (ℕ_discrete r 0)
  where
    all_there : r ≡ 0 → (φ : Fact) → Awaits (In x) (Held f) φ → Held f φ
    all_there e φ (held y) = y
    all_there e φ (waits {x = i} {y = j} y z) = a.none e i j y z

    go : Dec (r ≡ 0) → Pending n T r f
    go (no z) = subst (λ (k : ℕ). Pending n T k f) (sym (a.some z).0) p
    go (yes e) = record {
      standing = p.standing;
      siblings = p.siblings;
      clear = p.clear;
      due = λ i j y z. none_in i (subst (λ (k : ℕ). In k i) e y);
      complete = λ φ h. held (all_there e φ (p.complete φ h));
      one_parent = λ i j k y z. held (all_there e (below i j) (p.one_parent i j k y z));
    }

-- the children of the document node wait where no other variables do: all roots are the same, so that they are children of one
elements_pending : (n : ℕ) (T : List Fact) (f : Facts) (x : ℕ) → Union f.child f.root x → Pending n T 0 f → Pending n T x f
unfolding has
elements_pending n T f x u p = record {
  standing = p.standing;
  siblings = p.siblings;
  clear = p.clear;
  due = together;
  complete = λ φ m. held (none_left f φ (p.complete φ m));
  one_parent = λ i j k y z. held (none_left f (below i j) (p.one_parent i j k y z));
}
  where
    known : (φ : Fact) → Held f φ → Settled n T φ
    known = p.standing.sound

    together : (i j : ℕ) → In x i → In x j → Settled n T (below i j)
    together i j y z =
        let a = u.from i y in
        let b = u.from j z in
        let v = known (child a.0 i) a.2 in
        let w = known (child b.0 j) b.2 in
        let r = known (root a.0) a.1 in
        let s = known (root b.0) b.1 in
        one_element r v
        (same_parent (root_below s (settled_within n T p.standing.inside v).0) (root_below r (settled_within n T p.standing.inside w).0) w)

-- below chains and is mirrored, and roots are the same and share their children
module _ (n : ℕ) (T : List Fact) (f : Facts) (parents next : ℕ) (p : Pending n T parents f) (of : NextOf f.below f.above f.child f.root parents next) where
  alike : Alike f.child f.root
  unfolding has
  alike i k j u v =
      let s = p.standing in
      let root_in : (x : ℕ) → Held f (root x) → x < n = λ x y. settled_within n T s.inside (s.sound (root x) y) in
      s.sharing.same_parent i j k (s.sharing.root_below i k u (root_in k v)) (s.sharing.root_below k i v (root_in i u))

  chained : Chained f.below f.above
  unfolding has
  chained = record { chain = p.standing.sharing.chain; columns = p.standing.mirrored.ancestors }

  next_pending : Pending n T next f
  next_pending =
      ⊎_elim (λ a. narrow n T f parents next a.0 p) (λ a. narrow n T f a.0 next a.3 (elements_pending n T f a.0 a.2 (narrow n T f parents 0 a.1 p))) (of chained alike)

  next_gap : next ≢ 0 → Gap f.below next
  next_gap z = ⊎_elim (λ a. gap a.0) (λ a. gap a.3) (of chained alike)
    where
      gap : {x : ℕ} → WithGap f.below x next → Gap f.below next
      gap a = let y = a.some z in subst (Gap f.below) (sym y.0) y.1

  next_top : next ≡ 0 → OneElement f
  unfolding has
  next_top e x y z r u v = ⊎_elim (λ a. absurd (a.1 e)) (λ a. a.3.none e y z (a.2.to x y r u) (a.2.to x z r v)) (of chained alike)

-- ---- after a group was made

module _ (n : ℕ) (T : List Fact) (f : Facts) (x : ℕ) (m : Round) (p : Pending n T x f) (k : Unified f x m) where
  few : n ≤ 16
  few = p.standing.few

  inner : (g : Facts) → ((φ : Fact) → Held g φ → Settled n T φ) → (φ : Fact) → Held g φ → Within n φ
  inner g sound φ u = settled_within n T p.standing.inside (sound φ u)

  -- nothing is before anything
  module _ (small : m.group < 65536) (smalls : (i : ℕ) → row f.after i < 65536) (t : Bool) (blank : Blank m.facts.before t) (e : t ≡ true) where
    no_before : (i j : ℕ) → i < 16 → ¬ In (row m.facts.before i) j
    no_before = blank.none e

    no_after : (i j : ℕ) → i < 16 → ¬ In (row f.after i) j
    no_after i j l u =
        let h = in_row (row f.after i) j (smalls i) u in
        no_before j i h (subst (λ (b : List ℕ). In (row b j) i) (sym k.keeps.0)
        (sym (p.standing.mirrored.siblings j i h l) ∙ u))

    none_of : (t : List ℕ) → ((i j : ℕ) → i < 16 → ¬ In (row t i) j) → Union t m.group 0
    none_of t h = record { small = omega arith; from = λ j u. none_in j u; to = λ i j u v. absurd (h i j (in_row m.group i small u) v) }

    bare : Follows n T m.next m.facts
    bare = alone_follows n T _ _ 0 0 _
        (k.groups n T p 0 0 m.facts.before m.facts.after
        (record {
          is_earlier = subst (λ (a : List ℕ). Union a m.group 0) (sym k.keeps.1) (none_of f.after no_after);
          is_later = none_of m.facts.before no_before;
          shared_before = none_spread m.facts.before m.group 0 0 refl;
          shared_after = none_spread m.facts.after m.group 0 0 refl;
        })) refl

    pub blank_on : Pending n T m.next m.facts
    unfolding has
    blank_on = bare.pending (record {
      not_above = λ i j u v. no_before i j (le_trans (inner m.facts bare.sound (before i j) u).0 few) u;
      not_under = λ i j u v. no_before i j (le_trans (inner m.facts bare.sound (before i j) u).0 few) u;
    })

  -- the group shares before, and passes on what it has
  module _ (g : Facts) (h : PassedOf m.facts m.group m.next g) (t : Bool) (tests : Crossed g.before g.below g.above t) where
    grouped : Grouped n T m.group m.next h.earlier h.later (with_siblings m.facts h.b h.a)
    grouped = k.groups n T p _ _ _ _ h.shares

    follows : Follows n T m.next g
    follows = ⊎_elim (λ y. subst (Follows n T m.next) (sym y.1) (alone_follows n T _ _ _ _ _ grouped y.0)) (passed_follows n T _ _ _ _ _ grouped g) h.passes

    pub passed_clash : t ≡ true → Clash n T
    passed_clash = crossed_clash n few g follows.mirrored.ancestors (inner g follows.sound) t tests T follows.sound

    pub passed_on : t ≡ false → Pending n T m.next g
    passed_on e = follows.pending (uncrossed_clear n few g follows.mirrored.ancestors (inner g follows.sound) t tests e)

-- below lacks no more
lacks_no_more : (t r : List ℕ) → ((i j : ℕ) → In (row t i) j → In (row r i) j) → lacking r ≤ lacking t
unfolding lacking
lacks_no_more t r h = sum_le 16 _ _ (λ i _. sum_le 16 _ _ (λ j _. one_le _ _ (λ z. no_neg (λ y. clash (h i j y) z))))

-- what is held of below is kept
passed_keeps : (f : Facts) (group parents : ℕ) (g : Facts) → PassedOf f group parents g → (i j : ℕ) → In (row f.below i) j → In (row g.below i) j
passed_keeps f group parents g h i j u =
    ⊎_elim (λ y. subst (λ (k : Facts). In (row k.below i) j) (sym y.1) u)
    (λ q. raised_keeps f.below q.over q.under g.below (rises q.is_over.small q.below) i j u) h.passes

-- ---- the contract

module _ (f : Facts) (x : ℕ) (m : Round) (k : Unified f x m) where
  goes_to : (g : Facts) → ((n : ℕ) (T : List Fact) → Pending n T x f → Pending n T m.next g)
      → ((i j : ℕ) → In (row m.facts.below i) j → In (row g.below i) j)
      → (next : ℕ) → NextOf g.below g.above g.child g.root m.next next
      → Going f x (record { next = next; group = m.group; facts = g })
  goes_to g on keeps next a = record {
    goes_on = λ n T p. next_pending n T g m.next next (on n T p) a;
    falls = λ y. let a = k.falls y in let b = lacks_no_more m.facts.below g.below keeps in omega arith;
    gap = λ n T p. next_gap n T g m.next next (on n T p) a;
    top = λ n T p. next_top n T g m.next next (on n T p) a;
  }

  pub round_blank : m.group < 65536 → ((i : ℕ) → row f.after i < 65536)
      → (t : Bool) → Blank m.facts.before t → t ≡ true → (next : ℕ) → NextOf m.facts.below m.facts.above m.facts.child m.facts.root m.next next
      → Going f x (record { next = next; group = m.group; facts = m.facts })
  round_blank small smalls t blank e =
      goes_to m.facts (λ n T p. blank_on n T f x m p k small smalls t blank e) (λ i j u. u)

  module _ (g : Facts) (h : PassedOf m.facts m.group m.next g)
      (t : Bool) (tests : Crossed g.before g.below g.above t) where
    pub round_crossed : t ≡ true → RoundOf f x None
    round_crossed c n T p = passed_clash n T f x m p k g h t tests c

    pub round_passed : t ≡ false → (next : ℕ) → NextOf g.below g.above g.child g.root m.next next
        → Going f x (record { next = next; group = m.group; facts = g })
    round_passed c =
        goes_to g (λ n T p. passed_on n T f x m p k g h t tests c) (passed_keeps m.facts m.group m.next g h)
