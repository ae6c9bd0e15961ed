-- What settling does for siblings, in two steps: before takes the rows that were shared and chained, then child those that were passed along it, and
-- differ what each gives. For every S that the tables are to settle from, either step leaves tables to settle S from. What a pass closed stays
-- closed under the first; where child gained nothing the rules of siblings hold after it, and the second is not made.
use mathlib.Core.Path.{◌≡◌, refl, sym, ◌∙◌, subst}
use mathlib.Core.Logic.{inl, inr, ⊎_elim}
use mathlib.Core.Bool.{Bool, true, false}
use mathlib.Core.List.{List}
use Prim.Native.Nat.{ℕ, ◌<◌, ◌≤◌}
use native.Mathlib.Nat.{le_trans}
use native.Mathlib.Decide.{dec_lt}
use native.Mathlib.Omega.{arith}
use lib.ListN.{length, get_or-eq_default}
use Rattle.meaning.specs.Constraint.{Fact, child, below, differ, before, root, leaf, label}
use Rattle.meaning.specs.Settled.{Settled, Clash, child_differ, differ_back, before_differ}
use Rattle.meaning.specs.Closed.{Within, Siblings}
use Rattle.meaning.specs.Finite.{Yes}
use Rattle.meaning.proofs.Finite.{sum_le, sum_lt}
use Rattle.meaning.proofs.Least.{settled_within}
use Rattle.rowbits.specs.Bit.{bit}
use Rattle.tables.specs.Tables.{row, has, Columns, Sound, Seeded}
use Rattle.tables.specs.Rows.{Blank, Crossed, Transposed}
use Rattle.tables.specs.Free.{Clear, Bare}
use Rattle.tables.specs.declared.Facts.{Facts}
use Rattle.tables.proofs.Bits.{in_both, both_in, none_in}
use Rattle.tables.proofs.Loops.{transposed_columns}
use Rattle.tables.proofs.Clashes.{crossed_clash, uncrossed_clear}
use Rattle.passes.specs.Rows.{In}
use Rattle.settle.specs.Siblings.{Unlike, Groupwise, PassedOn, Parted, InOrder}
use Rattle.passes.specs.Steps.{weight, PassRules}

-- the group of rules of siblings; none is above the other
pub record SiblingRules (n : ℕ) (f : Facts) : Type 0 where
  pub siblings : Siblings n (λ φ. Yes (has f φ))
  pub clear : Clear (λ φ. Yes (has f φ))

-- ---- a table and its columns

record Turned (rows columns : List ℕ) : Type 0 where
  fro : (x y : ℕ) → In columns x y → In rows y x
  back : (x y : ℕ) → In rows x y → In columns y x

turned_rows : {n : ℕ} {rows columns : List ℕ} → n ≤ 16 → Transposed rows columns → length columns ≡ 16 → ((x y : ℕ) → In rows x y → (x < n) × (y < n)) → Turned rows columns
turned_rows {rows = rows} {columns = columns} few t long within = record {
  fro = λ x y u. (t.columns x (short x y u (dec_lt x 16))).from y u;
  back = λ x y u. let i = within x y u in (t.columns y (le_trans i.1 few)).to x (le_trans i.0 few) u;
}
  where
    short : (x y : ℕ) → In columns x y → Dec (x < 16) → x < 16
    short x y u (yes h) = h
    short x y u (no h) = none_in y (subst (λ (k : ℕ). Yes (bit k y)) (get_or-eq_default columns 0 (omega arith)) u)

-- differ with a table and its columns: what holds of both and turns round
module _ {t rows columns r : List ℕ} (w : Parted t rows columns r) (m : Turned rows columns) where
  parted_turned : ((x y : ℕ) → In t x y → In t y x) → (x y : ℕ) → In r x y → In r y x
  parted_turned h x y u = w.to y x (⊎_elim (λ v. inl (h x y v)) (λ v. inr (⊎_elim (λ a. inr (m.back x y a)) (λ a. inl (m.fro x y a)) v)) (w.from x y u))

  parted_least : (Q : ℕ → ℕ → Type 0) → ((x y : ℕ) → Q x y → Q y x) → ((x y : ℕ) → In t x y → Q x y) → ((x y : ℕ) → In rows x y → Q x y) → (x y : ℕ) → In r x y → Q x y
  parted_least Q turn a b x y u = ⊎_elim (a x y) (⊎_elim (b x y) (λ v. turn y x (b y x (m.fro x y v)))) (w.from x y u)

-- ---- with the new rows of before

abbrev pub ordering : Facts → (befores afters differs : List ℕ) → Facts
ordering f b a d = record {
  child = f.child;
  parent = f.parent;
  below = f.below;
  above = f.above;
  differ = d;
  before = b;
  after = a;
  root = f.root;
  label = f.label;
  leaf = f.leaf;
}

-- what settling knows where they were computed
pub record Rowed (n : ℕ) (f : Facts) (befores : List ℕ) : Type 0 where
  pub few : n ≤ 16
  pub columns : Columns f.below f.above
  pub order : InOrder n f.before f.below f.above befores

-- and of their columns
pub record Columned (befores afters : List ℕ) : Type 0 where
  pub columns : Transposed befores afters
  pub long : length afters ≡ 16

module _ {n : ℕ} {f : Facts} {befores : List ℕ} (o : Rowed n f befores) (S : List Fact) (seed : Seeded n S f) where
  in_16 : {x : ℕ} → x < n → x < 16
  in_16 h = le_trans h o.few

  abbrev same : List ℕ
  same = o.order.same

  within : (φ : Fact) → Settled n S φ → Within n φ
  within φ s = settled_within n S seed.inside s

  below_s : (x y : ℕ) → In f.below x y → Settled n S (below x y)
  unfolding has
  below_s x y u = seed.sound (below x y) u

  same_out : (x y : ℕ) → In same x y → In f.below x y × In f.below y x
  same_out x y u =
      let q = in_both (row f.below x) (row f.above x) y (subst (λ (k : ℕ). Yes (bit k y)) (o.order.common.rows x) u) in
      let i = within (below x y) (below_s x y q.0) in
      (q.0, sym (o.columns y x (in_16 i.1) (in_16 i.0)) ∙ q.1)

  same_in : (x y : ℕ) → In f.below x y → In f.below y x → In same x y
  same_in x y u v =
      let i = within (below x y) (below_s x y u) in
      subst (λ (k : ℕ). Yes (bit k y)) (sym (o.order.common.rows x))
      (both_in (row f.below x) (row f.above x) y u (o.columns y x (in_16 i.1) (in_16 i.0) ∙ v))

  before_s : (x y : ℕ) → In befores x y → Settled n S (before x y)
  unfolding has
  before_s = o.order.ordered.sound S (λ x y. seed.sound (before x y)) (λ x y u. let q = same_out x y u in (below_s x y q.0, below_s y x q.1))

  before_in : (x y : ℕ) → In befores x y → (x < n) × (y < n)
  before_in x y u = within (before x y) (before_s x y u)

  sound_with : (afters differs : List ℕ) → ((x y : ℕ) → In differs x y → Settled n S (differ x y))
      → Sound n S (ordering f befores afters differs)
  unfolding has
  sound_with a t h (child x y) u = seed.sound (child x y) u
  sound_with a t h (below x y) u = seed.sound (below x y) u
  sound_with a t h (differ x y) u = h x y u
  sound_with a t h (before x y) u = before_s x y u
  sound_with a t h (root x) u = seed.sound (root x) u
  sound_with a t h (leaf x) u = seed.sound (leaf x) u
  sound_with a t h (label x l) u = seed.sound (label x l) u

  pub ordered_clash : Crossed befores f.below f.above true → Clash n S
  unfolding has
  ordered_clash w =
      let h = sound_with f.after f.differ (λ x y. seed.sound (differ x y)) in
      crossed_clash n o.few (ordering f befores f.after f.differ) o.columns (λ φ u. within φ (h φ u)) true w S h refl

  turned : {afters : List ℕ} → Columned befores afters → Turned befores afters
  turned m = turned_rows o.few m.columns m.long before_in

  module _ {afters differs : List ℕ} (m : Columned befores afters) (d : Parted f.differ befores afters differs) where
    abbrev g : Facts
    g = ordering f befores afters differs

    turns : Turned befores afters
    turns = turned m

    sound : Sound n S g
    unfolding has
    sound = sound_with afters differs
        (parted_least d turns (λ i j. Settled n S (differ i j)) (λ i j. differ_back)
        (λ i j. seed.sound (differ i j)) (λ i j u. before_differ (before_s i j u)))

    keeps : (φ : Fact) → Yes (has f φ) → Yes (has g φ)
    unfolding has
    keeps (child x y) u = u
    keeps (below x y) u = u
    keeps (differ x y) u = d.to x y (inl u)
    keeps (before x y) u = (o.order.ordered.up x).kept y u
    keeps (root x) u = u
    keeps (leaf x) u = u
    keeps (label x l) u = u

    pub ordered_seeded : Seeded n S g
    unfolding has
    ordered_seeded = record {
      inside = seed.inside;
      held = λ φ m. keeps φ (seed.held φ m);
      sound = sound;
      child_differ = λ x y u. d.to x y (inl (seed.child_differ x y u));
      before_differ = λ x y u. d.to x y (inr (inl u));
      turned = parted_turned d turns seed.turned;
      parents = seed.parents;
      siblings = transposed_columns m.columns;
    }

    -- roots, leaves and labels are as they were
    pub ordered_bare : Bare (λ φ. Yes (has f φ)) → Bare (λ φ. Yes (has g φ))
    unfolding has
    ordered_bare b = record { no_leaf = b.no_leaf; no_label = b.no_label }

    module _ (k : Crossed befores f.below f.above false) (p : PassRules n f) where
      clear : Clear (λ φ. Yes (has g φ))
      clear = uncrossed_clear n o.few g o.columns (λ φ u. within φ (sound φ u)) false k refl

      groups : Groupwise n same
      unfolding has
      groups = record {
        few = λ x y u. within (below x y) (below_s x y (same_out x y u).0);
        chain = λ x y z u v. let a = same_out x y u in let b = same_out y z v in same_in x z (p.sharing.chain x y z a.0 b.0) (p.sharing.chain z y x b.1 a.1);
      }

      first_in : (x y : ℕ) → In f.before x y → (x < n) × (y < n)
      unfolding has
      first_in x y u = within (before x y) (seed.sound (before x y) u)

      firsts : (x y u : ℕ) → In f.below x u → In f.below u x → In befores x y → In befores u y
      firsts x y u a b = o.order.ordered.firsts groups first_in x y u (same_in u x b a)

      lasts : (x y u : ℕ) → In f.below y u → In f.below u y → In befores x y → In befores x u
      lasts x y u a b = o.order.ordered.lasts groups first_in x y u (same_in y u a b)

      same_differ : (x y u : ℕ) → In f.below x u → In f.below u x → In differs x y → In differs u y
      unfolding has
      same_differ x y u a b v = d.to u y (⊎_elim (λ c. inl (p.sharing.same_differ x y u a b c))
          (λ c. inr (⊎_elim (λ c. inl (firsts x y u a b c)) (λ c.
          inr (turns.back y u (lasts y x u a b (turns.fro x y c)))) c)) (d.from x y v))

      -- nothing is before itself, since it is below itself
      no_before : (x : ℕ) → In befores x x → ⊥
      unfolding has
      no_before x u = clear.not_above x x u (p.sharing.self_below x (before_in x x u).0)

      pub ordered_passed : PassRules n g
      unfolding has
      ordered_passed = record {
        sharing = record {
          child_below = p.sharing.child_below;
          child_differ = λ x y u. d.to x y (inl (p.sharing.child_differ x y u));
          self_below = p.sharing.self_below;
          chain = p.sharing.chain;
          root_below = p.sharing.root_below;
          leaf_below = p.sharing.leaf_below;
          differ_back = parted_turned d turns seed.turned;
          same_parent = p.sharing.same_parent;
          same_child = p.sharing.same_child;
          same_differ = same_differ;
          same_root = p.sharing.same_root;
          same_leaf = p.sharing.same_leaf;
          same_label = p.sharing.same_label;
        };
        one_parent = p.one_parent;
        one_element = p.one_element;
        apart = λ x u. ⊎_elim (p.apart x) (⊎_elim (no_before x) (λ v. no_before x (turns.fro x x v))) (d.from x x u);
        ancestors = p.ancestors;
      }

      -- where child gained nothing
      pub ordered_closed : {childs : List ℕ} {b : Bool} → PassedOn f.child befores afters childs
          → Unlike f.child childs b → b ≡ false → SiblingRules n g
      unfolding has
      ordered_closed {childs} c u z = record {
        siblings = record {
          before_chain = λ x y z u v. let i = before_in x y u in o.order.ordered.chained x y z (in_16 i.0) i.1 u v;
          before_differ = λ x y u. d.to x y (inr (inl u));
          before_child = λ x y u p q. was u y (child_in u x q) (c.later x y u (child_in u x q) p q);
          after_child = λ x y u p q. was u x (child_in u y q) (c.earlier x y u (child_in u y q) (turns.back x y p) q);
          same_before = firsts;
          same_after = lasts;
        };
        clear = clear;
      }
        where
          child_in : (x y : ℕ) → In f.child x y → x < 16
          child_in x y v = in_16 (within (child x y) (seed.sound (child x y) v)).0

          was : (x y : ℕ) → x < 16 → In childs x y → In f.child x y
          was x y h v = subst (λ (k : ℕ). Yes (bit k y)) (sym (u.none z x h)) v

-- ---- with the new rows of child

abbrev pub passing : Facts → (childs parents differs : List ℕ) → Facts
passing f c p d = record { child = c; parent = p; below = f.below; above = f.above; differ = d; before = f.before; after = f.after; root = f.root; label = f.label; leaf = f.leaf }

module _ {n : ℕ} {f : Facts} {childs parents differs : List ℕ} (few : n ≤ 16) (c : PassedOn f.child f.before f.after childs) (t : Transposed childs parents)
    (long : length parents ≡ 16) (after : Turned f.before f.after) (d : Parted f.differ childs parents differs) (S : List Fact) (seed : Seeded n S f) where
  child_s : (x y : ℕ) → In childs x y → Settled n S (child x y)
  unfolding has
  child_s = c.sound n S (λ x y. seed.sound (child x y)) (λ x y. seed.sound (before x y)) (λ x y u. seed.sound (before x y) (after.fro y x u))

  child_turned : Turned childs parents
  child_turned = turned_rows few t long (λ x y u. settled_within n S seed.inside (child_s x y u))

  passed_sound : Sound n S (passing f childs parents differs)
  unfolding has
  passed_sound (child x y) u = child_s x y u
  passed_sound (below x y) u = seed.sound (below x y) u
  passed_sound (differ x y) u = parted_least d child_turned (λ i j. Settled n S (differ i j)) (λ i j. differ_back) (λ i j. seed.sound (differ i j)) (λ i j v. child_differ (child_s i j v)) x y u
  passed_sound (before x y) u = seed.sound (before x y) u
  passed_sound (root x) u = seed.sound (root x) u
  passed_sound (leaf x) u = seed.sound (leaf x) u
  passed_sound (label x l) u = seed.sound (label x l) u

  passed_keeps : (φ : Fact) → Yes (has f φ) → Yes (has (passing f childs parents differs) φ)
  unfolding has
  passed_keeps (child x y) u = (c.up x).kept y u
  passed_keeps (below x y) u = u
  passed_keeps (differ x y) u = d.to x y (inl u)
  passed_keeps (before x y) u = u
  passed_keeps (root x) u = u
  passed_keeps (leaf x) u = u
  passed_keeps (label x l) u = u

  passed_seeded : Seeded n S (passing f childs parents differs)
  unfolding has
  passed_seeded = record {
    inside = seed.inside;
    held = λ φ m. passed_keeps φ (seed.held φ m);
    sound = passed_sound;
    child_differ = λ x y u. d.to x y (inr (inl u));
    before_differ = λ x y u. d.to x y (inl (seed.before_differ x y u));
    turned = parted_turned d child_turned seed.turned;
    parents = transposed_columns t;
    siblings = seed.siblings;
  }

-- ---- both, and that the tables grew

module _ {n : ℕ} {f : Facts} {befores afters differs childs : List ℕ} (o : Rowed n f befores)
    (d : Parted f.differ befores afters differs)
    (c : PassedOn f.child befores afters childs) where
  pub both_seeded : {parents aparts : List ℕ} → Columned befores afters → Transposed childs parents
      → length parents ≡ 16 → Parted differs childs parents aparts → (S : List Fact) → Seeded n S f
      → Seeded n S (passing (ordering f befores afters differs) childs parents aparts)
  both_seeded m t long e S seed = passed_seeded o.few c t long (turned o S seed m) e S (ordered_seeded o S seed m d)

  pub both_grew : (parents aparts : List ℕ) {b : Bool} → Unlike f.child childs b → b ≡ true
      → weight f < weight (passing (ordering f befores afters differs) childs parents aparts)
  unfolding weight
  both_grew parents aparts u m =
      let w = u.some m in
      let p = sum_lt 16 (row f.child) (row childs) (λ k _. (c.up k).most) w.0 w.1 (let l = (c.up w.0).most in let q = w.2 in omega arith) in
      let q = sum_le 16 (row f.before) (row befores) (λ k _. (o.order.ordered.up k).most) in
      omega arith

-- ---- tables without a before fact need neither

pub no_siblings : {n : ℕ} {S : List Fact} {f : Facts} {r : Bool} → n ≤ 16 → Seeded n S f → Blank f.before r → r ≡ true → SiblingRules n f
unfolding has
no_siblings {n} {S} {f} few seed w e = record {
  siblings = record {
    before_chain = λ x y z u v. none x y u;
    before_differ = λ x y u. none x y u;
    before_child = λ x y u p q. none x y p;
    after_child = λ x y u p q. none x y p;
    same_before = λ x y u p q c. none x y c;
    same_after = λ x y u p q c. none x y c;
  };
  clear = record { not_above = λ x y u. none x y u; not_under = λ x y u. none x y u };
}
  where
    none : (x y : ℕ) {A : Type 0} → Yes (has f (before x y)) → A
    none x y u =
        let h = (settled_within n S seed.inside (seed.sound (before x y) u)).0 in
        absurd (w.none e x y (le_trans h few) u)
