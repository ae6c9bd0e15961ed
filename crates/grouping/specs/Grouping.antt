-- Tables in which some variables have yet to become the same, and what making them one group does to them.
use Rattle.std.specs.Prelude.{◌≡◌, ◌⊎◌, ℕ, ◌<◌, ◌≤◌, Option, None, Some}
use mathlib.Core.List.{List, Memᴰ}
use Rattle.rowbits.specs.Bit.{bit}
use Rattle.meaning.specs.Tree.{Var}
use Rattle.meaning.specs.Constraint.{Fact, child, below, differ, before}
use Rattle.meaning.specs.Settled.{Settled, Clash}
use Rattle.meaning.specs.Finite.{Yes, neg, sum, one}
use Rattle.meaning.specs.Closed.{Sharing, Siblings, Inside}
use Rattle.tables.specs.Tables.{row, has, Mirrored}
use Rattle.tables.specs.Rows.{Union}
use Rattle.tables.specs.declared.Facts.{Facts}
use Rattle.tables.specs.Free.{Clear, Bare}
use Rattle.grouping.specs.declared.Round.{Round}
use Rattle.grouping.specs.Rows.{In, Gap, Spread}

-- a fact that is held, or that two variables of X wait for
pub data Awaits (X : Var → Type 0) (P : Fact → Type 0) : Fact → Type 0 where
  held : {φ : Fact} → P φ → Awaits X P φ
  waits : {x y : Var} → X x → X y → Awaits X P (below x y)

abbrev pub Held : Facts → Fact → Type 0
Held f φ = Yes (has f φ)

-- What holds after each step: the tables hold only what is settled of T, in them nothing differs from itself and neither leaf nor label is on
-- the document node, and they are closed under the rules that are not of siblings, but for those of one parent and one element.
pub record Standing (n : ℕ) (T : List Fact) (f : Facts) : Type 0 where
  pub few : n ≤ 16
  pub inside : Inside n T
  pub sound : (φ : Fact) → Held f φ → Settled n T φ
  pub sharing : Sharing n (Held f)
  pub apart : (x : Var) → ¬ Held f (differ x x)
  pub bare : Bare (Held f)
  pub mirrored : Mirrored f

-- What is still missing before a round, where there is no clash and every other rule holds: the variables of x have yet to become the same,
-- among them any two parents of one variable that are not. Of two children of the document node nothing is said: they may wait beside x.
pub record Pending (n : ℕ) (T : List Fact) (x : ℕ) (f : Facts) : Type 0 where
  pub standing : Standing n T f
  pub siblings : Siblings n (Held f)
  pub clear : Clear (Held f)
  pub due : (i j : Var) → In x i → In x j → Settled n T (below i j)
  pub complete : (φ : Fact) → Memᴰ φ T → Awaits (In x) (Held f) φ
  pub one_parent : (i j k : Var) → Held f (child i k) → Held f (child j k) → Awaits (In x) (Held f) (below i j)

-- ---- within a round

-- the rules of siblings, but for what passes through a group: from what is earlier to what is later, and from its parents to either
pub record Through (P : Fact → Type 0) (Over First Last : Var → Type 0) : Type 0 where
  pub before_chain : (x y z : Var) → P (before x y) → P (before y z) → P (before x z) ⊎ (First x × Last z)
  pub before_differ : (x y : Var) → P (before x y) → P (differ x y)
  pub before_child : (x y u : Var) → P (before x y) → P (child u x) → P (child u y) ⊎ (Over u × Last y)
  pub after_child : (x y u : Var) → P (before x y) → P (child u y) → P (child u x) ⊎ (Over u × First x)
  pub same_before : (x y u : Var) → P (below x u) → P (below u x) → P (before x y) → P (before u y)
  pub same_after : (x y u : Var) → P (below y u) → P (below u y) → P (before x y) → P (before x u)

-- `of` are those that have R with one of the group
pub record Having (R : Var → Var → Type 0) (group of : ℕ) : Type 0 where
  pub from : (x : Var) → In of x → (k : Var) × In group k × R x k
  pub to : (x k : Var) → In group k → R x k → In of x

-- A group was made. All that was waited for is held, and the rules hold but for what passes through the group, and that its parents wait now.
pub record Grouped (n : ℕ) (T : List Fact) (group parents earlier later : ℕ) (f : Facts) : Type 0 where
  pub standing : Standing n T f
  pub complete : (φ : Fact) → Memᴰ φ T → Held f φ
  pub siblings : Through (Held f) (In parents) (In earlier) (In later)
  pub one_parent : (i j k : Var) → Held f (child i k) → Held f (child j k) → Awaits (In parents) (Held f) (below i j)
  pub one_group : (i j : Var) → In group i → In group j → Held f (below i j)
  pub same_group : (i j : Var) → Held f (below i j) → Held f (below j i) → In group i → In group j
  pub is_parents : Having (λ i k. Held f (child i k)) group parents
  pub is_earlier : Having (λ i k. Held f (before i k)) group earlier
  pub is_later : Having (λ i k. Held f (before k i)) group later

-- tables with other rows of siblings
abbrev pub with_siblings : Facts → List ℕ → List ℕ → Facts
with_siblings f b a = record { child = f.child; parent = f.parent; below = f.below; above = f.above; differ = f.differ; before = b; after = a; root = f.root; label = f.label; leaf = f.leaf }

-- b and a are before and after, shared by a group: it has what is earlier and what is later than one of it
pub record SharesBefore (before after : List ℕ) (group earlier later : ℕ) (b a : List ℕ) : Type 0 where
  pub is_earlier : Union after group earlier
  pub is_later : Union before group later
  pub shared_before : Spread before group later earlier b
  pub shared_after : Spread after group earlier later a

-- how many pairs a table lacks
unfoldable pub lacking : List ℕ → ℕ
lacking t = sum 16 (λ i. sum 16 (λ j. one (neg (bit (row t i) j))))

-- the variables of x became the same, and what is missing now, once their group shares before, is what passes through it; its parents are r.next
pub record Unified (f : Facts) (x : ℕ) (r : Round) : Type 0 where
  pub groups : (n : ℕ) (T : List Fact) → Pending n T x f → (earlier later : ℕ) (b a : List ℕ)
      → SharesBefore r.facts.before r.facts.after r.group earlier later b a → Grouped n T r.group r.next earlier later (with_siblings r.facts b a)
  pub keeps : (r.facts.before ≡ f.before) × (r.facts.after ≡ f.after)
  -- with each group that is merged below lacks less
  pub falls : Gap f.below x → lacking r.facts.below < lacking f.below

-- the given facts have a clash, or the variables of x became the same
abbrev pub UnifiedOf : Facts → ℕ → Option Round → Type 0
UnifiedOf f x None = (n : ℕ) (T : List Fact) → Pending n T x f → Clash n T
UnifiedOf f x (Some r) = Unified f x r
