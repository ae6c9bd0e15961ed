-- What the loops of a pass give each variable: all that its group has, with the groups of what the group has.
use Rattle.std.specs.Prelude.{◌≡◌, ◌≢◌, ◌⊎◌, Bool, true, false, List, ℕ, ◌^◌, ◌<◌, ◌≤◌, eqb, set, MatchOption, Option}
use Rattle.std.specs.Int.Bits.{bit_or}
use Rattle.meaning.specs.Finite.{Yes, pick}
use Rattle.rowbits.specs.Bit.{bit}
use Rattle.tables.specs.Tables.{row}
use Rattle.tables.specs.Rows.{gained}
use Rattle.sharing.specs.declared.Share.{Share}
use Rattle.sharing.specs.declared.Shares.{Shares}

-- whether two labels, 0 for none, clash
pub record Clashing (l m : ℕ) (r : Bool) : Type 0 where
  pub clash : r ≡ true → (l ≢ 0) × (m ≢ 0) × (l ≢ m)
  pub free : r ≡ false → l ≢ 0 → m ≢ 0 → l ≡ m

pub record WithRows (s : Share) (c p d l : ℕ) (r : Share) : Type 0 where
  pub child : r.child ≡ bit_or s.child c
  pub parent : r.parent ≡ bit_or s.parent p
  pub differ : r.differ ≡ bit_or s.differ d
  pub label : r.label ≡ pick (eqb s.label 0) l s.label

pub record WithGroup (s : Share) (c p : Bool) (group : ℕ) (r : Share) : Type 0 where
  pub child : r.child ≡ gained c s.child group
  pub parent : r.parent ≡ gained p s.parent group
  pub differ : r.differ ≡ bit_or s.differ group
  pub label : r.label ≡ s.label

-- what variable x has
abbrev pub share_at : Shares → ℕ → Share
share_at t x = record { child = row t.child x; parent = row t.parent x; differ = row t.differ x; label = row t.label x }

-- the tables where x has s
abbrev pub stored : Shares → ℕ → Share → Shares
stored t x s = record {
  child = set t.child x s.child;
  parent = set t.parent x s.parent;
  differ = set t.differ x s.differ;
  label = set t.label x s.label;
}

-- j is in a row of the group, or the same as a number of such a row
abbrev pub Source : List ℕ → List ℕ → ℕ → ℕ → Type 0
Source same t own j = (i : ℕ) × Yes (bit own i) × (Yes (bit (row t i) j) ⊎ ((z : ℕ) × Yes (bit (row t i) z) × Yes (bit (row same z) j)))

-- nothing was taken but of the group
pub record Taking (same : List ℕ) (t : Shares) (own : ℕ) (s : Share) : Type 0 where
  pub child : (j : ℕ) → Yes (bit s.child j) → Source same t.child own j
  pub parent : (j : ℕ) → Yes (bit s.parent j) → Source same t.parent own j
  pub differ : (j : ℕ) → Yes (bit s.differ j) → Source same t.differ own j
  pub label : s.label ≢ 0 → (i : ℕ) × Yes (bit own i) × (row t.label i ≡ s.label)

-- the group of z was taken where z was
pub record Twin (same : List ℕ) (x : ℕ) (of s : Share) (z : ℕ) : Type 0 where
  pub apart : ¬ Yes (bit (row same z) x)
  pub child : Yes (bit of.child z) → (j : ℕ) → Yes (bit (row same z) j) → Yes (bit s.child j)
  pub parent : Yes (bit of.parent z) → (j : ℕ) → Yes (bit (row same z) j) → Yes (bit s.parent j)
  pub differ : (j : ℕ) → Yes (bit (row same z) j) → Yes (bit s.differ j)

-- all of y was taken
pub record Taken (same : List ℕ) (t : Shares) (x visits : ℕ) (s : Share) (y : ℕ) : Type 0 where
  pub child : (j : ℕ) → Yes (bit (row t.child y) j) → Yes (bit s.child j)
  pub parent : (j : ℕ) → Yes (bit (row t.parent y) j) → Yes (bit s.parent j)
  pub differ : (j : ℕ) → Yes (bit (row t.differ y) j) → Yes (bit s.differ j)
  pub label : row t.label y ≢ 0 → s.label ≡ row t.label y
  pub twins : (z : ℕ) → Yes (bit (row t.differ y) z) → Yes (bit visits z) → Twin same x (share_at t y) s z

-- x has taken all of its group and nothing else; the variables alone in their groups need no visit
pub record ShareOf (same : List ℕ) (t : Shares) (several x : ℕ) (s : Share) : Type 0 where
  pub taking : Taking same t (row same x) s
  pub taken : (y : ℕ) → Yes (bit (row same x) y) → Taken same t x (bit_or several (2 ^ x)) s y

-- a group has two labels, or differs from itself
pub data GroupClash (n : ℕ) (t : Shares) (same : List ℕ) : Type 0 where
  two_labels : (x y z : ℕ) → x < n → Yes (bit (row same x) y) → Yes (bit (row same x) z) → row t.label y ≢ 0 → row t.label z ≢ 0
      → row t.label y ≢ row t.label z → GroupClash n t same
  apart : (x y z : ℕ) → x < n → Yes (bit (row same x) y) → Yes (bit (row t.differ y) z) → Yes (bit (row same z) x) → GroupClash n t same

-- each x below n has its share, and the others have what they had
pub record Shared (n : ℕ) (t : Shares) (same : List ℕ) (several : ℕ) (r : Shares) : Type 0 where
  pub done : (x : ℕ) → x < n → ShareOf same t several x (share_at r x)
  pub rest : (x : ℕ) → n ≤ x → share_at r x ≡ share_at t x

-- None is a clash
abbrev pub SharedOf : ℕ → Shares → List ℕ → ℕ → Option Shares → Type 0
SharedOf n t same several r = MatchOption r (GroupClash n t same) (Shared n t same several)
