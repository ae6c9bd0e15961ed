-- What a group that was made passes on to its siblings, by rows.
use Rattle.std.specs.Prelude.{◌≡◌, ◌⊎◌, List, ℕ, ◌<◌}
use Rattle.std.specs.Int.Bits.{bit_or}
use Rattle.tables.specs.Rows.{Raised, Union}
use Rattle.tables.specs.declared.Facts.{Facts}
use Rattle.grouping.specs.Rows.{Spread}
use Rattle.grouping.specs.Grouping.{with_siblings, SharesBefore}
use Rattle.siblings.specs.Rows.{Family}

-- before chained through the group, and its parents given to its family, by rows
pub record GivenToFamily (f : Facts) (group parents earlier later : ℕ) (r : Facts) : Type 0 where
  pub parents_small : parents < 65536
  pub earlier_small : earlier < 65536
  pub later_small : later < 65536
  pub kin : ℕ
  pub is_kin : Family f.before f.after group kin
  pub over : ℕ
  pub is_over : Union f.above parents over
  pub under : ℕ
  pub is_under : Union f.below kin under
  pub before : Raised f.before earlier later r.before
  pub after : Raised f.after later earlier r.after
  pub child : Raised f.child parents kin r.child
  pub parent : Raised f.parent kin parents r.parent
  pub below : Raised f.below over under r.below
  pub above : Raised f.above under over r.above
  pub differ_half : List ℕ
  pub differ_first : Spread f.differ earlier later later differ_half
  pub differ : Spread differ_half parents kin kin r.differ
  pub root : r.root ≡ f.root
  pub leaf : r.leaf ≡ f.leaf
  pub label : r.label ≡ f.label

-- the group shares before, and passes on what it has, if it has siblings
pub record PassedOf (f : Facts) (group parents : ℕ) (r : Facts) : Type 0 where
  pub earlier : ℕ
  pub later : ℕ
  pub b : List ℕ
  pub a : List ℕ
  pub shares : SharesBefore f.before f.after group earlier later b a
  pub passes : ((bit_or earlier later ≡ 0) × (r ≡ with_siblings f b a)) ⊎ GivenToFamily (with_siblings f b a) group parents earlier later r
