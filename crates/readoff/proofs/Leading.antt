-- Of tables that decide a settled set: the order lists the lowest variable of each group that is not root, and no other.
use mathlib.Core.Path.{◌≡◌, sym, subst, ◌∙◌}
use mathlib.Core.List.{List, Memᴰ}
use Prim.Native.Nat.{ℕ, ◌≤◌, ◌<◌}
use native.Mathlib.Decide.{dec_le}
use native.Mathlib.Omega.{arith}
use lib.Bits.{bit_and}
use Rattle.meaning.specs.Constraint.{Fact, below, root}
use Rattle.meaning.specs.Settled.{self_below, chain, same_root}
use Rattle.meaning.specs.Finite.{Yes}
use Rattle.meaning.specs.ReadOff.{FactSet, Decides, same, lowest, order}
use Rattle.meaning.proofs.Tests.{yes_eq, is_eq, eq_yes, and_left, and_right, and_both, no_neg}
use Rattle.meaning.proofs.Finite.{any_elim}
use Rattle.theory.proofs.Groups.{same_back, one_lead, order_in, order_out}
use Rattle.rowbits.specs.Bit.{bit}
use Rattle.tables.specs.declared.Facts.{Facts}
use Rattle.tables.specs.Rows.{Lowest}
use Rattle.tables.specs.Tables.{row, has, Ready}
use Rattle.readoff.specs.Nodes.{Led}
use Rattle.readoff.proofs.Meaning.{same_is}

-- ---- of a settled set

module _ (n : ℕ) (S : List Fact) (h : FactSet) (d : Decides n S h) where
  below_chain : {x y z : ℕ} → Yes (h (below x y)) → Yes (h (below y z)) → Yes (h (below x z))
  below_chain t u = d.complete (chain (d.sound t) (d.sound u))

  same_self : (x : ℕ) → x < n → Yes (same h x x)
  unfolding same
  same_self x l = let t = d.complete (self_below l) in and_both t t

  same_chain : (x y z : ℕ) → Yes (same h x y) → Yes (same h y z) → Yes (same h x z)
  unfolding same
  same_chain x y z t u = and_both (below_chain (and_left _ t) (and_left _ u)) (below_chain (and_right _ u) (and_right _ t))

  root_same : (x y : ℕ) → Yes (same h x y) → Yes (h (root x)) → Yes (h (root y))
  unfolding same
  root_same x y t q = d.complete (same_root (d.sound (and_left _ t)) (d.sound (and_right _ t)) (d.sound q))

-- ---- of the tables

module _ (f : Facts) (n : ℕ) (few : n ≤ 16) (S : List Fact) (r : Ready n S f) where
  group_is : (x y : ℕ) → x < n → y < 16 → bit (bit_and (row f.above x) (row f.below x)) y ≡ same (has f) y x
  group_is x y l q = same_is f n few r.mirrored.ancestors x y (omega arith) q

  -- a variable is in its own group, so the lowest one is no larger
  low_most : (x k : ℕ) → x < n → Lowest (bit_and (row f.above x) (row f.below x)) k → k ≤ x
  low_most x k l w = go (dec_le k x)
    where
      go : Dec (k ≤ x) → k ≤ x
      go (yes q) = q
      go (no q) = absurd (w.none x (omega arith) (group_is x x l (omega arith) ∙ same_self n S (has f) r.decides x l))

  pub led : Led f.below f.above f.root n (order n (has f))
  unfolding lowest has
  led x k l under w = (
    order_in n (has f) k (omega (arith, most)) low,
    λ g m. yes_eq _ _
        (λ t. eq_yes (one_lead n (has f) g k (order_out n (has f) g m).1 low (same_chain n S (has f) r.decides g x k (sym (group_is x g l (inside g m)) ∙ t) (same_back n (has f) k x same_k))))
        (λ t. subst (λ (i : ℕ). Yes (bit (bit_and (row f.above x) (row f.below x)) i)) (sym (is_eq t)) (w.this small)),
  )
    where
      most : k ≤ x
      most = low_most x k l w

      small : k < 16
      small = omega (arith, most)

      same_k : Yes (same (has f) k x)
      same_k = sym (group_is x k l small) ∙ w.this small

      inside : (g : ℕ) → Memᴰ g (order n (has f)) → g < 16
      inside g m = omega (arith, (order_out n (has f) g m).0)

      low : Yes (lowest n (has f) k)
      low = and_both (no_neg (λ t. under (root_same n S (has f) r.decides k x same_k t))) (no_neg (λ t. let q = any_elim k _ t in w.none q.0 q.1 (group_is x q.0 l (omega (arith, small)) ∙ same_chain n S (has f) r.decides q.0 k x q.2 same_k)))
