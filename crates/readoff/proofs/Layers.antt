-- The layers list the groups in the order of the definition. Only here is known how a layer is put in order.
use mathlib.Core.Path.{◌≡◌, refl, sym, ap, ◌∙◌}
use mathlib.Core.Bool.{Bool}
use mathlib.Core.List.{List}
use Prim.Native.Nat.{ℕ, zero, suc, ◌^◌, ◌≤◌, ◌<◌}
use native.Mathlib.Nat.{le_trans}
use native.Mathlib.Omega.{arith}
use lib.Count.{ones}
use lib.Dec.{eqb}
use lib.ListN.{length}
use lib.Pow.{pow_mono}
use Rattle.meaning.specs.Constraint.{before}
use Rattle.meaning.specs.Finite.{◌and◌, arranged, picked}
use Rattle.meaning.specs.ReadOff.{lowest, depth, layer, layers, order}
use Rattle.meaning.proofs.Nodes.{length_picked}
use Rattle.rowbits.specs.Bit.{bit}
use Rattle.tables.specs.declared.Facts.{Facts}
use Rattle.tables.specs.Tables.{row, has, Columns}
use Rattle.ordering.specs.Rows.{Gathered, is_lowest, in_layer, AreLayers}
use Rattle.ordering.specs.Listing.{in_line, listed}
use Rattle.ordering.proofs.Bits.{picked_eq}
use Rattle.readoff.proofs.Counting.{counted, gathered_picked}
use Rattle.ordering.proofs.InLine.{length_in_line}
use Rattle.readoff.proofs.Preceding.{SayBefore}
use Rattle.readoff.proofs.Meaning.{lows_is, depth_is}

module _ (f : Facts) (n : ℕ) (few : n ≤ 16) (m : Columns f.below f.above) (lows : ℕ) (g : Gathered n (is_lowest f.below f.above f.root) lows)
    (rows : List ℕ) (ls : AreLayers f.below f.above n lows rows) (says : SayBefore f) where
  members_are : (d : ℕ) → d < 17 → picked 16 (bit (row rows d)) ≡ picked n (λ x. lowest n (has f) x and eqb (depth n (has f) x) d)
  unfolding in_layer
  members_are d h =
      gathered_picked n _ (row rows d) few (ls d h)
      ∙ picked_eq n _ _ (λ x l. rw (lows_is f n few m lows g x l, depth_is f n few m lows g x (omega arith)))

  layer_is : (d : ℕ) → d < 17 → in_line f.after (row rows d) ≡ layer n (has f) d
  unfolding layer in_line
  layer_is d h =
      ap (λ (b : ℕ → ℕ → Bool). let gs = picked 16 (bit (row rows d)) in arranged b (length gs) gs) says
      ∙ ap (λ (gs : List ℕ). arranged (λ w x. has f (before w x)) (length gs) gs) (members_are d h)

  listed_is : (d : ℕ) → d ≤ 17 → listed f.after rows d ≡ layers n (has f) d
  unfolding listed layers
  listed_is zero h = refl
  listed_is (suc d) h = rw (listed_is d (omega arith), layer_is d h)

  pub order_is : listed f.after rows n ≡ order n (has f)
  unfolding order
  order_is = listed_is n (omega arith)

  pub tops_are : ones (row rows 0) ≡ length (layer n (has f) 0)
  tops_are =
      let p : 2 ^ n ≤ 2 ^ 16 = pow_mono few in
      counted 16 (row rows 0) (le_trans (ls 0 (omega arith)).small p) ∙ sym (length_picked 16 (bit (row rows 0)))
      ∙ sym (length_in_line f.after (row rows 0)) ∙ ap length (layer_is 0 (omega arith))
