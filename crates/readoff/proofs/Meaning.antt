-- What the rows say of groups is what the definitions say, where `above` has the columns of `below`.
use mathlib.Core.Path.{◌≡◌, refl, sym, ap, ◌∙◌}
use mathlib.Core.Logic.{⊎_elim}
use mathlib.Core.Bool.{Bool}
use mathlib.Core.List.{[], ◌∷◌}
use Prim.Native.Nat.{ℕ, zero, suc, ◌-◌, ◌^◌, ◌≤◌, ◌<◌, suc-le-suc}
use native.Mathlib.Nat.{le_refl, le_trans, le_step}
use native.Mathlib.Omega.{arith}
use lib.Bits.{bit_and, and_le_l, mask_lt}
use lib.Dec.{eqb}
use lib.ListN.{length, get_or}
use lib.Pow.{pow_mono}
use Rattle.meaning.specs.Finite.{Yes, pick, ◌and◌, neg, one, smallest, tab}
use Rattle.meaning.specs.ReadOff.{same, over, lowest, depth, order, element, node_at, place, nearest, parent_of, label_of, node_bytes, places}
use Rattle.meaning.proofs.Tests.{clash, yes_case, is_eq, eq_yes, self_eq, and_left, and_right, and_both, no_neg}
use Rattle.meaning.proofs.Finite.{any_intro, any_elim, smallest_passes, smallest_none}
use Rattle.meaning.proofs.Lists.{get_d_mem}
use Rattle.meaning.proofs.Nodes.{node}
use Rattle.theory.proofs.Groups.{order_out}
use Rattle.rowbits.specs.Bit.{bit}
use Rattle.tables.specs.declared.Facts.{Facts}
use Rattle.tables.specs.Rows.{without}
use Rattle.tables.specs.Tables.{row, has, Columns}
use Rattle.tables.proofs.Bits.{all_has}
use Rattle.ordering.specs.Rows.{Gathered, over_row, is_low, is_lowest, deep, near}
use Rattle.ordering.specs.Numbering.{numbered}
use Rattle.readoff.specs.Nodes.{place_in, parent_in, node_in, group_record}
use Rattle.ordering.proofs.Bits.{and_true, and_turn, bit_without}
use Rattle.readoff.proofs.Counting.{bit_meet, sum_eq, any_eq, counted, ones_zero, empty}
use Rattle.readoff.proofs.Places.{position_eq}

tab_eq : (n : ℕ) (f g : ℕ → ℕ) → ((x : ℕ) → x < n → f x ≡ g x) → tab n f ≡ tab n g
unfolding tab
tab_eq zero f g h = refl
tab_eq (suc n) f g h = rw (tab_eq n f g (λ x l. h x (le_step l)), h n (le_refl _))

-- ---- of the tables

-- the only number that passes, or 0
smallest_only : (k r : ℕ) → r < k → r ≡ smallest k (λ l. eqb r l and neg (eqb l 0))
smallest_only k r h = ⊎_elim nothing this (yes_case (eqb r 0))
  where
    nothing : Yes (eqb r 0) → r ≡ smallest k (λ l. eqb r l and neg (eqb l 0))
    nothing z =
        let e : r ≡ 0 = is_eq z in
        e ∙ sym (smallest_none k (λ l. eqb r l and neg (eqb l 0)) (no_neg (λ y. let w = any_elim k (λ l. eqb r l and neg (eqb l 0)) y in
        let q : r ≡ w.0 = is_eq (and_left _ w.2) in
        clash (eq_yes {x = w.0} {y = 0} (sym q ∙ e)) (and_right (eqb r w.0) w.2))))

    this : Yes (neg (eqb r 0)) → r ≡ smallest k (λ l. eqb r l and neg (eqb l 0))
    this z = is_eq (and_left _ (smallest_passes k (λ l. eqb r l and neg (eqb l 0)) (any_intro k (λ l. eqb r l and neg (eqb l 0)) r h (and_both (self_eq r) z))).1)

-- a label of 0 is no label fact
label_is : (f : Facts) (n g : ℕ) → row f.label g < 256 → row f.label g ≡ label_of n (has f) g
unfolding label_of has
label_is f n g h = smallest_only 256 (row f.label g) h

module _ (f : Facts) (n : ℕ) (few : n ≤ 16) (m : Columns f.below f.above) where
  -- ---- over, same

  over_is : (x y : ℕ) → x < 16 → y < 16 → bit (without (row f.above x) (row f.below x)) y ≡ over n (has f) y x
  unfolding over has
  over_is x y h k = bit_without (row f.above x) (row f.below x) y k ∙ ap (λ (b : Bool). b and neg (bit (row f.below x) y)) (m y x k h)

  under_is : (w k : ℕ) → w < 16 → k < 16 → bit (without (row f.below w) (row f.above w)) k ≡ over n (has f) w k
  unfolding over has
  under_is w k h l = bit_without (row f.below w) (row f.above w) k l ∙ ap (λ (b : Bool). bit (row f.below w) k and neg b) (m k w l h)

  pub same_is : (x y : ℕ) → x < 16 → y < 16 → bit (bit_and (row f.above x) (row f.below x)) y ≡ same (has f) y x
  unfolding same has
  same_is x y h k = bit_meet (row f.above x) (row f.below x) y ∙ ap (λ (b : Bool). b and bit (row f.below x) y) (m y x k h)

  abbrev row_of : ℕ → ℕ
  row_of x = over_row n (row f.above x) (row f.below x)

  row_of_small : (x : ℕ) → row_of x < 2 ^ n
  unfolding over_row
  row_of_small x = mask_lt (without (row f.above x) (row f.below x)) n

  row_of_is : (x y : ℕ) → x < 16 → y < n → bit (row_of x) y ≡ over n (has f) y x
  unfolding over_row
  row_of_is x y h k =
      bit_meet (without (row f.above x) (row f.below x)) (2 ^ n - 1) y
      ∙ ap (λ (b : Bool). bit (without (row f.above x) (row f.below x)) y and b) (all_has n y k) ∙ and_true _ ∙ over_is x y h (omega arith)

  near_is : (x w : ℕ) → x < n → w < n → near f.below f.above (row_of x) w ≡ nearest n (has f) w x
  unfolding near nearest
  near_is x w h l =
      rw (row_of_is x w (omega arith) l) (ap (λ (b : Bool). over n (has f) w x and b)
      (empty n (bit_and (row_of x) (without (row f.below w) (row f.above w))) few (le_trans (suc-le-suc (and_le_l (row_of x) _)) (row_of_small x))
      ∙ ap neg (any_eq n _ (λ k. over n (has f) k x and over n (has f) w k)
      (λ k q. bit_meet (row_of x) (without (row f.below w) (row f.above w)) k ∙ rw (row_of_is x k (omega arith) q, under_is w k (omega arith) (omega arith))))))

  -- ---- the lowest variables, and the depth of each

  low_is : (x : ℕ) → x < 16 → is_lowest f.below f.above f.root x ≡ lowest n (has f) x
  unfolding is_lowest is_low lowest has
  low_is x h =
      ap (λ (b : Bool). neg (bit f.root x) and b)
      (empty x (bit_and (bit_and (row f.above x) (row f.below x)) (2 ^ x - 1)) (omega arith) (mask_lt (bit_and (row f.above x) (row f.below x)) x)
      ∙ ap neg (any_eq x _ (λ y. same (has f) y x) (λ y l. bit_meet (bit_and (row f.above x) (row f.below x)) (2 ^ x - 1) y
      ∙ ap (λ (b : Bool). bit (bit_and (row f.above x) (row f.below x)) y and b) (all_has x y l) ∙ and_true _ ∙ same_is x y h (omega arith))))

  module _ (lows : ℕ) (g : Gathered n (is_lowest f.below f.above f.root) lows) where
    pub lows_is : (x : ℕ) → x < n → bit lows x ≡ lowest n (has f) x
    lows_is x l = g.each x l ∙ low_is x (omega arith)

    above_small : (x : ℕ) → bit_and (row_of x) lows < 2 ^ n
    above_small x = le_trans (suc-le-suc (and_le_l (row_of x) lows)) (row_of_small x)

    pub depth_is : (x : ℕ) → x < 16 → deep f.below f.above n lows x ≡ depth n (has f) x
    unfolding deep depth
    depth_is x h =
        counted n (bit_and (row_of x) lows) (above_small x)
        ∙ sum_eq n _ _ (λ y l. ap one (bit_meet (row_of x) lows y ∙ and_turn _ _ ∙ rw (lows_is y l, row_of_is x y h l)))

    top_is : (x : ℕ) → x < 16 → eqb (bit_and (row_of x) lows) 0 ≡ eqb (depth n (has f) x) 0
    unfolding deep
    top_is x h =
        let p : 2 ^ n ≤ 2 ^ 16 = pow_mono few in
        sym (ones_zero (bit_and (row_of x) lows) (le_trans (above_small x) p)) ∙ ap (λ (k : ℕ). eqb k 0) (depth_is x h)

    parent_is : (x : ℕ) → x < n → parent_in f.below f.above lows (element n (has f)) (order n (has f)) (row_of x) ≡ parent_of n (has f) x
    unfolding parent_in parent_of numbered node_at
    parent_is x h =
        rw (
          top_is x (omega arith),
          position_eq (near f.below f.above (row_of x)) (λ w. nearest n (has f) w x) (order n (has f)) (λ w k. near_is x w h (order_out n (has f) w k).0),
        )

    pub record_is : ((g : ℕ) → row f.label g < 256) → (i : ℕ) → i < length (order n (has f))
        → group_record f.below f.above f.label n lows (element n (has f)) (order n (has f)) i ≡ node_bytes (node_at n (has f) i) (node n (has f) (get_or (order n (has f)) i 0) ∷ [])
    unfolding node_in numbered node_at
    record_is bytes i l =
        let x : ℕ = get_or (order n (has f)) i 0 in
        rw (parent_is x (order_out n (has f) x (get_d_mem (order n (has f)) i l)).0, label_is f n x (bytes x))

  place_is : (x : ℕ) → x < n → place_in f.below f.above f.root (element n (has f)) (order n (has f)) x ≡ place n (has f) x
  unfolding place_in place numbered node_at has
  place_is x h =
      ap (λ (i : ℕ). pick (bit f.root x) 0 (node_at n (has f) i))
      (position_eq (bit (bit_and (row f.above x) (row f.below x))) (λ g. same (has f) g x) (order n (has f))
      (λ g k. same_is x g (omega arith) (let l = (order_out n (has f) g k).0 in omega arith)))

  pub places_are : tab n (place_in f.below f.above f.root (element n (has f)) (order n (has f))) ≡ places n (has f)
  unfolding places
  places_are = tab_eq n _ _ place_is
