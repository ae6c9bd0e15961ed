-- The masks of a round reach what has to be glued.
use mathlib.Core.Path.{refl, sym, ◌∙◌}
use mathlib.Core.Logic.{inl, inr, ⊎_elim}
use mathlib.Core.Bool.{Bool, true, false, false≢true}
use mathlib.Core.List.{List}
use Prim.Native.Nat.{ℕ, ◌<◌}
use native.Mathlib.Nat.{le_trans}
use native.Mathlib.Omega.{arith}
use lib.Bits.{bit_or, or_lt}
use Rattle.meaning.specs.Tree.{Var}
use Rattle.meaning.specs.Constraint.{Fact, below}
use Rattle.meaning.specs.Finite.{Yes, pick}
use Rattle.meaning.proofs.Least.{settled_within}
use Rattle.rowbits.specs.Bit.{bit}
use Rattle.tables.specs.Tables.{row, has, Columns}
use Rattle.tables.specs.declared.Facts.{Facts}
use Rattle.tables.specs.Rows.{meets, Union}
use Rattle.tables.proofs.Bits.{or_case, or_l, or_r, none_in, meets_in, meets_out, in_row}
use Rattle.grouping.specs.Rows.{In}
use Rattle.grouping.specs.Grouping.{Held, Pending}
use Rattle.grouping.proofs.Reach.{Above, Reach}

in_pick : (t : Bool) (w i : ℕ) → In (pick t w 0) i → Yes t × In w i
unfolding pick
in_pick true w i u = (refl, u)
in_pick false w i u = none_in i u

pick_in : (t : Bool) (w i : ℕ) → Yes t → In w i → In (pick t w 0) i
unfolding pick
pick_in true w i y u = u
pick_in false w i y u = absurd (false≢true y)

pick_small : (t : Bool) (w : ℕ) → w < 65536 → pick t w 0 < 65536
unfolding pick
pick_small true w h = h
pick_small false w h = omega arith

-- the union of columns, from the table of columns
pub union_columns : (t r : List ℕ) (rows a : ℕ) → rows < 65536 → Columns t r → Union r rows a → (i : ℕ) → In a i → (k : ℕ) × In rows k × Yes (bit (row t i) k)
union_columns t r rows a small c u i y =
    let v = u.from i y in
    (v.0, v.1, sym (c i v.0 (in_row a i u.small y) (in_row rows v.0 small v.1)) ∙ v.2)

pub columns_union : (t r : List ℕ) (rows a : ℕ) → rows < 65536 → Columns t r → Union r rows a → (i : ℕ) → i < 16 → (k : ℕ) × In rows k × Yes (bit (row t i) k) → In a i
columns_union t r rows a small c u i l y = u.to y.0 i y.1 (c i y.0 l (in_row rows y.0 small y.1) ∙ y.2)

module _ (n : ℕ) (T : List Fact) (x : ℕ) (small : x < 65536) (f : Facts) (p : Pending n T x f) where
  in_table : (i j : Var) → Held f (below i j) → i < 16
  in_table i j u = le_trans (settled_within n T p.standing.inside (p.standing.sound (below i j) u)).0 p.standing.few

  itself : (i : Var) → In x i → Held f (below i i)
  itself i u = p.standing.sharing.self_below i (settled_within n T p.standing.inside (p.due i i u u)).0

  -- x with the unions of its rows of below and of above, and what is above a leaf's group
  module _ (w near far : ℕ) (uw : Union f.below x w) (un : Union f.above x near)
      (uf : Union f.above (pick (meets (bit_or x near) f.leaf) (bit_or x w) 0) far) where
    far_small : pick (meets (bit_or x near) f.leaf) (bit_or x w) 0 < 65536
    far_small = pick_small _ _ (or_lt 16 x w small uw.small)

    near_is : (i : Var) → In (bit_or x near) i → Above (Held f) (In x) i
    unfolding has
    near_is i u = ⊎_elim (λ y. (i, y, itself i y)) (union_columns f.below f.above x near small p.standing.mirrored.ancestors un i) (or_case x near i u)

    is_near : (i : Var) → Above (Held f) (In x) i → In (bit_or x near) i
    unfolding has
    is_near i a = or_r x near i (columns_union f.below f.above x near small p.standing.mirrored.ancestors un i (in_table i a.0 a.2) a)

    pub reach : Reach (Held f) (In x) (In (bit_or (bit_or x near) far)) (In (bit_or x w))
    unfolding has
    reach = record {
      down_is = λ i u. ⊎_elim (λ y. (i, y, itself i y)) (uw.from i) (or_case x w i u);
      is_down = λ i a. or_r x w i (uw.to a.0 i a.1 a.2);
      up_is = λ i u. ⊎_elim (λ y. inl (near_is i y))
          (λ y. let a = union_columns f.below f.above _ far far_small p.standing.mirrored.ancestors uf i y in
          let b = in_pick _ (bit_or x w) a.0 a.1 in
          let e = meets_out _ _ (or_lt 16 x near small un.small) b.0 in
          inr ((e.0, near_is e.0 e.1, e.2), (a.0, b.1, a.2)))
          (or_case (bit_or x near) far i u);
      is_up = λ i a. or_l (bit_or x near) far i (is_near i a);
      far_up = λ i l a. or_r (bit_or x near) far i
          (columns_union f.below f.above _ far far_small p.standing.mirrored.ancestors uf i (in_table i a.0 a.2)
          (a.0, pick_in _ _ a.0 (meets_in _ _ l.0 (is_near l.0 l.1) l.2) a.1, a.2));
    }
