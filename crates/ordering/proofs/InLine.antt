-- The earliest member of a row: while the row has a member there is one, and the row in line is that one and then the rest of the row in line.
use mathlib.Core.Path.{◌≡◌, sym, ap, ◌∙◌, subst}
use mathlib.Core.Logic.{◌≢◌, ⊎_elim}
use mathlib.Core.List.{List, [], ◌∷◌, ◌++◌, Memᴰ}
use Prim.Native.Nat.{ℕ, ◌^◌, ◌<◌}
use native.Mathlib.Omega.{arith}
use lib.Bits.{bit_and, and_le_l}
use lib.ListN.{length}
use Rattle.meaning.specs.Finite.{Yes, ◌and◌, neg, arranged, picked}
use Rattle.meaning.proofs.Tests.{is_eq, yes_not}
use Rattle.meaning.proofs.Lists.{picked_in, picked_out, picked_none}
use Rattle.meaning.proofs.Arranged.{length_arranged, arranged_next, some_free}
use Rattle.rowbits.specs.Bit.{bit}
use Rattle.rowbits.proofs.Laws.{bit_one}
use Rattle.tables.specs.Tables.{row}
use Rattle.tables.specs.Rows.{Lowest, without}
use Rattle.tables.proofs.Bits.{in_both, both_in, none_in, some_in, in_row, one_has}
use Rattle.tables.proofs.Members.{Passed, passed_all}
use Rattle.ordering.specs.Listing.{precedes, Strict, Earliest, in_line}
use Rattle.ordering.proofs.Bits.{and_true, bit_without, picked_apart}

module _ (after : List ℕ) (r : ℕ) where
  pub length_in_line : length (in_line after r) ≡ length (picked 16 (bit r))
  unfolding in_line
  length_in_line = length_arranged (precedes after) _ (picked 16 (bit r))

  pub in_line_none : r ≡ 0 → in_line after r ≡ []
  unfolding in_line arranged
  in_line_none z = ap (λ (gs : List ℕ). arranged (precedes after) (length gs) gs) (picked_none 16 (bit r) (λ j l t. none_in j (subst (λ (k : ℕ). Yes (bit k j)) z t)))

  module _ (small : r < 65536) where
    listed_in : (x : ℕ) → Yes (bit r x) → Memᴰ x (picked 16 (bit r))
    listed_in x t = picked_in 16 (bit r) x (in_row r x small t) t

    -- a member that goes before x
    earlier_one : (x : ℕ) → bit_and r (row after x) ≢ 0 → (w : ℕ) × Memᴰ w (picked 16 (bit r)) × Yes (precedes after w x)
    earlier_one x some =
        let i = some_in (bit_and r (row after x)) (let l = and_le_l r (row after x) in omega arith) some in
        let b = in_both r (row after x) i.0 i.1 in
        (i.0, listed_in i.0 b.0, b.1)

    -- not every member has one that goes before it
    some_earliest : r ≢ 0 → Strict after → ¬ ((i : ℕ) → Yes (bit r i) → bit_and r (row after i) ≢ 0)
    some_earliest some strict none =
        let i = some_in r small some in
        let v = some_free (precedes after) strict.not_self strict.chains (picked 16 (bit r)) i.0 (listed_in i.0 i.1) in
        let w = earlier_one v.0 (none v.0 (picked_out 16 (bit r) v.0 v.1).1) in
        v.2 w.0 w.1 w.2

    module _ (x : ℕ) (e : Earliest after r x) where
      pub earliest_in : x < 16
      earliest_in = in_row r x small e.member

      pub in_line_next : in_line after r ≡ x ∷ in_line after (without r (2 ^ x))
      unfolding in_line ◌and◌ neg
      in_line_next =
          ap (λ (gs : List ℕ). arranged (precedes after) (length gs) gs) apart.1
          ∙ arranged_next (precedes after) (picked x (bit r)) apart.0 x not_before before
          ∙ ap (λ (gs : List ℕ). x ∷ arranged (precedes after) (length gs) gs) (sym apart.2)
        where
          apart : (zs : List ℕ) × (picked 16 (bit r) ≡ picked x (bit r) ++ x ∷ zs) × (picked 16 (bit (without r (2 ^ x))) ≡ picked x (bit r) ++ zs)
          apart =
              picked_apart 16 (bit r) (bit (without r (2 ^ x))) x earliest_in e.member
              (bit_without r (2 ^ x) x earliest_in ∙ rw (e.member, one_has x))
              (λ i k d. bit_without r (2 ^ x) i k ∙ rw (bit_one x i, yes_not (λ y. d (is_eq y))) (and_true (bit r i)))

          not_before : (w : ℕ) → Memᴰ w (picked x (bit r) ++ x ∷ apart.0) → ¬ Yes (precedes after w x)
          not_before w m t =
              none_in w (subst (λ (k : ℕ). Yes (bit k w)) e.free
              (both_in r (row after x) w (picked_out 16 (bit r) w (subst (Memᴰ w) (sym apart.1) m)).1 t))

          before : (y : ℕ) → Memᴰ y (picked x (bit r)) → (w : ℕ) × Memᴰ w (picked x (bit r) ++ x ∷ apart.0) × Yes (precedes after w y)
          before y m =
              let k = picked_out x (bit r) y m in
              let w = earlier_one y (e.first y k.0 k.1) in
              (w.0, subst (Memᴰ w.0) apart.1 w.1, w.2)

  -- so some are left where each that was passed has one
  pub some_left : (left : ℕ) → r < 65536 → r ≢ 0 → Strict after → Passed (λ i. bit_and r (row after i) ≢ 0) r left
      → left ≢ 0
  some_left left small some strict w z = some_earliest small some strict (passed_all _ _ _ w z)

  -- the lowest of those left is free, and those passed are not
  pub found_earliest : (left x : ℕ) → Passed (λ i. bit_and r (row after i) ≢ 0) r left → x < 16 → Lowest left x → bit_and r (row after x) ≡ 0 → Earliest after r x
  found_earliest left x w h low z = record {
    member = w.left x (low.this h);
    free = z;
    first = λ i l t. ⊎_elim (λ n. n) (λ u. absurd (low.none i l u)) (w.past i t);
  }
