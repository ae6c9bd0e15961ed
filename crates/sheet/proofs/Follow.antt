-- A sheet of bytes follows a sheet of records through every function that changes it: a number given away, a record put, a start at the root, the
-- records of a move.
use mathlib.Core.Path.{◌≡◌, refl, sym, ap, ◌∙◌, subst}
use mathlib.Core.List.{List, [], ◌∷◌, ◌++◌, append_assoc, append-nil}
use Prim.Native.Nat.{ℕ, zero, suc, ◌+◌, ◌≤◌, ◌<◌}
use native.Mathlib.Decide.{dec_le}
use native.Mathlib.Omega.{arith}
use lib.ListN.{length, take, drop, length-append, length-replicate}
use lib.Seq.{sets, take_at, sets-eq, length-sets}
use Rattle.std.proofs.Common.{Option, None, Some}
use Rattle.meaning.specs.Tree.{Var}
use Rattle.meaning.specs.Constraint.{Constraint, is_child, is_below, is_strictly_below, is_same, is_root, is_label, is_before}
use Rattle.meaning.specs.Paths as spec
use Rattle.meaning.specs.Paths.{Test, letter, any, test_byte}
use Rattle.meaning.specs.PathRecords.{Sheet, blank_sheet, next_taken, with_records, rooted_by, rooted, axis_record, move_records, record_bytes, file_bytes}
use Rattle.meaning.proofs.Tests.{pick_yes, pick_no, is_eq}
use Rattle.theory.proofs.PathFile.{file_length}
use Rattle.meaning.proofs.PathSheets.{letter_range, rooted_next}
use Rattle.constraints.specs.declared.Kind.{Kind}
use Rattle.constraints.specs.declared.Kind.TheVariants as kind
use Rattle.constraints.specs.Record.{kind_number}
use Rattle.axes.specs.Moving.{axis_for}
use Rattle.sheet.specs.Bytes.{Bytes, blank_in, numbered_in, put_in, root_given, rooted_in, axis_in, move_in, root_for, Follows, For}
use Rattle.sheet.proofs.Small.{numbered_yes, numbered_no, put_more, put_full}

-- ---- a blank sheet

pub blank_follows : Follows blank_sheet blank_in
unfolding blank_sheet blank_in file_bytes
blank_follows = record {
  size = length-replicate {A = ℕ} 192 0;
  few = λ h. (refl, refl);
  many = λ h. absurd (omega arith);
  exact = λ h k. (refl, refl);
}

-- ---- one number more

module _ (v : Sheet) (b : Bytes) (o : Follows v b) where
  -- where the sheet has a number left, it is stored
  numbered_few : v.next ≤ 16 → Follows (next_taken v)
      (record { records = b.records; length = b.length; next = b.next + 1; root = b.root })
  unfolding next_taken
  numbered_few p =
      let e = o.few p in
      record {
        size = o.size;
        few = λ h. (omega (arith, e.0), e.1);
        many = λ h. omega (arith, e.0);
        exact = λ h k. o.exact p k;
      }

  numbered_many : 16 < v.next → Follows (next_taken v) b
  unfolding next_taken
  numbered_many p =
      record { size = o.size; few = λ h. absurd (omega arith); many = λ h. o.many p; exact = λ h. absurd (omega arith) }

  pub numbered_follows : Follows (next_taken v) (numbered_in b)
  numbered_follows = go (dec_le v.next 16)
    where
      go : Dec (v.next ≤ 16) → Follows (next_taken v) (numbered_in b)
      go (yes p) = subst (Follows (next_taken v)) (numbered_yes b (let e = (o.few p).0 in omega arith)) (numbered_few p)
      go (no p) =
          let l : 16 < v.next = omega arith in
          subst (Follows (next_taken v)) (numbered_no b (let e = o.many l in omega (arith, e))) (numbered_many l)

-- ---- one record more

pub file_append : (cs ds : List Constraint) → file_bytes (cs ++ ds) ≡ file_bytes cs ++ file_bytes ds
unfolding file_bytes
file_append [] ds = refl
file_append (c ∷ cs) ds =
    ap (λ (k : List ℕ). record_bytes c ++ k) (file_append cs ds)
    ∙ sym (append_assoc (record_bytes c) (file_bytes cs) (file_bytes ds))

one_bytes : (c : Constraint) → file_bytes (c ∷ []) ≡ record_bytes c
unfolding file_bytes
one_bytes c = append-nil (record_bytes c)

-- the bytes of a record behind those of others
put_bytes : (k x y l n : ℕ) (b fb : List ℕ) → length b ≡ 192 → n ≤ 188 → n ≡ length fb → take n b ≡ fb
    → take (n + 4) (sets b n (k ∷ x ∷ y ∷ l ∷ [])) ≡ fb ++ (k ∷ x ∷ y ∷ l ∷ [])
put_bytes k x y l n b fb s m e t =
    let rec : List ℕ = k ∷ x ∷ y ∷ l ∷ [] in
    ap (take (n + 4)) (sets-eq rec b n (omega arith) ∙ ap (λ (z : List ℕ). z ++ rec ++ drop (n + 4) b) t)
    ∙ take_at (fb ++ rec) (drop (n + 4) b) (n + 4) (length-append fb rec ∙ omega arith)

module _ (v : Sheet) (b : Bytes) (c : Constraint) (k : Kind) (x y l : ℕ) (o : Follows v b)
    (is : v.next ≤ 16 → record_bytes c ≡ kind_number k ∷ x ∷ y ∷ l ∷ []) where
  abbrev bytes : List ℕ
  bytes = kind_number k ∷ x ∷ y ∷ l ∷ []

  more_records : length (v.records ++ (c ∷ [])) ≤ 48 → length v.records ≤ 47
  more_records h = let e = length-append v.records (c ∷ []) in omega arith

  full : 192 < b.length + 4 → Follows (with_records (c ∷ []) v) b
  unfolding with_records
  full g = record {
    size = o.size;
    few = o.few;
    many = o.many;
    exact =
        λ h q. let m = more_records q in let e = (o.exact h (omega arith)).0 in let f = file_length v.records in
        absurd (omega arith);
  }

  free : b.length + 4 ≤ 192
      → Follows (with_records (c ∷ []) v)
      (record { records = sets b.records b.length bytes; length = b.length + 4; next = b.next; root = b.root })
  unfolding with_records
  free g = record {
    size = length-sets b.records b.length bytes ∙ o.size;
    few = o.few;
    many = o.many;
    exact = λ h q.
        let m = more_records q in
        let e = o.exact h (omega arith) in
        let f : file_bytes (v.records ++ (c ∷ [])) ≡ file_bytes v.records ++ bytes =
        file_append v.records (c ∷ []) ∙ ap (λ (z : List ℕ). file_bytes v.records ++ z) (one_bytes c ∙ is h) in
        let z = ap length f ∙ length-append (file_bytes v.records) bytes in (
          omega (arith, z, e.0),
          put_bytes (kind_number k) x y l b.length b.records (file_bytes v.records) o.size
              (omega arith) e.0 e.1 ∙ sym f,
        );
  }

  pub put_follows : Follows (with_records (c ∷ []) v) (put_in k x y l b)
  put_follows = go (dec_le (b.length + 4) 192)
    where
      go : Dec (b.length + 4 ≤ 192) → Follows (with_records (c ∷ []) v) (put_in k x y l b)
      go (yes p) = subst (Follows (with_records (c ∷ []) v)) (put_more b k x y l _ _ refl refl p) (free p)
      go (no p) =
          let g : 192 < b.length + 4 = omega arith in subst (Follows (with_records (c ∷ []) v)) (put_full b k x y l g)
          (full g)

-- ---- a start at the root

abbrev IsSome : Option ℕ → Type 0
IsSome None = ⊥
IsSome (Some x) = Unit {0}

module _ (v : Sheet) (b : Bytes) (o : Follows v b) (some : 0 < b.next) where
  abbrev given : Sheet
  given = record { next = suc v.next; root_at = v.next; records = v.records }

  abbrev with_root : Bytes
  with_root =
      let n = numbered_in b in record { records = n.records; length = n.length; next = n.next; root = Some b.next }

  -- a number that was given away is a root's
  is_number : (n m : ℕ) → n ≡ m → 0 < n → Some n ≡ root_for m
  is_number n zero e l = absurd (omega arith)
  is_number n (suc m) e l = ap (λ (k : ℕ). Some k) e

  given_follows : Follows given with_root
  unfolding next_taken
  given_follows =
      let m = numbered_follows v b o in
      record {
        size = m.size;
        few = λ h. ((m.few h).0, is_number b.next v.next (o.few (let g : suc v.next ≤ 16 = h in omega arith)).0 some);
        many = m.many;
        exact = m.exact;
      }

  root_follows : Follows (rooted_by 0 v) (put_in kind.Root b.next 0 0 with_root)
  unfolding rooted_by record_bytes with_records
  root_follows =
      put_follows given with_root (is_root v.next) kind.Root b.next 0 0 given_follows
      (λ h. ap (λ (k : ℕ). 6 ∷ k ∷ 0 ∷ 0 ∷ []) (sym (o.few (let g : suc v.next ≤ 16 = h in omega arith)).0))

  rooted_few : (r : Option ℕ) (w : Var) → r ≡ root_for w → Follows (rooted_by w v) (root_given r b)
  unfolding rooted_by
  rooted_few None zero e = root_follows
  rooted_few None (suc w) e = absurd (subst IsSome (sym e) tt)
  rooted_few (Some r) zero e = absurd (subst IsSome e tt)
  rooted_few (Some r) (suc w) e = o

  -- past 16 variables only the number 17 is left to say
  rooted_many : 16 < v.next → (r : Option ℕ) → ((root_given r b).next ≡ 17) × (length (root_given r b).records ≡ 192)
  unfolding rooted_by
  rooted_many h None = let q = root_follows in (q.many (omega arith), q.size)
  rooted_many h (Some r) = (o.many h, o.size)

  pub rooted_follows : Follows (rooted v) (rooted_in b)
  unfolding rooted_in
  rooted_follows = go (dec_le v.next 16)
    where
      go : Dec (v.next ≤ 16) → Follows (rooted v) (root_given b.root b)
      go (yes h) = unfold rooted in (rooted_few b.root v.root_at (o.few h).1)
      go (no h) =
          let r = rooted_next v in
          let q = rooted_many (omega arith) b.root in
          record { size = q.1; few = λ g. absurd (omega arith); many = λ g. q.0; exact = λ g. absurd (omega arith) }

-- ---- the records of a move

module _ (v : Sheet) (b : Bytes) (x y X Y : ℕ) (o : Follows v b) (p : For v x X) (q : For v y Y) where
  -- a record of the two, either way round
  along : (k : Kind) (c : Constraint) → record_bytes c ≡ kind_number k ∷ X ∷ Y ∷ 0 ∷ []
      → Follows (with_records (c ∷ []) v) (put_in k x y 0 b)
  along k c e =
      let n = kind_number k in
      put_follows v b c k x y 0 o (λ h. e ∙ ap (λ (z : ℕ). n ∷ z ∷ Y ∷ 0 ∷ []) (sym (p h))
      ∙ ap (λ (z : ℕ). n ∷ x ∷ z ∷ 0 ∷ []) (sym (q h)))

  against : (k : Kind) (c : Constraint) → record_bytes c ≡ kind_number k ∷ Y ∷ X ∷ 0 ∷ []
      → Follows (with_records (c ∷ []) v) (put_in k y x 0 b)
  against k c e =
      let n = kind_number k in
      put_follows v b c k y x 0 o (λ h. e ∙ ap (λ (z : ℕ). n ∷ z ∷ X ∷ 0 ∷ []) (sym (q h))
      ∙ ap (λ (z : ℕ). n ∷ y ∷ z ∷ 0 ∷ []) (sym (p h)))

  axis_follows : (a : spec.Axis) → Follows (with_records (axis_record a X Y ∷ []) v) (axis_in (axis_for a) x y b)
  unfolding axis_record record_bytes
  axis_follows spec.to_self = along kind.Same (is_same X Y) refl
  axis_follows spec.to_child = along kind.Child (is_child X Y) refl
  axis_follows spec.to_parent = against kind.Child (is_child Y X) refl
  axis_follows spec.to_descendant = along kind.StrictlyBelow (is_strictly_below X Y) refl
  axis_follows spec.to_ancestor = against kind.StrictlyBelow (is_strictly_below Y X) refl
  axis_follows spec.to_descendant_or_self = along kind.Below (is_below X Y) refl
  axis_follows spec.to_ancestor_or_self = against kind.Below (is_below Y X) refl
  axis_follows spec.to_following_sibling = along kind.Before (is_before X Y) refl
  axis_follows spec.to_preceding_sibling = against kind.Before (is_before Y X) refl

  two_records : (c d : Constraint) → with_records (d ∷ []) (with_records (c ∷ []) v) ≡ with_records (c ∷ d ∷ []) v
  unfolding with_records
  two_records c d =
      ap (λ (k : List Constraint). record { next = v.next; root_at = v.root_at; records = k })
      (append_assoc v.records (c ∷ []) (d ∷ []))

  pub move_follows : (a : spec.Axis) (t : Test) → Follows (with_records (move_records a t X Y) v)
      (move_in (axis_for a) (test_byte t) x y b)
  unfolding move_in test_byte move_records
  move_follows a any =
      subst (Follows (with_records (axis_record a X Y ∷ []) v)) (sym (pick_yes _ _ refl)) (axis_follows a)
  move_follows a (letter l i) =
      let c = axis_record a X Y in
      let g = (letter_range l i).0 in
      let w = with_records (c ∷ []) v in
      subst (Follows (with_records (c ∷ is_label Y l ∷ []) v))
      (sym (pick_no _ _ (λ z. let e : l ≡ 42 = is_eq z in omega arith)))
      (subst (λ (k : Sheet). Follows k (put_in kind.Label y 0 l (axis_in (axis_for a) x y b)))
      (two_records c (is_label Y l))
      (put_follows w (axis_in (axis_for a) x y b) (is_label Y l) kind.Label y 0 l (axis_follows a)
      (unfold record_bytes with_records in (λ h. ap (λ (z : ℕ). 8 ∷ z ∷ 0 ∷ l ∷ []) (sym (q h))))))
