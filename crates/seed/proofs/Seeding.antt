-- The loop of `seed` keeps `Seeding`, or leaves with two labels.
use mathlib.Core.Path.{◌≡◌, sym, ap, ◌∙◌, subst}
use mathlib.Core.Bool.{Bool, true, false}
use mathlib.Core.List.{List, [], Memᴰ}
use Prim.Native.Nat.{ℕ, zero, suc, ◌+◌, ◌*◌, ◌/◌, ◌%◌, ◌^◌, ◌<◌}
use native.Mathlib.Nat.{mod-eq_of_lt, add-zero}
use native.Mathlib.Omega.{arith}
use lib.Dec.{eqb}
use lib.Bits.{bit_or}
use lib.Seq.{get_or-take, get_or-drop}
use lib.ListN.{length, get_or, set, drop, replicate}
use Rattle.std.specs.Simd.{first_chunks}
use Rattle.meaning.specs.Tree.{folded}
use Rattle.meaning.specs.Constraint.{Constraint, facts_of}
use Rattle.meaning.specs.Files.{accepted, judge}
use Rattle.meaning.proofs.Constraints.{named_most}
use Rattle.theory.proofs.ConstraintFile.{bytes, accepted_vars}
use Rattle.constraints.proofs.Records.{good_at}
use Rattle.tables.specs.Tables.{row}
use Rattle.seed.specs.Seeds.{labelled, second_label, GivesTwoLabels}
use Rattle.seed.proofs.Codes.{left, right, variables_named}
use Rattle.seed.proofs.Bytes.{GoodBytes, good_bytes}
use Rattle.seed.proofs.Gathering.{Gathered, Labels, gathered_none, labels_none, here_in, gathered_more, labels_more, two_labels}

pub record Seeding (cs : List Constraint) (i : ℕ) (rows columns names : List ℕ) : Type 0 where
  pub by_row : Gathered cs i left right rows
  pub by_column : Gathered cs i right left columns
  pub labels : Labels cs i names

pub seeding_start : (cs : List Constraint) → Seeding cs 0 (replicate 256 0) (replicate 256 0) (replicate 16 0)
seeding_start cs = record { by_row = gathered_none cs left right; by_column = gathered_none cs right left; labels = labels_none cs }

-- ---- one record more, as the code has it

-- byte j of piece i of four bytes
byte_of : (n : ℕ) (bs : List ℕ) (i j : ℕ) → i < n → j < 4 → get_or (get_or (first_chunks 4 n bs) i []) j 0 ≡ get_or
    bs (i * 4 + j) 0
byte_of zero bs i j h l = absurd (omega arith)
byte_of (suc n) bs zero j h l = let e : j ≡ zero * 4 + j = omega arith in
    get_or-take 4 bs j 0 l ∙ ap (λ (k : ℕ). get_or bs k 0) e
byte_of (suc n) bs (suc i) j h l =
    let e : 4 + (i * 4 + j) ≡ suc i * 4 + j = omega arith in
    byte_of n (drop 4 bs) i j (omega arith) l ∙ get_or-drop 4 bs (i * 4 + j) 0 ∙ ap (λ (k : ℕ). get_or bs k 0) e

module _ (file : List ℕ) (cs : List Constraint) (e : judge file ≡ accepted cs) (small : (i : ℕ) → get_or file i 0 < 256) where
  pub few : (c : Constraint) → Memᴰ c cs → (left c < 16) × (right c < 16)
  few c m =
      let w = variables_named c in
      let a = named_most cs c m in
      let b = accepted_vars file (bytes file small) cs e in
      (omega (arith, w.0, a, b), omega (arith, w.1, a, b))

  module _ (i : ℕ) (h : i < length file / 4) (rows columns names : List ℕ) (s : Seeding cs i rows columns names) where
    abbrev k : ℕ
    k = get_or file (i * 4) 0

    abbrev x : ℕ
    x = get_or file (i * 4 + 1) 0

    abbrev y : ℕ
    y = get_or file (i * 4 + 2) 0

    abbrev l : ℕ
    l = get_or file (i * 4 + 3) 0

    abbrev d : Constraint
    d = (good_at file cs e i h).0

    good : GoodBytes k x y l d
    good = good_bytes _ _ _ _ (good_at file cs e i h).1

    x_small : x < 16
    x_small = subst (λ (j : ℕ). j < 16) good.is_left (few d (here_in cs i d (good_at file cs e i h).2)).0

    y_small : y < 16
    y_small = subst (λ (j : ℕ). j < 16) good.is_right (few d (here_in cs i d (good_at file cs e i h).2)).1

    next : second_label (row names x) (labelled (eqb k 8) (row names x) (folded l)) ≡ false → Seeding cs (i + 1) (set rows (k * 16 + x) (bit_or (row rows (k * 16 + x)) (2 ^ y)))
        (set columns (k * 16 + y) (bit_or (row columns (k * 16 + y)) (2 ^ x))) (set names x (labelled (eqb k 8) (row names x) (folded l)))
    next free =
        let at = (good_at file cs e i h).2 in
        let m = good.most in
        record {
          by_row = gathered_more cs i d at left right rows _ _ (rw (good.is_number, good.is_left)) good.is_right (omega (arith, m, x_small)) s.by_row;
          by_column = gathered_more cs i d at right left columns _ _ (rw (good.is_number, good.is_right)) good.is_left (omega (arith, m, y_small)) s.by_column;
          labels = labels_more cs i d at k x y l good x_small names s.labels free;
        }

    -- the code's numbers are the record's, which is the i-th piece of four bytes
    module _ (records : List (List ℕ)) (cut : records ≡ first_chunks 4 (length file / 4) file) (k' x' y' l' : ℕ)
        (ek : k' ≡ get_or (get_or records i []) 0 0 % 16) (ex : x' ≡ get_or (get_or records i []) 1 0 % 16)
        (ey : y' ≡ get_or (get_or records i []) 2 0 % 16) (el : l' ≡ folded (get_or (get_or records i []) 3 0))
        (new : ℕ) (en : new ≡ labelled (eqb k' 8) (row names x') l') (second : Bool) (es : second ≡ second_label (row names x') new) where
      byte_is : (j : ℕ) → j < 4 → get_or (get_or records i []) j 0 ≡ get_or file (i * 4 + j) 0
      byte_is j l = ap (λ (r : List (List ℕ)). get_or (get_or r i []) j 0) cut ∙ byte_of (length file / 4) file i j h l

      kind_is : k' ≡ k
      kind_is = ek ∙ rw (byte_is 0 (omega arith), add-zero) (mod-eq_of_lt (let m = good.most in omega arith))

      left_is : x' ≡ x
      left_is = ex ∙ rw (byte_is 1 (omega arith)) (mod-eq_of_lt x_small)

      right_is : y' ≡ y
      right_is = ey ∙ rw (byte_is 2 (omega arith)) (mod-eq_of_lt y_small)

      name_is : l' ≡ folded l
      name_is = el ∙ rw (byte_is 3 (omega arith))

      new_is : new ≡ labelled (eqb k 8) (row names x) (folded l)
      new_is = en ∙ rw (kind_is, left_is, name_is)

      second_is : second ≡ second_label (row names x) (labelled (eqb k 8) (row names x) (folded l))
      second_is = es ∙ rw (new_is, left_is)

      pub seeding_step : second ≡ false → (r₁ c₁ : ℕ) → r₁ ≡ 2 ^ y' → c₁ ≡ 2 ^ x'
          → Seeding cs (i + 1) (set rows (k' * 16 + x') (bit_or (row rows (k' * 16 + x')) r₁))
          (set columns (k' * 16 + y') (bit_or (row columns (k' * 16 + y')) c₁)) (set names x' new)
      seeding_step free r₁ c₁ e₁ e₂ = rw (e₁, e₂, new_is, kind_is, left_is, right_is) (next (sym second_is ∙ free))

      pub seeding_clash : second ≡ true → GivesTwoLabels (facts_of cs)
      seeding_clash q = two_labels cs i d (good_at file cs e i h).2 k x y l good x_small names s.labels (sym second_is ∙ q)
