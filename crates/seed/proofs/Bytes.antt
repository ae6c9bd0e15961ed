-- What the questions leave to be relied on in the bytes of one record.
use mathlib.Core.Path.{◌≡◌, refl, sym, subst}
use mathlib.Core.Logic.{◌≢◌}
use Prim.Native.Nat.{ℕ, ◌≤◌}
use native.Mathlib.Omega.{arith}
use Rattle.meaning.specs.Constraint.{Constraint, is_child, is_below, is_strictly_below, is_same, is_differ, is_root, is_leaf, is_label, is_before}
use Rattle.meaning.specs.Marking.{kind}
use Rattle.meaning.specs.Files.{Quad, quad, quad_of, good, judge_record}
use Rattle.meaning.proofs.Records.{Askable, kind_most, kind_first, spelt}
use Rattle.seed.proofs.Codes.{left, right, name}

-- the record's bytes are the numbers of its constraint
pub record GoodBytes (k x y l : ℕ) (c : Constraint) : Type 0 where
  pub most : k ≤ 9
  pub is_number : kind c ≡ k
  pub is_left : left c ≡ x
  pub is_right : right c ≡ y
  pub named_label : k ≡ 8 → (c ≡ is_label x l) × (l ≢ 0)

abbrev OfRecord : Quad → Constraint → Type 0
OfRecord q c = GoodBytes q.first q.second q.third q.fourth c

-- only a label record begins with 8
label_first : (c : Constraint) → Askable c → (quad_of c).first ≡ 8 → (c ≡ is_label (left c) (name c)) × (name c ≢ 0)
label_first (is_label x l) a e = let h : 1 ≤ l = a.labelled in (refl, λ z. omega arith)
label_first (is_child x y) a e = absurd (omega arith)
label_first (is_below x y) a e = absurd (omega arith)
label_first (is_strictly_below x y) a e = absurd (omega arith)
label_first (is_same x y) a e = absurd (omega arith)
label_first (is_differ x y) a e = absurd (omega arith)
label_first (is_root x) a e = absurd (omega arith)
label_first (is_leaf x) a e = absurd (omega arith)
label_first (is_before x y) a e = absurd (omega arith)

of_record : (c : Constraint) → Askable c → OfRecord (quad_of c) c
of_record c a = record { most = kind_most c; is_number = kind_first c; is_left = refl; is_right = refl; named_label = label_first c a }

pub good_bytes : (k x y l : ℕ) {c : Constraint} → judge_record k x y l ≡ good c → GoodBytes k x y l c
good_bytes k x y l {c} e = let s = spelt (quad k x y l) e in subst (λ (q : Quad). OfRecord q c) (sym s.0) (of_record c s.1)
