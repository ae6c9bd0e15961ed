-- A constraint file is its records: it is accepted, as the constraints cs, exactly when it has at most 1,024 bytes, whole records, and these
-- are the records of cs, whose variables are at most 15 and whose labels are at least 1. So an accepted file's constraints give its bytes.
use mathlib.Core.Path.{◌≡◌, refl, sym, ap, ◌∙◌, subst}
use mathlib.Core.Logic.{⊎_elim}
use mathlib.Core.Bool.{Bool, true, false}
use mathlib.Core.List.Memᴰ
use mathlib.Core.List.{List, [], ◌∷◌, ◌++◌, map, Memᴰ}
use Prim.Native.Nat.{ℕ, suc, max, ◌*◌, ◌/◌, ◌%◌, ◌≤◌, ◌<◌}
use native.Mathlib.Decide.{dec_le}
use native.Mathlib.Omega.{arith}
use lib.ListN.{length, length-map}
use lib.Dec.{leb, eqb}
use Rattle.meaning.specs.Tree.{Var}
use Rattle.meaning.specs.Constraint.{Constraint, is_child, is_below, is_strictly_below, is_same, is_differ, is_root, is_leaf, is_label, is_before, named, vars}
use Rattle.meaning.specs.Marking.{kind}
use Rattle.meaning.specs.Finite.{Yes, pick, ◌and◌}
use Rattle.meaning.specs.Files.{Quad, quad, quads, Whole, quad_of, JudgedRecord, bad, good, judge_pair, judge_single, judge_label, judge_record, Judged, refused, accepted, with_rest, judge_records, Spells, judge}
use Rattle.meaning.proofs.Tests.{and_left, and_right, and_both, pick_yes, pick_no, pick_has, is_eq, eq_yes, is_le, le_yes}
use Rattle.meaning.proofs.Constraints.{OnLabelOf, vars_least}

-- ---- at the limits of questions 3 to 6, by computing: a limit that is changed shows as its number

before_passes : judge_record 9 0 1 0 ≡ good (is_before 0 1)
unfolding judge_record judge_pair pick ◌and◌
before_passes = refl

before_label_refused : judge_record 9 0 1 1 ≡ bad 6
unfolding judge_record judge_pair pick ◌and◌
before_label_refused = refl

kind_10_refused : judge_record 10 0 0 0 ≡ bad 3
unfolding judge_record pick
kind_10_refused = refl

variable_15_passes : judge_record 7 15 0 0 ≡ good (is_leaf 15)
unfolding judge_record judge_single pick ◌and◌
variable_15_passes = refl

variable_16_refused : judge_record 7 16 0 0 ≡ bad 4
unfolding judge_record judge_single pick ◌and◌
variable_16_refused = refl

label_1_passes : judge_record 8 0 0 1 ≡ good (is_label 0 1)
unfolding judge_record judge_label pick
label_1_passes = refl

label_0_refused : judge_record 8 0 0 0 ≡ bad 5
unfolding judge_record judge_label pick
label_0_refused = refl

-- y is no variable of a root: 6, not 4
unused_16_refused : judge_record 6 0 16 0 ≡ bad 6
unfolding judge_record judge_single pick ◌and◌
unused_16_refused = refl

same_spelt : judge_record 4 0 1 0 ≡ good (is_same 0 1)
unfolding judge_record judge_pair pick ◌and◌
same_spelt = refl

same_record : quad_of (is_same 0 1) ≡ quad 4 0 1 0
same_record = refl

-- ---- one record

-- its variables are at most 15, and a label is not blank
pub record Askable (c : Constraint) : Type 0 where
  pub few : named c ≤ 16
  pub labelled : OnLabelOf (λ l. 1 ≤ l) c

-- the number of a question that is not the first
abbrev Number : ℕ → Type 0
Number p = Yes (leb 2 p and leb p 6)

-- what the questions make of the record: such a number, or the constraint whose record it is
abbrev Read : Quad → JudgedRecord → Type 0
Read q (bad p) = Number p
Read q (good c) = (q ≡ quad_of c) × Askable c

pub quad_eq : {k x y l i u v m : ℕ} → k ≡ i → x ≡ u → y ≡ v → l ≡ m
    → quad k x y l ≡ quad i u v m
quad_eq a b c d = cc

module _ (q : Quad) where
  pair_read : (k : Var → Var → Constraint) (x y l : ℕ) → (x ≤ 15 → y ≤ 15 → l ≡ 0 → Read q (good (k x y))) → Read q (judge_pair k x y l)
  unfolding judge_pair ◌and◌
  pair_read k x y l f = pick_has (Read q) _ _ _ (λ t. pick_has (Read q) _ _ _ (λ z. f (is_le (and_left _ t)) (is_le (and_right (leb x 15) t)) (is_eq z)) refl) refl

  single_read : (k : Var → Constraint) (x y l : ℕ) → (x ≤ 15 → y ≡ 0 → l ≡ 0 → Read q (good (k x))) → Read q (judge_single k x y l)
  unfolding judge_single ◌and◌
  single_read k x y l f = pick_has (Read q) _ _ _ (λ t. pick_has (Read q) _ _ _ (λ z. f (is_le t) (is_eq (and_left _ z)) (is_eq (and_right (eqb y 0) z))) refl) refl

  label_read : (x y l : ℕ) → (x ≤ 15 → 1 ≤ l → y ≡ 0 → Read q (good (is_label x l))) → Read q (judge_label x y l)
  unfolding judge_label ◌and◌
  label_read x y l f = pick_has (Read q) _ _ _ (λ t. pick_has (Read q) _ _ _ (λ h. pick_has (Read q) _ _ _ (λ z. f (is_le t) (is_le h) (is_eq z)) refl) refl) refl

record_read : (q : Quad) → Read q (judge_record q.first q.second q.third q.fourth)
unfolding judge_record named ◌and◌
record_read q =
    pick_has (Read q) _ _ _ (λ t. pair_read q is_child _ _ _ (λ a b z. (quad_eq (is_eq t) refl refl z, record { few = omega arith; labelled = tt })))
    (pick_has (Read q) _ _ _ (λ t. pair_read q is_below _ _ _ (λ a b z. (quad_eq (is_eq t) refl refl z, record { few = omega arith; labelled = tt })))
    (pick_has (Read q) _ _ _ (λ t. pair_read q is_strictly_below _ _ _ (λ a b z. (quad_eq (is_eq t) refl refl z, record { few = omega arith; labelled = tt })))
    (pick_has (Read q) _ _ _ (λ t. pair_read q is_same _ _ _ (λ a b z. (quad_eq (is_eq t) refl refl z, record { few = omega arith; labelled = tt })))
    (pick_has (Read q) _ _ _ (λ t. pair_read q is_differ _ _ _ (λ a b z. (quad_eq (is_eq t) refl refl z, record { few = omega arith; labelled = tt })))
    (pick_has (Read q) _ _ _ (λ t. single_read q is_root _ _ _ (λ a y z. (quad_eq (is_eq t) refl y z, record { few = omega arith; labelled = tt })))
    (pick_has (Read q) _ _ _ (λ t. single_read q is_leaf _ _ _ (λ a y z. (quad_eq (is_eq t) refl y z, record { few = omega arith; labelled = tt })))
    (pick_has (Read q) _ _ _ (λ t. label_read q _ _ _ (λ a h y. (quad_eq (is_eq t) refl y refl, record { few = omega arith; labelled = h })))
    (pick_has (Read q) _ _ _ (λ t. pair_read q is_before _ _ _ (λ a b z. (quad_eq (is_eq t) refl refl z, record { few = omega arith; labelled = tt }))) refl))))))))

pub kind_most : (c : Constraint) → (quad_of c).first ≤ 9
kind_most (is_child x y) = omega arith
kind_most (is_below x y) = omega arith
kind_most (is_strictly_below x y) = omega arith
kind_most (is_same x y) = omega arith
kind_most (is_differ x y) = omega arith
kind_most (is_root x) = omega arith
kind_most (is_leaf x) = omega arith
kind_most (is_label x l) = omega arith
kind_most (is_before x y) = omega arith

-- it begins with the constraint's kind
pub kind_first : (c : Constraint) → kind c ≡ (quad_of c).first
unfolding kind
kind_first (is_child x y) = refl
kind_first (is_below x y) = refl
kind_first (is_strictly_below x y) = refl
kind_first (is_same x y) = refl
kind_first (is_differ x y) = refl
kind_first (is_root x) = refl
kind_first (is_leaf x) = refl
kind_first (is_label x l) = refl
kind_first (is_before x y) = refl

-- it names the variables up to the higher of its second and third byte: an unused one is 0
pub named_record : (c : Constraint) → named c ≡ suc (max (quad_of c).second (quad_of c).third)
unfolding named
named_record (is_child x y) = refl
named_record (is_below x y) = refl
named_record (is_strictly_below x y) = refl
named_record (is_same x y) = refl
named_record (is_differ x y) = refl
named_record (is_root x) = omega arith
named_record (is_leaf x) = omega arith
named_record (is_label x l) = omega arith
named_record (is_before x y) = refl

-- a record that passes is that of the constraint it spells, which can be asked
pub spelt : (q : Quad) {c : Constraint} → Spells q c → (q ≡ quad_of c) × Askable c
spelt q {c} e = subst (Read q) e (record_read q)

pub spells_kind : (q : Quad) {c : Constraint} → Spells q c → q.first ≤ 9
spells_kind q {c} e = subst (λ (p : Quad). p.first ≤ 9) (sym (spelt q e).0) (kind_most c)

-- and the record of a constraint that can be asked spells it
pair_good : (k : Var → Var → Constraint) (x y : Var) → suc (max x y) ≤ 16 → judge_pair k x y 0 ≡ good (k x y)
unfolding judge_pair pick
pair_good k x y l = let p : x ≤ 15 = omega arith in let q : y ≤ 15 = omega arith in pick_yes _ _ (and_both (le_yes p) (le_yes q))

single_good : (k : Var → Constraint) (x : Var) → suc x ≤ 16 → judge_single k x 0 0 ≡ good (k x)
unfolding judge_single pick ◌and◌
single_good k x l = let p : x ≤ 15 = omega arith in pick_yes _ _ (le_yes p)

label_good : (x l : ℕ) → suc x ≤ 16 → 1 ≤ l → judge_label x 0 l ≡ good (is_label x l)
unfolding judge_label pick
label_good x l h k = let p : x ≤ 15 = omega arith in pick_yes _ _ (le_yes p) ∙ pick_yes _ _ (le_yes k)

pub spells : (c : Constraint) → Askable c → Spells (quad_of c) c
unfolding judge_record named pick
spells (is_child x y) a = pair_good is_child x y a.few
spells (is_below x y) a = pair_good is_below x y a.few
spells (is_strictly_below x y) a = pair_good is_strictly_below x y a.few
spells (is_same x y) a = pair_good is_same x y a.few
spells (is_differ x y) a = pair_good is_differ x y a.few
spells (is_root x) a = single_good is_root x a.few
spells (is_leaf x) a = single_good is_leaf x a.few
spells (is_label x l) a = label_good x l a.few a.labelled
spells (is_before x y) a = pair_good is_before x y a.few

-- ---- the records of a file

pub quads_length : (bs : List ℕ) → Whole bs → 4 * length (quads bs) ≡ length bs
unfolding quads
quads_length [] w = refl
quads_length (a ∷ []) w = absurd (omega arith)
quads_length (a ∷ b ∷ []) w = absurd (omega arith)
quads_length (a ∷ b ∷ c ∷ []) w = absurd (omega arith)
quads_length (a ∷ b ∷ c ∷ d ∷ bs) w = let e = quads_length bs (omega arith) in omega arith

-- as many records as fours of bytes
pub length_quads : (bs : List ℕ) → length (quads bs) ≡ length bs / 4
unfolding quads
length_quads [] = refl
length_quads (a ∷ []) = refl
length_quads (a ∷ b ∷ []) = refl
length_quads (a ∷ b ∷ c ∷ []) = refl
length_quads (a ∷ b ∷ c ∷ d ∷ bs) = omega (arith, length_quads bs)

pub quads_append : (bs cs : List ℕ) → Whole bs → quads (bs ++ cs) ≡ quads bs ++ quads cs
unfolding quads
quads_append [] cs w = refl
quads_append (a ∷ []) cs w = absurd (omega arith)
quads_append (a ∷ b ∷ []) cs w = absurd (omega arith)
quads_append (a ∷ b ∷ c ∷ []) cs w = absurd (omega arith)
quads_append (a ∷ b ∷ c ∷ d ∷ bs) cs w = ap (λ (qs : List Quad). quad a b c d ∷ qs) (quads_append bs cs (omega arith))

-- these are the records of cs
pub record RecordsOf (qs : List Quad) (cs : List Constraint) : Type 0 where
  pub records : qs ≡ map quad_of cs
  pub askable : (c : Constraint) → Memᴰ c cs → Askable c

abbrev ReadAll : List Quad → Judged → Type 0
ReadAll qs (refused p) = Number p
ReadAll qs (accepted cs) = RecordsOf qs cs

before_read : (q : Quad) (qs : List Quad) (r : JudgedRecord) (j : Judged) → Read q r → ReadAll qs j → ReadAll (q ∷ qs) (with_rest r j)
unfolding with_rest
before_read q qs (bad p) j f g = f
before_read q qs (good c) (refused p) f g = g
before_read q qs (good c) (accepted cs) f g = record {
  records = ap (λ (r : Quad). r ∷ qs) f.0 ∙ ap (λ (rs : List Quad). quad_of c ∷ rs) g.records;
  askable = λ d m. ⊎_elim (λ e. subst Askable (sym e) f.1) (g.askable d) (Memᴰ.cases_cons m);
}

records_read : (bs : List ℕ) → ReadAll (quads bs) (judge_records bs)
unfolding judge_records quads ◌and◌
records_read [] = record { records = refl; askable = λ c m. absurd (Memᴰ.not-nil m) }
records_read (k ∷ []) = refl
records_read (k ∷ x ∷ []) = refl
records_read (k ∷ x ∷ y ∷ []) = refl
records_read (k ∷ x ∷ y ∷ l ∷ bs) = before_read _ (quads bs) _ (judge_records bs) (record_read _) (records_read bs)

pub records_accepted : (bs : List ℕ) (cs : List Constraint) → Whole bs → RecordsOf (quads bs) cs → judge_records bs ≡ accepted cs
unfolding judge_records quads with_rest
records_accepted [] [] w r = refl
records_accepted [] (c ∷ cs) w r = let e = r.records in let z : ◌≡◌ {A = ℕ} 0 1 = cc in absurd (omega arith)
records_accepted (k ∷ []) cs w r = absurd (omega arith)
records_accepted (k ∷ x ∷ []) cs w r = absurd (omega arith)
records_accepted (k ∷ x ∷ y ∷ []) cs w r = absurd (omega arith)
records_accepted (k ∷ x ∷ y ∷ l ∷ bs) [] w r = let e = r.records in let z : ◌≡◌ {A = ℕ} 0 1 = cc in absurd (omega arith)
records_accepted (k ∷ x ∷ y ∷ l ∷ bs) (c ∷ cs) w r =
    let e = r.records in
    let h : quad_of c ≡ quad k x y l = cc in
    let t : map quad_of cs ≡ quads bs = cc in
    let s : judge_record k x y l ≡ good c = subst (λ (q : Quad). Spells q c) h (spells c (r.askable c (Memᴰ.head refl))) in
    ap (λ (j : JudgedRecord). with_rest j (judge_records bs)) s
    ∙ ap (with_rest (good c)) (records_accepted bs cs (omega arith) (record { records = sym t; askable = λ d m. r.askable d (Memᴰ.tail m) }))

-- ---- the file

-- it is the constraint file of cs
pub record FileOf (file : List ℕ) (cs : List Constraint) : Type 0 where
  pub short : length file ≤ 1024
  pub whole : Whole file
  pub of : RecordsOf (quads file) cs

pub file_accepted : {file : List ℕ} {cs : List Constraint} → FileOf file cs → judge file ≡ accepted cs
unfolding judge
file_accepted {file} {cs} f = pick_yes _ _ (le_yes f.short) ∙ pick_yes _ _ (eq_yes f.whole) ∙ records_accepted file cs f.whole f.of

passed : (b : Bool) (j : Judged) (q : ℕ) {cs : List Constraint} → pick b j (refused q) ≡ accepted cs → Yes b × (j ≡ accepted cs)
unfolding pick
passed true j q e = (refl, e)
passed false j q e = let z : ◌≡◌ {A = ℕ} 0 1 = cc in absurd (omega arith)

pub accepted_file : {file : List ℕ} {cs : List Constraint} → judge file ≡ accepted cs → FileOf file cs
unfolding judge
accepted_file {file} e =
    let a = passed (leb (length file) 1024) _ _ e in
    let b = passed (eqb (length file % 4) 0) _ _ a.1 in
    record { short = is_le a.0; whole = is_eq b.0; of = subst (ReadAll (quads file)) b.1 (records_read file) }

-- 1 is said of a file that is too long, and of no other
pub long_refused : (file : List ℕ) → 1024 < length file → judge file ≡ refused 1
unfolding judge
long_refused file l = pick_no _ _ (λ y. let h : length file ≤ 1024 = is_le y in omega arith)

short_read : (file : List ℕ) → length file ≤ 1024 → ReadAll (quads file) (judge file)
unfolding judge ◌and◌
short_read file l = subst (ReadAll (quads file)) (sym (pick_yes _ _ (le_yes l))) (pick_has (ReadAll (quads file)) _ _ _ (λ y. records_read file) refl)

pub refused_long : (file : List ℕ) → judge file ≡ refused 1 → 1024 < length file
refused_long file e = go (dec_le (length file) 1024)
  where
    go : Dec (length file ≤ 1024) → 1024 < length file
    go (yes l) = let h : Number 1 = subst (ReadAll (quads file)) e (short_read file l) in let k : 2 ≤ 1 = is_le (and_left _ h) in absurd (omega arith)
    go (no l) = omega arith

-- any other number is a record's
pub refused_records : (file : List ℕ) {q : ℕ} → Whole file → judge file ≡ refused q → ¬ (q ≡ 1) → judge_records file ≡ refused q
unfolding judge
refused_records file {q} w e n = go (dec_le (length file) 1024)
  where
    go : Dec (length file ≤ 1024) → judge_records file ≡ refused q
    go (yes l) = sym (pick_yes _ _ (eq_yes w)) ∙ sym (pick_yes _ _ (le_yes l)) ∙ e
    go (no l) = let h = long_refused file (omega arith) in let z : 1 ≡ q = cc in absurd (n (sym z))

-- questions 1 to 6 have no other number
pub refused_small : (file : List ℕ) {q : ℕ} → judge file ≡ refused q → q ≤ 6
refused_small file {q} e = go (dec_le (length file) 1024)
  where
    go : Dec (length file ≤ 1024) → q ≤ 6
    go (yes l) = let h : Number q = subst (ReadAll (quads file)) e (short_read file l) in is_le (and_right (leb 2 q) h)
    go (no l) = let h = long_refused file (omega arith) in let z : 1 ≡ q = cc in omega arith

-- what questions 1 to 6 leave of an accepted file
module _ {file : List ℕ} {cs : List Constraint} (f : FileOf file cs) where
  pub file_vars : vars cs ≤ 16
  file_vars = vars_least 16 cs (λ c m. (f.of.askable c m).few)

  pub constraints_length : 4 * length cs ≡ length file
  constraints_length = ap (λ (k : ℕ). 4 * k) (sym (length-map cs quad_of) ∙ ap length (sym f.of.records)) ∙ quads_length file f.whole
