-- The records so far, gathered by kind as rows and as columns, and their labels: a bit or a label stands for a constraint of the file, and
-- each constraint is still to come or stands there, a label with its capital made small. Where a label stands and another one is given, the file
-- gives two.
use mathlib.Core.Path.{◌≡◌, refl, sym, ap, ◌∙◌, subst}
use mathlib.Core.Logic.{◌≢◌, ◌⊎◌, inl, inr, ⊎_elim}
use mathlib.Core.Bool.{Bool, true, false}
use mathlib.Core.List.Memᴰ
use mathlib.Core.List.{List, ◌∷◌, Memᴰ}
use Prim.Native.Nat.{ℕ, ◌+◌, ◌*◌, ◌^◌, ◌<◌}
use native.Mathlib.Decide.{ℕ_discrete}
use native.Mathlib.Omega.{arith}
use lib.Dec.{eqb}
use lib.Bits.{bit_or}
use lib.ListN.{length, set, drop, replicate, length-set, length-replicate, take-append-drop, take}
use lib.Seq.{get_or-set_same, get_or-set_other}
use Rattle.rowbits.specs.Bit.{bit}
use Rattle.meaning.specs.Tree.{folded}
use Rattle.meaning.specs.Constraint.{Constraint, is_label, label, facts_of}
use Rattle.meaning.specs.Marking.{kind}
use Rattle.meaning.specs.Finite.{Yes, neg, pick}
use Rattle.meaning.proofs.Labels.{folded_least}
use Rattle.meaning.proofs.Tests.{clash, and_left, and_right, and_both, no_neg, is_eq, eq_yes, yes_case, pick_yes, pick_no, not_yes}
use Rattle.tables.specs.Tables.{row}
use Rattle.tables.proofs.Bits.{or_case, or_l, or_r, one_is, one_has, none_in}
use Rattle.tables.proofs.Loops.{zeros}
use Rattle.seed.specs.Seeds.{labelled, second_label, GivesTwoLabels}
use Rattle.seed.proofs.Bytes.{GoodBytes}
use Rattle.seed.proofs.Codes.{left, name, Labelled, sourced}

-- ---- a bit more

module _ (t : List ℕ) (j y : ℕ) (long : length t ≡ 256) (h : j < 256) where
  abbrev more : List ℕ
  more = set t j (bit_or (row t j) (2 ^ y))

  here : row more j ≡ bit_or (row t j) (2 ^ y)
  here = get_or-set_same t j _ 0 (rw long h)

  more_has : Yes (bit (row more j) y)
  more_has = rw here (or_r (row t j) (2 ^ y) y (one_has y))

  more_kept : (u v : ℕ) → Yes (bit (row t u) v) → Yes (bit (row more u) v)
  more_kept u v b = go (ℕ_discrete u j)
    where
      go : Dec (u ≡ j) → Yes (bit (row more u) v)
      go (yes e) =
          subst (λ (i : ℕ). Yes (bit (row more i) v)) (sym e)
          (rw here (or_l (row t j) (2 ^ y) v (subst (λ (i : ℕ). Yes (bit (row t i) v)) e b)))
      go (no e) = subst (λ (i : ℕ). Yes (bit i v)) (sym (get_or-set_other t j u _ 0 e)) b

  more_from : (u v : ℕ) → Yes (bit (row more u) v) → Yes (bit (row t u) v) ⊎ ((j ≡ u) × (y ≡ v))
  more_from u v b = go (ℕ_discrete u j)
    where
      go : Dec (u ≡ j) → Yes (bit (row t u) v) ⊎ ((j ≡ u) × (y ≡ v))
      go (yes e) =
          ⊎_elim (λ w. inl (subst (λ (i : ℕ). Yes (bit (row t i) v)) (sym e) w)) (λ w. inr (sym e, sym (one_is y v w)))
          (or_case (row t j) (2 ^ y) v (subst (λ (i : ℕ). Yes (bit i v)) (ap (row more) e ∙ here) b))
      go (no e) = inl (subst (λ (i : ℕ). Yes (bit i v)) (get_or-set_other t j u _ 0 e) b)

-- ---- the records so far: constraint c is bit q c of row 16 times its kind and p c

pub record Gathered (cs : List Constraint) (i : ℕ) (p q : Constraint → ℕ) (t : List ℕ) : Type 0 where
  pub long : length t ≡ 256
  pub from : (u v : ℕ) → Yes (bit (row t u) v) → (c : Constraint) × Memᴰ c cs × (kind c * 16 + p c ≡ u) × (q c ≡ v)
  pub to : (c : Constraint) → Memᴰ c cs → Memᴰ c (drop i cs) ⊎ Yes (bit (row t (kind c * 16 + p c)) (q c))

pub record Labels (cs : List Constraint) (i : ℕ) (t : List ℕ) : Type 0 where
  pub long : length t ≡ 16
  pub from : (u m : ℕ) → row t u ≡ m → m ≢ 0 → Labelled cs u m
  pub to : (u l : ℕ) → Memᴰ (is_label u l) cs → Memᴰ (is_label u l) (drop i cs) ⊎ ((row t u ≡ folded l) × (folded l ≢ 0))

pub gathered_none : (cs : List Constraint) (p q : Constraint → ℕ) → Gathered cs 0 p q (replicate 256 0)
gathered_none cs p q = record { long = length-replicate {A = ℕ} 256 0; from = λ u v b. none_in v (rw (zeros 256 u) at b); to = λ c m. inl m }

pub labels_none : (cs : List Constraint) → Labels cs 0 (replicate 16 0)
labels_none cs = record { long = length-replicate {A = ℕ} 16 0; from = λ u m e z. absurd (z (sym e ∙ zeros 16 u)); to = λ u m k. inl k }

second_is : (b : Bool) (m l : ℕ) → Yes (second_label m (labelled b m l)) → Yes b × (m ≢ 0) × (m ≢ l)
unfolding second_label labelled pick
second_is true m l q = (refl, λ z. clash (eq_yes z) (and_left _ q), λ z. clash (eq_yes z) (and_right _ q))
second_is false m l q = absurd (clash (eq_yes {x = m} refl) (and_right _ q))

is_second : {b : Bool} {m l : ℕ} → Yes b → m ≢ 0 → m ≢ l → Yes (second_label m (labelled b m l))
unfolding second_label labelled
is_second q z d = and_both (no_neg (λ v. z (is_eq v))) (no_neg (λ v. d (is_eq v ∙ pick_yes _ _ q)))

-- ---- one record more

module _ (cs : List Constraint) (i : ℕ) (d : Constraint) (at : drop i cs ≡ d ∷ drop (i + 1) cs) where
  pub here_in : Memᴰ d cs
  here_in =
      subst (λ (q : List Constraint). Memᴰ d q) (take-append-drop i cs)
      (Memᴰ.append_right (take i cs) (rw at (Memᴰ.head refl)))

  next : (c : Constraint) → Memᴰ c (drop i cs) → (c ≡ d) ⊎ Memᴰ c (drop (i + 1) cs)
  next c m = Memᴰ.cases_cons (rw at at m)

  pub gathered_more : (p q : Constraint → ℕ) (t : List ℕ) (j v : ℕ) → kind d * 16 + p d ≡ j → q d ≡ v → j < 256 → Gathered cs i p q t
      → Gathered cs (i + 1) p q (set t j (bit_or (row t j) (2 ^ v)))
  gathered_more p q t j v a b h g = record {
    long = length-set t _ _ ∙ g.long;
    from = λ u v b'. ⊎_elim (g.from u v) (λ w. (d, here_in, a ∙ w.0, b ∙ w.1)) (more_from t _ _ g.long h u v b');
    to = λ c m. ⊎_elim (λ k. ⊎_elim (λ e. inr (subst Stands (sym e) (rw (a, b) (more_has t j v g.long h)))) inl (next c k))
        (λ b'. inr (more_kept t _ _ g.long h _ _ b')) (g.to c m);
  }
    where
      Stands : Constraint → Type 0
      Stands c = Yes (bit (row (set t j (bit_or (row t j) (2 ^ v))) (kind c * 16 + p c)) (q c))

  module _ (k x y l : ℕ) (w : GoodBytes k x y l d) (h : x < 16) (t : List ℕ) (s : Labels cs i t) where
    abbrev now : List ℕ
    now = set t x (labelled (eqb k 8) (row t x) (folded l))

    stored : row now x ≡ labelled (eqb k 8) (row t x) (folded l)
    stored = get_or-set_same t x _ 0 (rw s.long h)

    label_here : Yes (eqb k 8) → Memᴰ (is_label x l) cs
    label_here q = subst (λ (b : Constraint). Memᴰ b cs) (w.named_label (is_eq q)).0 here_in

    stored_new : Yes (eqb k 8) → row now x ≡ folded l
    unfolding labelled
    stored_new q = stored ∙ pick_yes _ _ q

    stored_old : Yes (neg (eqb k 8)) → row now x ≡ row t x
    unfolding labelled
    stored_old z = stored ∙ pick_no _ _ (λ q. clash q z)

    from_more : (u m : ℕ) → row now u ≡ m → m ≢ 0 → Labelled cs u m
    from_more u m e z = go (ℕ_discrete u x) (yes_case (eqb k 8))
      where
        go : Dec (u ≡ x) → Yes (eqb k 8) ⊎ Yes (neg (eqb k 8)) → Labelled cs u m
        go (no n) b = s.from u m (sym (get_or-set_other t x u _ 0 n) ∙ e) z
        go (yes a) (inl q) = (l, rw a (label_here q), sym (stored_new q) ∙ ap (row now) (sym a) ∙ e)
        go (yes a) (inr v) = s.from u m (ap (row t) a ∙ sym (stored_old v) ∙ ap (row now) (sym a) ∙ e) z

    module _ (free : second_label (row t x) (labelled (eqb k 8) (row t x) (folded l)) ≡ false) where
      kept : (u m : ℕ) → row t u ≡ m → m ≢ 0 → row now u ≡ m
      kept u m e z = go (ℕ_discrete u x) (yes_case (eqb k 8)) (ℕ_discrete (row t x) (folded l))
        where
          go : Dec (u ≡ x) → Yes (eqb k 8) ⊎ Yes (neg (eqb k 8)) → Dec (row t x ≡ folded l) → row now u ≡ m
          go (no n) b f = get_or-set_other t x u _ 0 n ∙ e
          go (yes a) (inl q) (yes f) = ap (row now) a ∙ stored_new q ∙ sym f ∙ ap (row t) (sym a) ∙ e
          go (yes a) (inl q) (no f) = absurd (not_yes free (is_second q (λ v. z (sym e ∙ ap (row t) a ∙ v)) f))
          go (yes a) (inr v) f = ap (row now) a ∙ stored_old v ∙ ap (row t) (sym a) ∙ e

      this : (u m : ℕ) → is_label u m ≡ d → (row now u ≡ folded m) × (folded m ≢ 0)
      unfolding kind
      this u m e =
          let eight : k ≡ 8 = sym w.is_number ∙ ap kind (sym e) in
          let g = w.named_label eight in
          let a : u ≡ x = ap left (e ∙ g.0) in
          let b : m ≡ l = ap name (e ∙ g.0) in
          (ap (row now) a ∙ stored_new (eq_yes eight) ∙ ap folded (sym b), λ z. g.1 (let r = folded_least m in omega (arith, z, b, r)))

      pub labels_more : Labels cs (i + 1) now
      labels_more = record {
        long = length-set t _ _ ∙ s.long;
        from = from_more;
        to = λ u m n. ⊎_elim (λ b. ⊎_elim (λ e. inr (this u m e)) inl (next _ b)) (λ b. inr (kept u (folded m) b.0 b.1, b.1)) (s.to u m n);
      }

    pub two_labels : second_label (row t x) (labelled (eqb k 8) (row t x) (folded l)) ≡ true → GivesTwoLabels (facts_of cs)
    two_labels q = let v = second_is (eqb k 8) (row t x) (folded l) q in record {
      variable = x;
      one = row t x;
      other = folded l;
      gives_one = sourced cs (label x _) (s.from x _ refl v.1);
      gives_other = sourced cs (label x (folded l)) (l, label_here v.0, refl);
      unlike = v.2;
    }
