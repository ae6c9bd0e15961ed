-- What the loops over the labels know after some rows: the labels of the rows named compared or painted; and what is spread over rows.
use mathlib.Core.Path.{◌≡◌, sym, ◌∙◌, subst}
use mathlib.Core.Logic.{◌≢◌, inl, inr, ⊎_elim}
use mathlib.Core.Bool.{false, false≢true, ◌&&◌, not}
use mathlib.Core.List.{List}
use Prim.Native.Nat.{ℕ, ◌^◌, ◌<◌}
use native.Mathlib.Decide.{ℕ_discrete}
use lib.Dec.{eqb}
use lib.ListN.{set, length, length-set}
use lib.Seq.{get_or-set_same, get_or-set_other}
use Rattle.meaning.specs.Finite.{Yes}
use Rattle.meaning.proofs.Tests.{yes_case, clash, is_eq, eq_yes, pick_yes, pick_no, not_yes}
use Rattle.rowbits.specs.Bit.{bit}
use Rattle.tables.specs.Tables.{row}
use Rattle.tables.specs.Rows.{without, Lowest, LabelOf, Raised}
use Rattle.tables.proofs.Members.{Passed, next_in_lem, next_named, passed_more, passed_all}
use Rattle.tables.proofs.Rises.{Rises, rises, raised_out, raised_keeps, raised_has}
use Rattle.grouping.specs.Rows.{TwoLabels, Painted, Spread}
use Rattle.tables.proofs.Tested.{yes_and, eq_not}

-- ---- labels

abbrev pub Only : List ℕ → ℕ → ℕ → Type 0
Only t l i = row t i ≢ 0 → row t i ≡ l

pub only_one : (t : List ℕ) (l x : ℕ) → (not (eqb (row t x) 0) && not (eqb (row t x) l)) ≡ false → Only t l x
only_one t l x e n = ⊎_elim is_eq (λ d. absurd (not_yes e (yes_and _ _ (eq_not (row t x) 0 n) (eq_not (row t x) l (λ b. clash (eq_yes b) d))))) (yes_case (eqb (row t x) l))

pub is_one : (t : List ℕ) (rows l rest : ℕ) → Passed (Only t l) rows rest → rest ≡ 0 → TwoLabels t rows l false
is_one t rows l rest w z = record { two = λ e. absurd (false≢true e); one = λ _. passed_all _ rows rest w z }

pub none_painted : (t : List ℕ) (rows l : ℕ) → LabelOf t rows l → l ≡ 0 → Painted t rows l t
none_painted t rows l o z = record {
  paints = λ i. ⊎_elim
      (λ y. o.none z i y ∙ sym z ∙ sym (pick_yes l (row t i) y))
      (λ y. sym (pick_no l (row t i) (λ u. clash u y))) (yes_case (bit rows i));
}

pub record Painting (t : List ℕ) (rows l : ℕ) (a : List ℕ) (rest : ℕ) : Type 0 where
  pub long : length a ≡ 16
  pub passed : Passed (λ i. row a i ≡ l) rows rest
  pub kept : (i : ℕ) → ¬ Yes (bit rows i) → row a i ≡ row t i

pub painting_more : (t : List ℕ) (rows l : ℕ) (a : List ℕ) (rest x : ℕ) → Painting t rows l a rest → rest ≢ 0 → Lowest rest x
    → Painting t rows l (set a x l) (without rest (2 ^ x))
painting_more t rows l a rest x w some low = record {
  long = length-set a x l ∙ w.long;
  passed = passed_more _ rows rest x w.passed some low _ (λ i p. up i p (ℕ_discrete i x)) here;
  kept = λ i n. get_or-set_other a x i l 0 (λ e. n (subst (λ (k : ℕ). Yes (bit rows k)) (sym e) (next_named _ rows rest x w.passed some low))) ∙ w.kept i n;
}
  where
    here : row (set a x l) x ≡ l
    here = get_or-set_same a x l 0 (rw w.long (next_in_lem _ rows rest x w.passed some low))

    up : (i : ℕ) → row a i ≡ l → Dec (i ≡ x) → row (set a x l) i ≡ l
    up i p (yes e) = subst (λ (k : ℕ). row (set a x l) k ≡ l) (sym e) here
    up i p (no e) = get_or-set_other a x i l 0 e ∙ p

pub was_painted : (t : List ℕ) (rows l : ℕ) (a : List ℕ) (rest : ℕ) → Painting t rows l a rest → rest ≡ 0 → Painted t rows l a
was_painted t rows l a rest w z = record {
  paints = λ i. ⊎_elim
      (λ y. passed_all _ rows rest w.passed z i y ∙ sym (pick_yes l (row t i) y))
      (λ y. w.kept i (λ u. clash u y) ∙ sym (pick_no l (row t i) (λ u. clash u y))) (yes_case (bit rows i));
}

-- ---- a group spread over rows and columns

pub record RaisedTwice (t : List ℕ) (group along across : ℕ) (r : List ℕ) : Type 0 where
  pub half : List ℕ
  pub first : Raised t group along half
  pub last : Raised half across group r

pub was_spread : {t : List ℕ} {group along across : ℕ} {r : List ℕ} → group < 65536 → across < 65536 → RaisedTwice t group along across r → Spread t group along across r
was_spread {t} {group} {along} {across} {r} small over h = record {
  out = λ i j u. ⊎_elim (λ v. ⊎_elim inl (λ w. inr (inl w)) (raised_out t group along h.half a i j v)) (λ v. inr (inr v)) (raised_out h.half across group r b i j u);
  keeps = λ i j u. raised_keeps h.half across group r b i j (raised_keeps t group along h.half a i j u);
  rows = λ i j u v. raised_keeps h.half across group r b i j (raised_has t group along h.half a i j u v);
  columns = λ i j u v. raised_has h.half across group r b i j u v;
}
  where
    a : Rises t group along h.half
    a = rises small h.first

    b : Rises h.half across group r
    b = rises over h.last
