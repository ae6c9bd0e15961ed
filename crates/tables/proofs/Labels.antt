-- What a label fact says of the table of labels, and what is found of the labels of the rows named.
use mathlib.Core.Path.{◌≡◌, refl}
use mathlib.Core.Logic.{◌≢◌, ⊎_elim}
use mathlib.Core.List.{List}
use Prim.Native.Nat.{ℕ}
use Rattle.meaning.specs.Constraint.{label}
use Rattle.meaning.specs.Finite.{Yes}
use Rattle.meaning.proofs.Tests.{clash, and_left, and_right, and_both, no_neg, is_eq, eq_yes}
use Rattle.rowbits.specs.Bit.{bit}
use Rattle.tables.specs.Tables.{row, has}
use Rattle.tables.specs.Rows.{Lowest, LabelOf}
use Rattle.tables.specs.declared.Facts.{Facts}
use Rattle.tables.proofs.Members.{Passed, passed_all}

pub label_has : (g : Facts) (x l : ℕ) → row g.label x ≡ l → l ≢ 0 → Yes (has g (label x l))
unfolding has
label_has g x l e z = and_both (eq_yes e) (no_neg (λ u. z (is_eq u)))

pub label_is : (g : Facts) (x l : ℕ) → Yes (has g (label x l)) → (row g.label x ≡ l) × (l ≢ 0)
unfolding has
label_is g x l u = (is_eq (and_left _ u), λ e. clash (eq_yes e) (and_right _ u))

abbrev pub Unlabelled : List ℕ → ℕ → Type 0
Unlabelled t i = row t i ≡ 0

pub is_label : (t : List ℕ) (rows rest x : ℕ) → Passed (Unlabelled t) rows rest → Lowest rest x → Yes (bit rows x) → row t x ≢ 0 → LabelOf t rows (row t x)
is_label t rows rest x w low u n = record {
  none = λ z. absurd (n z);
  some = λ _. (x, u, refl, λ j l v. ⊎_elim (λ e. e) (λ k. absurd (low.none j l k)) (w.past j v));
}

pub no_label : (t : List ℕ) (rows rest : ℕ) → Passed (Unlabelled t) rows rest → rest ≡ 0 → LabelOf t rows 0
no_label t rows rest w z = record { none = λ _. passed_all _ rows rest w z; some = λ n. absurd (n refl) }
