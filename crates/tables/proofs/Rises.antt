-- What a raised table holds, row by row.
use mathlib.Core.Path.{◌≡◌, refl, sym, ◌∙◌, subst}
use mathlib.Core.Logic.{◌⊎◌, ⊎_elim}
use mathlib.Core.Bool.{Bool, true, false}
use mathlib.Core.List.{List}
use Prim.Native.Nat.{ℕ, ◌<◌, ◌≤◌}
use native.Mathlib.Decide.{dec_lt}
use native.Mathlib.Omega.{arith}
use Rattle.meaning.specs.Finite.{Yes}
use Rattle.meaning.proofs.Tests.{yes_eq}
use Rattle.rowbits.specs.Bit.{bit}
use Rattle.tables.specs.Tables.{row, Columns}
use Rattle.tables.specs.Rows.{gained, Raised}
use Rattle.tables.proofs.Helpers.{gain_off}
use Rattle.tables.proofs.Bits.{gained_up, gained_has, gained_case, in_row}

-- one equation holds of every row, since no row is named past the last
pub record Rises (t : List ℕ) (rows by : ℕ) (r : List ℕ) : Type 0 where
  pub at : (i : ℕ) → row r i ≡ gained (bit rows i) (row t i) by

pub rises : {t : List ℕ} {rows by : ℕ} {r : List ℕ} → rows < 65536 → Raised t rows by r → Rises t rows by r
rises {t} {rows} {by} {r} small h = record { at = λ i. go i (dec_lt i 16) }
  where
    out : (i : ℕ) (b : Bool) → bit rows i ≡ b → 16 ≤ i → row t i ≡ gained b (row t i) by
    out i true e l = absurd (let k = in_row rows i small e in omega arith)
    out i false e l = gain_off false (row t i) by refl

    go : (i : ℕ) → Dec (i < 16) → row r i ≡ gained (bit rows i) (row t i) by
    go i (yes l) = h.within i l
    go i (no l) = h.beyond i (omega arith) ∙ out i (bit rows i) refl (omega arith)

module _ (t : List ℕ) (rows by : ℕ) (r : List ℕ) (h : Rises t rows by r) (i j : ℕ) where
  pub raised_out : Yes (bit (row r i) j) → Yes (bit (row t i) j) ⊎ (Yes (bit rows i) × Yes (bit by j))
  raised_out u = gained_case (bit rows i) (row t i) by j (subst (λ (k : ℕ). Yes (bit k j)) (h.at i) u)

  pub raised_keeps : Yes (bit (row t i) j) → Yes (bit (row r i) j)
  raised_keeps u = subst (λ (k : ℕ). Yes (bit k j)) (sym (h.at i)) ((gained_up (bit rows i) (row t i) by).kept j u)

  pub raised_has : Yes (bit rows i) → Yes (bit by j) → Yes (bit (row r i) j)
  raised_has u v = subst (λ (k : ℕ). Yes (bit k j)) (sym (h.at i)) (gained_has (bit rows i) (row t i) by j u v)

  pub raised_in : Yes (bit (row t i) j) ⊎ (Yes (bit rows i) × Yes (bit by j)) → Yes (bit (row r i) j)
  raised_in y = ⊎_elim raised_keeps (λ z. raised_has z.0 z.1) y

-- a table and its columns stay so if both are raised
pub columns_raised : (t r : List ℕ) (rows by : ℕ) (t' r' : List ℕ) → Columns t r → Rises t rows by t' → Rises r by rows r' → Columns t' r'
columns_raised t r rows by t' r' c h k x y lx ly =
    yes_eq _ _
    (λ u. ⊎_elim (λ a. raised_keeps t rows by t' h x y (sym (c x y lx ly) ∙ a)) (λ a. raised_has t rows by t' h x y a.1 a.0) (raised_out r by rows r' k y x u))
    (λ u. ⊎_elim (λ a. raised_keeps r by rows r' k y x (c x y lx ly ∙ a)) (λ a. raised_has r by rows r' k y x a.1 a.0) (raised_out t rows by t' h x y u))
