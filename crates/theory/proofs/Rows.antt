-- A table by computing: if computing gives what the rows state, then whatever follows of a row from that holds of every row.
use mathlib.Core.Path.{◌≡◌, sym, subst}
use mathlib.Core.Logic.{⊎_elim}
use mathlib.Core.List.Memᴰ
use mathlib.Core.List.{List, [], ◌∷◌, map, Memᴰ}

module _ {Row Answer : Type 0} (computed stated : Row → Answer) (Holds : Row → Type 0) (holds : (row : Row) → computed row ≡ stated row → Holds row) where
  pub rows_hold : (rows : List Row) → map computed rows ≡ map stated rows → (row : Row) → Memᴰ row rows → Holds row
  rows_hold [] e row m = absurd (Memᴰ.not-nil m)
  rows_hold (row ∷ rows) e this m = ⊎_elim (λ (same : this ≡ row). subst Holds (sym same) (holds row (cc))) (rows_hold rows (cc) this) (Memᴰ.cases_cons m)
