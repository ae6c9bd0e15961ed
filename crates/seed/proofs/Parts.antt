-- Unions of tables whose rows are known.
use mathlib.Core.Path.{ap, ◌∙◌}
use mathlib.Core.List.{List}
use Prim.Native.Nat.{ℕ}
use lib.Bits.{bit_or, or_zero_r}
use Rattle.tables.specs.Tables.{row}
use Rattle.tables.specs.Rows.{United}
use Rattle.seed.specs.Seeds.{RowsOf}

pub both_of : {g h : ℕ → ℕ} {t more r : List ℕ} → RowsOf g t → RowsOf h more → United t more r → RowsOf (λ x. bit_or (g x) (h x)) r
both_of {g} {h} {t} {more} a b w = record {
  within = λ x q. w.rows x ∙ ap (λ (v : ℕ). bit_or v (row more x)) (a.within x q) ∙ ap (bit_or (g x)) (b.within x q);
  beyond = λ x q. w.rows x ∙ ap (bit_or (row t x)) (b.beyond x q) ∙ or_zero_r (row t x) ∙ a.beyond x q;
}
