-- The layers as rows: one variable more goes into the layer of its depth, if it is the lowest of its group.
use mathlib.Core.Path.{◌≡◌, refl, sym, ap, ◌∙◌, subst}
use mathlib.Core.Bool.{Bool, false}
use mathlib.Core.List.{List}
use Prim.Native.Nat.{ℕ, ◌+◌, ◌^◌, ◌<◌}
use native.Mathlib.Decide.{ℕ_discrete}
use native.Mathlib.Omega.{arith}
use lib.ListN.{length, set, replicate, get_or-replicate}
use lib.Seq.{get_or-set_same, get_or-set_other}
use Rattle.meaning.specs.Finite.{◌and◌}
use Rattle.meaning.specs.ReadOff.{depth}
use Rattle.meaning.proofs.Tests.{eq_yes, is_eq, yes_not}
use Rattle.rowbits.specs.Bit.{bit}
use Rattle.tables.specs.Rows.{gained_one}
use Rattle.tables.proofs.Helpers.{gain_off}
use Rattle.tables.specs.Tables.{row}
use Rattle.ordering.specs.Rows.{Gathered, deep, in_layer}
use Rattle.ordering.proofs.Bits.{and_true, and_false, gather_none, gather_more}

module _ (t u : List ℕ) (n lows : ℕ) where
  abbrev pub Layered : ℕ → List ℕ → Type 0
  Layered x rows = (d : ℕ) → d < 17 → Gathered x (in_layer t u n lows d) (row rows d)

  pub layered_none : Layered 0 (replicate 17 0)
  layered_none d h = subst (Gathered 0 _) (sym (get_or-replicate 17 d 0 0 h)) (gather_none _)

  pub layered_more : (x depth v : ℕ) (s : Bool) (rows : List ℕ) → length rows ≡ 17 → depth ≡ deep t u n lows x
      → s ≡ bit lows x → v ≡ gained_one s (row rows depth) x → Layered x rows → Layered (x + 1) (set rows depth v)
  unfolding in_layer gained_one
  layered_more x depth v s rows long e l w g d h = go (ℕ_discrete d depth)
    where
      go : Dec (d ≡ depth) → Gathered (x + 1) (in_layer t u n lows d) (row (set rows depth v) d)
      go (yes q) =
          gather_more (in_layer t u n lows d) x (row rows d) (row (set rows depth v) d) s
          (l ∙ sym (and_true (bit lows x)) ∙ ap (λ (b : Bool). bit lows x and b) (sym (eq_yes (sym e ∙ sym q))))
          (ap (row (set rows depth v)) q ∙ get_or-set_same rows depth v 0 (omega arith) ∙ w ∙ ap (λ (i : ℕ). gained_one s (row rows i) x) (sym q))
          (g d h)
      go (no q) =
          gather_more (in_layer t u n lows d) x (row rows d) (row (set rows depth v) d) false
          (sym (and_false (bit lows x)) ∙ ap (λ (b : Bool). bit lows x and b) (sym (yes_not (λ y. q (sym (e ∙ is_eq y))))))
          (get_or-set_other rows depth d v 0 q ∙ gain_off false (row rows d) (2 ^ x) refl)
          (g d h)
