-- Exchanging two variables is a renumbering, since it is its own inverse; the rows' files are so renumbered by computing.
use mathlib.Core.Path.{◌≡◌, refl, sym, ap, ◌∙◌}
use mathlib.Core.List.{List}
use Prim.Native.Nat.{ℕ, ◌<◌}
use native.Mathlib.Omega.{arith}
use lib.Dec.{eqb}
use Rattle.meaning.specs.Tree.{Var}
use Rattle.meaning.specs.Constraint.{named, vars}
use Rattle.meaning.specs.Finite.{pick, ◌and◌, ◌or◌}
use Rattle.meaning.specs.Files.{quads, judge_pair, judge_record, with_rest, judge_records, judge}
use Rattle.meaning.specs.Shuffled.{Renumbering, renumber_quad, Renumbered}
use Rattle.meaning.proofs.Tests.{pick_yes, pick_no, pick_either, pick_has, is_eq, self_eq}
use Rattle.marked.specs.Renumbered.{swap, OwnN, Swapped, RowsRenumbered}

module _ (i j : Var) where
  swap_inside : (n : ℕ) → i < n → j < n → (x : Var) → x < n → swap i j x < n
  unfolding swap
  swap_inside n k l x h = pick_has (λ (y : Var). y < n) _ _ _ (λ t. l) (pick_has (λ (y : Var). y < n) _ _ _ (λ t. k) h)

  swap_first : swap i j i ≡ j
  unfolding swap
  swap_first = pick_yes _ _ (self_eq i)

  swap_second : swap i j j ≡ i
  unfolding swap
  swap_second = pick_either (λ (y : Var). y ≡ i) _ _ _ (λ t. is_eq t) (λ f. pick_yes _ _ (self_eq j))

  -- exchanged twice, everything is where it was
  swap_twice : (x : Var) → swap i j (swap i j x) ≡ x
  unfolding swap
  swap_twice x =
      pick_either (λ (y : Var). swap i j y ≡ x) (eqb x i) _ _ (λ t. swap_second ∙ sym (is_eq t))
      (λ f. pick_either (λ (y : Var). swap i j y ≡ x) (eqb x j) _ _ (λ t. swap_first ∙ sym (is_eq t)) (λ g. pick_no _ _ f ∙ pick_no _ _ g))

  swaps : (n : ℕ) → i < n → j < n → Renumbering n (swap i j)
  swaps n k l = record { inside = swap_inside n k l; one_to_one = λ x y a b e. sym (swap_twice x) ∙ ap (swap i j) e ∙ swap_twice y }

swapped : {n : ℕ} {i j : Var} {file other : List ℕ} → i < n → j < n → OwnN file n → Renumbered (swap i j) file other → Swapped n i j file other
swapped {n} {i} {j} k l o r = record { own = o; renumbering = swaps i j n k l; renumbered = r }

pub rows_renumbered : RowsRenumbered
unfolding quads renumber_quad swap pick ◌and◌ ◌or◌ judge judge_records with_rest judge_record judge_pair vars named
rows_renumbered = record {
  N1-swapped = swapped (omega arith) (omega arith) (_, refl, refl) (record { whole = refl; other_whole = refl; renumbered = refl });
  N2-swapped = swapped (omega arith) (omega arith) (_, refl, refl) (record { whole = refl; other_whole = refl; renumbered = refl });
  N3-swapped = swapped (omega arith) (omega arith) (_, refl, refl) (record { whole = refl; other_whole = refl; renumbered = refl });
  N3-fewer = (_, refl, refl);
}
