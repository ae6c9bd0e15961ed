-- Sets of nodes grow as the marker computes them: a node's ancestors are its parent's and itself, and the nodes with a child are those
-- that some node names as its parent.
use mathlib.Core.Path.{◌≡◌, refl, sym, ap, ◌∙◌, subst}
use mathlib.Core.Logic.{⊎_elim}
use mathlib.Core.Bool.{Bool, true, false, ◌||◌}
use mathlib.Core.List.{List}
use Prim.Native.Nat.{ℕ, ◌+◌, ◌<◌}
use native.Mathlib.Numerals.{add-one}
use native.Mathlib.Omega.{arith}
use lib.Dec.{eqb}
use lib.ListN.{length, get_or, set}
use lib.Seq.{get_or-set_same, get_or-set_other}
use borrow.Author.Count.{below_more}
use borrow.Author.Tests.{lt-ltb}
use Rattle.meaning.specs.Tree.{Node, Tree, IsTree, Parent, up}
use Rattle.meaning.specs.Finite.{anyb, ◌and◌, ◌or◌}
use Rattle.meaning.proofs.Tests.{yes_eq, is_eq, eq_yes, or_left, or_right, either}
use Rattle.meaning.proofs.Trees.{above_child, above_same}
use Rattle.theory.specs.Check.{is_parent, climbs, is_above}
use Rattle.theory.proofs.Check.{above_sound, above_complete}
use Rattle.rowbits.specs.Bit.{bit, with_bit}
use Rattle.rowbits.proofs.Laws.{bit_one, bit_none, bit_with}

or_is : (a b : Bool) → (a || b) ≡ b or a
unfolding ◌or◌
or_is true true = refl
or_is true false = refl
or_is false true = refl
or_is false false = refl

eqb_sym : (x y : ℕ) → eqb x y ≡ eqb y x
eqb_sym x y = yes_eq _ _ (λ e. eq_yes {x = y} {y = x} (sym (is_eq e))) (λ e. eq_yes {x = x} {y = y} (sym (is_eq e)))

-- a set with one node more
with_is : (a j i : ℕ) {b : Bool} → bit a i ≡ b → bit (with_bit a j) i ≡ eqb i j or b
with_is a j i e = bit_with a j i ∙ or_is _ _ ∙ ap (λ (b : Bool). eqb i j or b) e

module _ (t : Tree) (i : IsTree t) (u : Node) where
  pub above_first : bit 1 u ≡ is_above t u 0
  unfolding is_above climbs
  above_first = bit_one 0 u

  module _ (v : Node) (p : 0 < v) (l : v < t.size) where
    own_parent : Parent t (t.parent v) v
    own_parent = record { not_first = p; inside = l; is = refl }

    above_parent : eqb u v or is_above t u (t.parent v) ≡ is_above t u v
    above_parent =
        let s = i.smaller v p l in
        yes_eq _ _
        (either (λ y. above_complete t i (above_same t i (is_eq y))) (λ y. above_complete t i (up own_parent (above_sound t i (omega arith) y))))
        (λ y. ⊎_elim (λ e. or_left _ (eq_yes e)) (λ a. or_right _ (above_complete t i a)) (above_child t i own_parent (above_sound t i l y)))

    pub above_more : (a : ℕ) → bit a u ≡ is_above t u (t.parent v) → bit (with_bit a v) u ≡ is_above t u v
    above_more a e = with_is a v u e ∙ above_parent

    named_parent : is_parent t u v ≡ eqb u (t.parent v)
    unfolding is_parent ◌and◌
    named_parent = rw (lt-ltb 0 v p, lt-ltb _ _ l) (eqb_sym (t.parent v) u)

    pub inner_more : (a : ℕ) → bit a u ≡ anyb v (is_parent t u) → bit (with_bit a (t.parent v)) u ≡ anyb (v + 1) (is_parent t u)
    unfolding anyb
    inner_more a e = rw (add-one, named_parent) (with_is a (t.parent v) u e)

  pub inner_first : bit 0 u ≡ anyb 1 (is_parent t u)
  unfolding anyb is_parent ◌and◌ ◌or◌
  inner_first = bit_none u

-- what holds of the entries below i and of a new one at i holds of the entries below i + 1
pub set_more : (P : ℕ → ℕ → Type 0) (xs : List ℕ) (i x : ℕ) → i < length xs → ((v : ℕ) → v < i → P v (get_or xs v 0)) → P i x → (v : ℕ) → v < i + 1 → P v (get_or (set xs i x) v 0)
set_more P xs i x h all here =
    below_more (λ (v : ℕ). P v (get_or (set xs i x) v 0)) i
    (λ v l. subst (P v) (sym (get_or-set_other xs i v x 0 (λ e. omega arith))) (all v l))
    (subst (P i) (sym (get_or-set_same xs i x 0 h)) here)
