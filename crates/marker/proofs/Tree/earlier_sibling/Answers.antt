-- `marker::Tree::earlier_sibling` meets its contract: a node that is not 0 has the parent that its record names.
use mathlib.Core.Path.{◌≡◌, refl, sym, ap, ◌∙◌}
use mathlib.Core.Bool.{Bool, true, false}
use native.Mathlib.Nat.{pos_of_ne-zero}
use Prim.Native.Nat.{◌≤◌, ◌<◌}
use borrow.Author.Tests.{lt-ltb, le-ltb, eq-eqb}
use Rattle.meaning.specs.Tree.{Node, Tree}
use Rattle.meaning.specs.Finite.{◌and◌}
use Rattle.theory.specs.Check.{is_parent, is_earlier_sibling}
use Rattle.answers.specs.Tree.{tree_in}
use Rattle.marker.proofs.Tree.earlier_sibling.Goals as goal

-- what is asked last may be asked first
and_false : (a b : Bool) → (a and b and false) ≡ false
unfolding ◌and◌
and_false true true = refl
and_false true false = refl
and_false false b = refl

and_true : (a : Bool) → (a and true) ≡ a
unfolding ◌and◌
and_true true = refl
and_true false = refl

not_earlier : (t : Tree) (u v : Node) → v ≤ u → is_earlier_sibling t u v ≡ false
unfolding is_earlier_sibling
not_earlier t u v h = rw (le-ltb u v h) (and_false _ _)

one_test : (t : Tree) (u v : Node) → 0 < u → u < t.size → u < v → is_earlier_sibling t u v ≡ is_parent t (t.parent u) v
unfolding is_earlier_sibling is_parent ◌and◌
one_test t u v p l h = rw (lt-ltb 0 u p, lt-ltb _ _ l, lt-ltb _ _ h, eq-eqb (t.parent u) (t.parent u) refl) (and_true _)

pub returns-then-earlier-eq0 : goal.returns-then-earlier-eq0
unfolding is_earlier_sibling is_parent ◌and◌
returns-then-earlier-eq0 c = rw c.if-earlier-eq0.true

pub returns-then-later-earlier : goal.returns-then-later-earlier
returns-then-later-earlier c = sym (not_earlier _ _ _ c.if-later-earlier.true)

pub returns : goal.returns
returns c =
    c.is_parent.ensures
    ∙ ap (λ (p : Node). is_parent (tree_in c.args.self.now.records.now) p c.args.later.0) c.parent.ensures
    ∙ sym (one_test _ _ _ (pos_of_ne-zero c.if-earlier-eq0.false) c.requires.earlier_bound c.if-later-earlier.false)
