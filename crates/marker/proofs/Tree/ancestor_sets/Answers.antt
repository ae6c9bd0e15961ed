use mathlib.Core.Path.{◌≡◌}
use mathlib.Core.List.{List}
use Rattle.meaning.specs.Tree.{IsTree}
use Prim.Native.Nat.{ℕ, ◌/◌, ◌≤◌, ◌<◌}
use native.Mathlib.Omega.{arith}
use lib.ListN.{length}
use borrow.Author.Rules.{rules}
use Rattle.rowbits.specs.Bit.{bit}
use Rattle.theory.specs.Check.{is_above}
use Rattle.answers.specs.Tree.{tree_in}
use Rattle.marker.proofs.Sets.{above_first, above_more, set_more}
use Rattle.marker.proofs.Tree.ancestor_sets.Goals as goal

-- the parent of the node at hand has a smaller number
parent_smaller : (tree : List ℕ) → IsTree (tree_in tree) → (i : ℕ) → 1 ≤ i → i < length tree / 4 → (p : ℕ)
    → p ≡ (tree_in tree).parent i → p < i
unfolding tree_in
parent_smaller tree w i one l p e = omega (arith, e, w.smaller i one l)

pub loop-i-init : goal.loop-i-init
loop-i-init c = (search rules, λ u v l. let z : v ≡ 0 = omega arith in rw z (above_first _ c.args.self.now.is_tree u))

pub overflow_cast-node : goal.overflow_cast-node
unfolding tree_in
overflow_cast-node c = let f = c.args.self.now.few in omega arith

pub bounds-above-parent : goal.bounds-above-parent
unfolding tree_in
bounds-above-parent c =
    let f = c.args.self.now.few in
    let s = parent_smaller _ c.args.self.now.is_tree _ c.loop-i.auto.i c.loop-i-test.true _ c.parent-parent.ensures in
    omega arith

pub with-requires : goal.with-requires
unfolding tree_in
with-requires c = let f = c.args.self.now.few in omega arith

pub bounds-above-i : goal.bounds-above-i
unfolding tree_in
bounds-above-i c = let f = c.args.self.now.few in omega arith

pub loop-i-preserved : goal.loop-i-preserved
unfolding tree_in
loop-i-preserved c =
    let l = c.loop-i in
    let f = c.args.self.now.few in
    let w = c.args.self.now.is_tree in (
      search rules,
      λ u. set_more (λ v a. bit a u ≡ is_above (tree_in c.args.self.now.records.now) u v) l.above l.i c.with.result
          (omega arith) (λ v h. l.invariant.1 u v h)
          (rw c.with.ensures (above_more _ w u l.i l.auto.i c.loop-i-test.true _
          (rw (← c.parent-parent.ensures) (l.invariant.1 u _
          (parent_smaller _ w _ l.auto.i c.loop-i-test.true _ c.parent-parent.ensures))))),
    )

pub returns : goal.returns
unfolding tree_in
returns c = λ u v l. c.loop-i.invariant.1 u v (omega arith)
