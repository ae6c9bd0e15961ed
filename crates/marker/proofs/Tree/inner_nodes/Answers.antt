use mathlib.Core.Path.{◌≡◌, ap, ◌∙◌}
use Prim.Native.Nat.{ℕ}
use native.Mathlib.Omega.{arith}
use Rattle.meaning.specs.Finite.{anyb}
use Rattle.theory.specs.Check.{is_parent}
use Rattle.answers.specs.Tree.{tree_in}
use Rattle.marker.proofs.Sets.{inner_first, inner_more}
use Rattle.marker.proofs.Tree.inner_nodes.Goals as goal

pub loop-i-init : goal.loop-i-init
loop-i-init c = λ u. inner_first _ c.args.self.now.is_tree u

pub overflow_cast-i : goal.overflow_cast-i
unfolding tree_in
overflow_cast-i c = let f = c.args.self.now.few in omega arith

pub with-inner-requires : goal.with-inner-requires
unfolding tree_in
with-inner-requires c =
    let f = c.args.self.now.few in
    let l = c.loop-i in
    omega (arith, c.parent.ensures, c.args.self.now.is_tree.smaller l.i l.auto.i c.loop-i-test.true)

pub loop-i-preserved : goal.loop-i-preserved
unfolding tree_in
loop-i-preserved c = λ u.
    let l = c.loop-i in
    rw (c.with-inner.ensures, c.parent.ensures) (inner_more _ c.args.self.now.is_tree u l.i l.auto.i
    c.loop-i-test.true _ (l.invariant u))

pub returns : goal.returns
unfolding tree_in
returns c = λ u.
    let l = c.loop-i in
    let e : l.i ≡ (tree_in c.args.self.now.records.now).size = (let w = c.args.self.now.is_tree in omega arith) in
    l.invariant u ∙ ap (λ (k : ℕ). anyb k (is_parent (tree_in c.args.self.now.records.now) u)) e
