-- `marker::Answer::is_met` meets its contract: kind by kind, on the nodes that the assignment gives.
use mathlib.Core.Path.{◌≡◌, refl, sym, ap, ◌∙◌}
use mathlib.Core.Bool.{not}
use mathlib.Core.List.{List}
use Prim.Native.Nat.{ℕ, ◌<◌}
use native.Mathlib.Omega.{arith}
use lib.Dec.{eqb}
use Rattle.meaning.specs.Tree.{folded}
use Rattle.meaning.specs.Constraint.{named}
use Rattle.theory.specs.Check.{meetsb}
use Rattle.answers.specs.Tree.{tree_in, places_in}
use Rattle.constraints.specs.Record.{constraint_of, constraint_as}
use Rattle.constraints.specs.declared.Record.{Record}
use Rattle.constraints.specs.declared.Kind.{Kind}
use Rattle.constraints.specs.declared.Kind.TheVariants.{Child, Below, StrictlyBelow, Before}
use Rattle.marker.specs.Prepared.{Placed}
use Rattle.marker.proofs.Named.{x_named, y_named}
use Rattle.marker.proofs.Tests.{not_neg, and_not_true, and_not_false}
use Rattle.marker.proofs.Answer.is_met.Goals as goal

-- the nodes of the variables that the constraint names are in the tree
module _ {tree places : List ℕ} (constraint : Record) (p : Placed tree places (constraint_of constraint)) where
  pub x_inside : (x : ℕ) → x ≡ places_in places constraint.x.0 → x < (tree_in tree).size
  x_inside x e = omega (arith, e, p.placed constraint.x.0 (x_named constraint))

  pub y_inside : (y : ℕ) → y ≡ places_in places constraint.y.0 → (k : Kind) → constraint.kind ≡ k
      → constraint.y.0 < named (constraint_as k constraint.x.0 constraint.y.0 constraint.label) → y <
      (tree_in tree).size
  y_inside y at_y k e h = omega (arith, at_y, p.placed constraint.y.0 (y_named constraint k e h))

pub is_parent-requires : goal.is_parent-requires
unfolding named constraint_as
is_parent-requires c = y_inside c.args.constraint c.requires _ c.node_of-y.ensures Child c.in-Child.is (omega arith)

pub at_or_above-requires : goal.at_or_above-requires
unfolding named constraint_as
at_or_above-requires c = record {
  upper_bound = x_inside c.args.constraint c.requires _ c.node_of-x.ensures;
  lower_bound = y_inside c.args.constraint c.requires _ c.node_of-y.ensures Below c.in-Below.is (omega arith);
}

pub at_or_above-requires-then-ne : goal.at_or_above-requires-then-ne
unfolding named constraint_as
at_or_above-requires-then-ne c = record {
  upper_bound = x_inside c.args.constraint c.requires _ c.node_of-x.ensures;
  lower_bound =
      y_inside c.args.constraint c.requires _ c.node_of-y.ensures StrictlyBelow c.in-StrictlyBelow.is (omega arith);
}

pub has-requires : goal.has-requires
has-requires c =
    let x = x_inside c.args.constraint c.requires _ c.node_of-x.ensures in
    let f = c.args.self.now.tree.few in
    omega arith

pub earlier_sibling-requires : goal.earlier_sibling-requires
unfolding named constraint_as
earlier_sibling-requires c = record {
  earlier_bound = x_inside c.args.constraint c.requires _ c.node_of-x.ensures;
  later_bound = y_inside c.args.constraint c.requires _ c.node_of-y.ensures Before c.in-Before.is (omega arith);
}

pub returns-in-Child : goal.returns-in-Child
unfolding meetsb constraint_of constraint_as
returns-in-Child c = rw (c.in-Child.is, ← c.node_of-x.ensures, ← c.node_of-y.ensures) c.is_parent.ensures

pub returns-in-Below : goal.returns-in-Below
unfolding meetsb constraint_of constraint_as
returns-in-Below c = rw (c.in-Below.is, ← c.node_of-x.ensures, ← c.node_of-y.ensures) c.at_or_above.ensures

pub returns-then-ne : goal.returns-then-ne
unfolding meetsb constraint_of constraint_as
returns-then-ne c =
    rw (c.in-StrictlyBelow.is, ← c.node_of-x.ensures, ← c.node_of-y.ensures)
    (c.at_or_above-then-ne.ensures ∙ and_not_true _ _ (sym c.ne.ensures ∙ c.if-ne.true))

pub returns-else-ne : goal.returns-else-ne
unfolding meetsb constraint_of constraint_as
returns-else-ne c =
    rw (c.in-StrictlyBelow.is, ← c.node_of-x.ensures, ← c.node_of-y.ensures)
    (c.if-ne.false ∙ and_not_false _ _ (sym c.ne.ensures ∙ c.if-ne.false))

pub returns-in-Same : goal.returns-in-Same
unfolding meetsb constraint_of constraint_as
returns-in-Same c = rw (c.in-Same.is, ← c.node_of-x.ensures, ← c.node_of-y.ensures) c.eq.ensures

pub returns-in-Differ : goal.returns-in-Differ
unfolding meetsb constraint_of constraint_as
returns-in-Differ c =
    rw (c.in-Differ.is, ← c.node_of-x.ensures, ← c.node_of-y.ensures) (c.ne-in-Differ.ensures ∙ not_neg _)

pub returns-in-Root : goal.returns-in-Root
unfolding meetsb constraint_of constraint_as
returns-in-Root c = rw (c.in-Root.is, ← c.node_of-x.ensures) refl

pub returns-in-Leaf : goal.returns-in-Leaf
unfolding meetsb constraint_of constraint_as
returns-in-Leaf c =
    rw (c.in-Leaf.is, ← c.node_of-x.ensures) (ap not (c.has.ensures ∙ c.args.self.now.with_child _) ∙ not_neg _)

pub returns-in-Label : goal.returns-in-Label
unfolding meetsb constraint_of constraint_as
returns-in-Label c =
    rw (c.in-Label.is, ← c.node_of-x.ensures)
    (c.same.ensures ∙ ap (λ (k : ℕ). eqb (folded k) (folded c.args.constraint.label)) c.label.ensures)

pub returns-in-Before : goal.returns-in-Before
unfolding meetsb constraint_of constraint_as
returns-in-Before c = rw (c.in-Before.is, ← c.node_of-x.ensures, ← c.node_of-y.ensures) c.earlier_sibling.ensures
