-- A variable that no constraint names never matters for none: over any number of variables that has those named, the same constraints can be
-- met or cannot. It may stand anywhere, and is put on node 0.
use mathlib.Core.Path.{◌≡◌, sym}
use mathlib.Core.Logic.{◌↔◌}
use mathlib.Core.List.{List, Memᴰ}
use Prim.Native.Nat.{ℕ, ◌≤◌, ◌<◌}
use native.Mathlib.Nat.{le_trans}
use lib.Dec.{ltb}
use Rattle.meaning.specs.Tree.{Var, Node, Assignment, Tree, IsTree}
use Rattle.meaning.specs.Constraint.{Constraint, Meets, MeetsAll, CanBeMet, vars}
use Rattle.meaning.specs.Finite.{pick}
use Rattle.meaning.specs.FixedSearch.{Outcome, in_none}
use Rattle.meaning.specs.Demand.{FixedSearch}
use Rattle.meaning.proofs.Trees.{some_node}
use Rattle.meaning.proofs.Tests.{pick_yes, pick_either, is_lt, lt_yes}
use Rattle.meaning.proofs.Constraints.{Names, names_below, meets_agree, named_most}
use Rattle.meaning.proofs.Said.{none_cannot}

-- every constraint is met, and the variables that they name are on nodes
pub record MeetsNamed (t : Tree) (a : Assignment) (cs : List Constraint) : Type 0 where
  pub placed : (c : Constraint) → Memᴰ c cs → (x : Var) → Names c x → a x < t.size
  pub every : (c : Constraint) → Memᴰ c cs → Meets t a c

meets_named : (n : ℕ) (t : Tree) (a : Assignment) (cs : List Constraint) → vars cs ≤ n → MeetsAll n t a cs → MeetsNamed t a cs
meets_named n t a cs few m = record {
  placed = λ c k x w. m.placed x (le_trans (names_below c x w) (le_trans (named_most cs c k) few));
  every = m.every;
}

module _ (t : Tree) (i : IsTree t) (a : Assignment) where
  -- a variable that is on no node is put on node 0
  on_nodes : Assignment
  on_nodes x = pick (ltb (a x) t.size) (a x) 0

  on_nodes_inside : (x : Var) → on_nodes x < t.size
  unfolding on_nodes
  on_nodes_inside x = pick_either (λ (v : Node). v < t.size) (ltb (a x) t.size) (a x) 0 (λ y. is_lt y) (λ z. some_node t i)

  on_nodes_same : (x : Var) → a x < t.size → a x ≡ on_nodes x
  unfolding on_nodes
  on_nodes_same x l = sym (pick_yes (a x) 0 (lt_yes l))

  anywhere : (n : ℕ) (cs : List Constraint) → MeetsNamed t a cs → CanBeMet n cs
  anywhere n cs m = record {
    tree = t;
    is_tree = i;
    assignment = on_nodes;
    meets = record {
      placed = λ x l. on_nodes_inside x;
      every = λ c k. meets_agree t a on_nodes c (λ v w. on_nodes_same v (m.placed c k v w)) (m.every c k);
    };
  }

-- that other variables are placed asks nothing more: over any n that covers the constraints they can be met exactly when they can with only the
-- variables that they name on nodes
pub named_enough : (n : ℕ) (cs : List Constraint) → vars cs ≤ n → CanBeMet n cs ↔ ((t : Tree) × IsTree t × (a : Assignment) × MeetsNamed t a cs)
named_enough n cs few = (λ w. (w.tree, w.is_tree, w.assignment, meets_named n w.tree w.assignment cs few w.meets), λ w. anywhere w.0 w.1 w.2 n cs w.3)

-- so variables may be added, or taken away down to those named
pub unnamed_met : (n m : ℕ) (cs : List Constraint) → vars cs ≤ n → CanBeMet n cs → CanBeMet m cs
unnamed_met n m cs few w = let v = (named_enough n cs few).0 w in anywhere v.0 v.1 v.2 m cs v.3

-- and the fixed search ends in none over n variables exactly when it does over m
pub unnamed_none : {n m c d : ℕ} {cs : List Constraint} {o p : Outcome} → vars cs ≤ n → vars cs ≤ m → FixedSearch n cs o c → FixedSearch m cs p d → (o ≡ in_none) ↔ (p ≡ in_none)
unnamed_none {n} {m} {cs = cs} l k f g = (
  λ e. (none_cannot g).1 (λ w. (none_cannot f).0 e (unnamed_met m n cs k w)),
  λ e. (none_cannot f).1 (λ w. (none_cannot g).0 e (unnamed_met n m cs l w)),
)
