-- A differ fact settles differ facts alone. So beside more of them a set has the same joins, and what is read off, which asks for no differ fact, is the
-- same to the byte.
use mathlib.Core.Path.{◌≡◌, refl, sym, ap, ◌∙◌, fun_ext}
use mathlib.Core.Logic.{◌⊎◌, ⊎_elim}
use mathlib.Core.Bool.{false}
use mathlib.Core.List.{List, ◌++◌, map, Memᴰ}
use Prim.Native.Nat.{ℕ, zero, suc}
use lib.Dec.{eqb}
use Rattle.meaning.specs.Tree.{Var}
use Rattle.meaning.specs.Constraint.{Fact, child, below, differ, before, root, leaf, label}
use Rattle.meaning.specs.Settled.{Settled, given, child_below, self_below, chain, root_below, leaf_below, one_parent, one_element, before_chain, before_child, after_child, same_parent, same_child, same_root, same_leaf, same_label, same_before, same_after}
use Rattle.meaning.specs.FixedSearch.{Join, IsJoin, FirstJoin}
use Rattle.meaning.specs.Closed.{Rules}
use Rattle.meaning.specs.Finite.{pick, tab, position}
use Rattle.meaning.specs.ReadOff.{FactSet, Decides, same, over, lowest, depth, layer, layers, order, element, front, node_at, place, nearest, parent_of, label_of, nodes, places, node_bytes, place_bytes, answer_file}
use Rattle.meaning.proofs.Tests.{yes_eq}
use Rattle.meaning.proofs.Facts.{◌⊆◌}
use Rattle.meaning.proofs.Least.{settled_least, settled_mono}
use Rattle.meaning.proofs.Congruence.{Asked, join_asked, first_asked}

-- ---- what they settle

abbrev pub IsDiffer : Fact → Type 0
IsDiffer (child x y) = ⊥
IsDiffer (below x y) = ⊥
IsDiffer (differ x y) = Unit {0}
IsDiffer (before x y) = ⊥
IsDiffer (root x) = ⊥
IsDiffer (leaf x) = ⊥
IsDiffer (label x l) = ⊥

-- settled in S, or a differ fact
abbrev pub Kept : ℕ → List Fact → Fact → Type 0
Kept n S (child x y) = Settled n S (child x y)
Kept n S (below x y) = Settled n S (below x y)
Kept n S (differ x y) = Unit {0}
Kept n S (before x y) = Settled n S (before x y)
Kept n S (root x) = Settled n S (root x)
Kept n S (leaf x) = Settled n S (leaf x)
Kept n S (label x l) = Settled n S (label x l)

-- no rule but those of differ itself has one among its premises
kept_rules : (n : ℕ) (S : List Fact) → Rules n (Kept n S)
kept_rules n S = record {
  sharing = record {
    child_below = λ x y a. child_below a;
    child_differ = λ x y a. tt;
    self_below = λ x l. self_below l;
    chain = λ x y z a b. chain a b;
    root_below = λ x y a l. root_below a l;
    leaf_below = λ x y a b. leaf_below a b;
    differ_back = λ x y a. tt;
    same_parent = λ x y u a b c. same_parent a b c;
    same_child = λ x y u a b c. same_child a b c;
    same_differ = λ x y u a b c. tt;
    same_root = λ x u a b c. same_root a b c;
    same_leaf = λ x u a b c. same_leaf a b c;
    same_label = λ x u l a b c. same_label a b c;
  };
  siblings = record {
    before_chain = λ x y z a b. before_chain a b;
    before_differ = λ x y a. tt;
    before_child = λ x y u a b. before_child a b;
    after_child = λ x y u a b. after_child a b;
    same_before = λ x y u a b c. same_before a b c;
    same_after = λ x y u a b c. same_after a b c;
  };
  one_parent = λ x y z a b. one_parent a b;
  one_element = λ x y z a b c. one_element a b c;
}

settled_kept : (n : ℕ) (S : List Fact) (f : Fact) → Settled n S f → Kept n S f
settled_kept n S (child x y) s = s
settled_kept n S (below x y) s = s
settled_kept n S (differ x y) s = tt
settled_kept n S (before x y) s = s
settled_kept n S (root x) s = s
settled_kept n S (leaf x) s = s
settled_kept n S (label x l) s = s

differ_kept : (n : ℕ) (S : List Fact) (f : Fact) → IsDiffer f → Kept n S f
differ_kept n S (child x y) d = absurd d
differ_kept n S (below x y) d = absurd d
differ_kept n S (differ x y) d = tt
differ_kept n S (before x y) d = absurd d
differ_kept n S (root x) d = absurd d
differ_kept n S (leaf x) d = absurd d
differ_kept n S (label x l) d = absurd d

-- T is S and differ facts besides
pub record Beside (S T : List Fact) : Type 0 where
  pub wider : S ⊆ T
  pub only : (f : Fact) → Memᴰ f T → Memᴰ f S ⊎ IsDiffer f

module _ (n : ℕ) (S T : List Fact) (b : Beside S T) where
  pub kept : {f : Fact} → Settled n T f → Kept n S f
  kept = settled_least n T (Kept n S) (kept_rules n S) (λ f m. ⊎_elim (λ k. settled_kept n S f (given k)) (differ_kept n S f) (b.only f m))

  pub more : {f : Fact} → Settled n S f → Settled n T f
  more = settled_mono n S T b.wider

  asks_more : Asked n S T
  asks_more = record { of_child = more; of_below = more; of_before = more; of_root = more }

  asks_kept : Asked n T S
  asks_kept = record { of_child = kept; of_below = kept; of_before = kept; of_root = kept }

  -- the joins are the same
  pub join_more : (j : Join) → IsJoin n S j → IsJoin n T j
  join_more = join_asked asks_more asks_kept

  pub join_kept : (j : Join) → IsJoin n T j → IsJoin n S j
  join_kept = join_asked asks_kept asks_more

  pub first_more : (j : Join) → FirstJoin n S j → FirstJoin n T j
  first_more = first_asked asks_more asks_kept

-- ---- what is read off is the same

-- without its differ facts
unfoldable bare : FactSet → FactSet
bare h (child x y) = h (child x y)
bare h (below x y) = h (below x y)
bare h (differ x y) = false
bare h (before x y) = h (before x y)
bare h (root x) = h (root x)
bare h (leaf x) = h (leaf x)
bare h (label x l) = h (label x l)

module _ (n : ℕ) (h : FactSet) where
  layers_bare : (d : ℕ) → layers n h d ≡ layers n (bare h) d
  unfolding layers layer lowest depth over same bare
  layers_bare zero = refl
  layers_bare (suc d) = ap (λ (gs : List Var). gs ++ layer n h d) (layers_bare d)

  -- all else computes to the same
  file_bare : answer_file n h ≡ answer_file n (bare h)
  unfolding answer_file nodes places place parent_of node_at front element nearest label_of order layer lowest depth over same bare
  file_bare = ap (λ (gs : List Var).
      node_bytes 0 (front n h ++ map (λ g. record { up = pick (eqb (depth n h g) 0) (element n h) (node_at n h (position (λ w. nearest n h w g) gs)); label = label_of n h g }) gs)
      ++ place_bytes 0 (tab n (λ x. pick (h (root x)) 0 (node_at n h (position (λ g. same h g x) gs))))) (layers_bare n)

-- Q settles what R settles, and differ facts besides
pub record SameBut (n : ℕ) (R Q : List Fact) : Type 0 where
  pub to : {f : Fact} → Settled n R f → Settled n Q f
  pub fro : {f : Fact} → Settled n Q f → Kept n R f

module _ (n : ℕ) (R Q : List Fact) (h g : FactSet) (d : Decides n R h) (e : Decides n Q g) (s : SameBut n R Q) where
  alike : (f : Fact) → (Settled n Q f → Settled n R f) → h f ≡ g f
  alike f back = yes_eq _ _ (λ t. e.complete (s.to (d.sound t))) (λ t. d.complete (back (e.sound t)))

  bare_alike : (f : Fact) → bare h f ≡ bare g f
  unfolding bare
  bare_alike (child x y) = alike (child x y) s.fro
  bare_alike (below x y) = alike (below x y) s.fro
  bare_alike (differ x y) = refl
  bare_alike (before x y) = alike (before x y) s.fro
  bare_alike (root x) = alike (root x) s.fro
  bare_alike (leaf x) = alike (leaf x) s.fro
  bare_alike (label x l) = alike (label x l) s.fro

  pub same_file : answer_file n h ≡ answer_file n g
  same_file = file_bare n h ∙ ap (answer_file n) (fun_ext bare_alike) ∙ sym (file_bare n g)
