-- What has to be glued where the variables of X have to be the same: what is at or above X over what is at or below it; and, where a leaf is
-- at or above X, all that is above what is at or below X. This is a cut, and gluing there gives only what is settled.
use mathlib.Core.Logic.{◌⊎◌, ⊎_elim}
use mathlib.Core.List.{List}
use Prim.Native.Nat.{ℕ}
use Rattle.meaning.specs.Tree.{Var}
use Rattle.meaning.specs.Constraint.{Fact, below, leaf}
use Rattle.meaning.specs.Settled.{Settled, chain, leaf_below}
use Rattle.meaning.specs.Closed.{Within, Inside, Sharing}
use Rattle.meaning.proofs.Least.{settled_within}
use Rattle.grouping.proofs.Glue.{Cut}

module _ (P : Fact → Type 0) (X : Var → Type 0) where
  -- x is at or above X, at or below X
  abbrev pub Above : Var → Type 0
  Above x = (k : Var) × X k × P (below x k)

  abbrev pub Under : Var → Type 0
  Under x = (k : Var) × X k × P (below k x)

  -- a leaf is at or above X
  abbrev pub Leafy : Type 0
  Leafy = (k : Var) × Above k × P (leaf k)

pub record Reach (P : Fact → Type 0) (X Up Down : Var → Type 0) : Type 0 where
  pub down_is : (x : Var) → Down x → Under P X x
  pub is_down : (x : Var) → Under P X x → Down x
  pub up_is : (x : Var) → Up x → Above P X x ⊎ (Leafy P X × Above P Down x)
  pub is_up : (x : Var) → Above P X x → Up x
  pub far_up : (x : Var) → Leafy P X → Above P Down x → Up x

module _ (n : ℕ) (T : List Fact) (inside : Inside n T) (P : Fact → Type 0) (X Up Down : Var → Type 0) (s : Sharing n P)
    (sound : (φ : Fact) → P φ → Settled n T φ) (due : (x y : Var) → X x → X y → Settled n T (below x y)) (r : Reach P X Up Down) where
  pub within : (φ : Fact) → P φ → Within n φ
  within φ u = settled_within n T inside (sound φ u)

  itself : {x : Var} → X x → P (below x x)
  itself u = s.self_below _ (settled_within n T inside (due _ _ u u)).0

  leafy : {x : Var} → P (leaf x) → Up x → Leafy P X
  leafy {x} l u = ⊎_elim (λ a. (x, a, l)) (λ a. a.0) (r.up_is x u)

  -- all of X is glued
  pub ends : (x : Var) → X x → Up x × Down x
  ends x u = (r.is_up x (x, u, itself u), r.is_down x (x, u, itself u))

  pub cut : Cut P Up Down
  cut = record {
    ends = record {
      up = λ x y a u. ⊎_elim
          (λ b. r.is_up x (b.0, b.1, s.chain _ _ _ a b.2))
          (λ b. r.far_up x b.0 (b.1.0, b.1.1, s.chain _ _ _ a b.1.2)) (r.up_is y u);
      down = λ x y u a. let b = r.down_is x u in r.is_down y (b.0, b.1, s.chain _ _ _ b.2 a);
    };
    leaf_up = λ x y l u v. r.far_up y (leafy l u) (y, v, s.self_below y (within _ (r.down_is y v).2).1);
    leaf_down = λ x l u. ⊎_elim
        (λ b. r.is_down x (b.0, b.1, s.leaf_below _ _ l b.2))
        (λ b. let d = r.down_is _ b.1.1 in r.is_down x (d.0, d.1, s.chain _ _ _ d.2 (s.leaf_below _ _ l b.1.2))) (r.up_is x u);
  }

  near_glue : {x y : Var} → Above P X x → Down y → Settled n T (below x y)
  near_glue {x} {y} a v = let b = r.down_is y v in chain (sound _ a.2) (chain (due _ _ a.1 b.1) (sound _ b.2))

  -- a leaf at or above X is the same as all that is below it
  pub glue : (x y : Var) → Up x → Down y → Settled n T (below x y)
  glue x y u v =
      ⊎_elim (λ a. near_glue a v)
      (λ a. chain (sound _ a.1.2) (chain (leaf_below (sound _ a.0.2) (near_glue a.0.1 a.1.1)) (near_glue a.0.1 v)))
      (r.up_is x u)
