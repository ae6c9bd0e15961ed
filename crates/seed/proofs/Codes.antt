-- A constraint as the numbers of its record, and which constraints give a fact.
use mathlib.Core.Path.{◌≡◌, refl, sym, subst}
use mathlib.Core.Logic.{◌⊎◌, inl, inr, ⊎_elim}
use mathlib.Core.List.{List, ◌∷◌, Memᴰ}
use Prim.Native.Nat.{ℕ, ◌<◌}
use native.Mathlib.Omega.{arith}
use Rattle.meaning.specs.Tree.{Var, Label, folded}
use Rattle.meaning.specs.Constraint.{Constraint, is_child, is_below, is_strictly_below, is_same, is_differ, is_root, is_leaf, is_label, is_before, named, Fact, child, below, differ, before, root, leaf, label, facts, facts_of}
use Rattle.meaning.specs.Marking.{kind}
use Rattle.meaning.specs.Files.{quad_of}
use Rattle.meaning.proofs.Constraints.{fact_in, fact_from}
use Rattle.meaning.proofs.Facts.{in_one, in_two}
use Rattle.meaning.proofs.Records.{kind_first, named_record}
use Rattle.constraints.specs.Record.{kind_of, constraint_as, constraint_of, record_of}
use Rattle.constraints.proofs.ByKind.{constraint_again}

abbrev pub left : Constraint → ℕ
left c = (quad_of c).second

-- 0 where it names one variable
abbrev pub right : Constraint → ℕ
right c = (quad_of c).third

abbrev pub name : Constraint → ℕ
name c = (quad_of c).fourth

pub spelt_as : (c : Constraint) {k x y : ℕ} → kind c ≡ k → left c ≡ x → right c ≡ y → c ≡ constraint_as (kind_of k) x y (name c)
unfolding constraint_of record_of
spelt_as c a b d = rw (sym a, sym b, sym d, kind_first c) (sym (constraint_again c))

pub variables_named : (c : Constraint) → (left c < named c) × (right c < named c)
variables_named c = let e = named_record c in (omega arith, omega arith)

-- ---- a fact's constraints

module _ (cs : List Constraint) where
  -- a label record of x whose label, its capital made small, is l
  abbrev pub Labelled : Var → Label → Type 0
  Labelled x l = (k : Label) × Memᴰ (is_label x k) cs × (folded k ≡ l)

  abbrev pub Source : Fact → Type 0
  Source (child x y) = Memᴰ (is_child x y) cs
  Source (below x y) = Memᴰ (is_below x y) cs ⊎ (Memᴰ (is_strictly_below x y) cs ⊎ (Memᴰ (is_same x y) cs ⊎ Memᴰ (is_same y x) cs))
  Source (differ x y) = Memᴰ (is_strictly_below x y) cs ⊎ Memᴰ (is_differ x y) cs
  Source (before x y) = Memᴰ (is_before x y) cs
  Source (root x) = Memᴰ (is_root x) cs
  Source (leaf x) = Memᴰ (is_leaf x) cs
  Source (label x l) = Labelled x l

  one_source : (c : Constraint) → Memᴰ c cs → (φ : Fact) → Memᴰ φ (facts c) → Source φ
  one_source (is_child x y) k φ m = in_one Source k m
  one_source (is_below x y) k φ m = in_one Source (inl k) m
  one_source (is_strictly_below x y) k φ m = in_two Source (inr (inl k)) (inl k) m
  one_source (is_same x y) k φ m = in_two Source (inr (inr (inl k))) (inr (inr (inr k))) m
  one_source (is_differ x y) k φ m = in_one Source (inr k) m
  one_source (is_root x) k φ m = in_one Source k m
  one_source (is_leaf x) k φ m = in_one Source k m
  one_source (is_label x l) k φ m = in_one Source (l, k, refl) m
  one_source (is_before x y) k φ m = in_one Source k m

  pub source : (φ : Fact) → Memᴰ φ (facts_of cs) → Source φ
  source φ m = let w = fact_from cs φ m in one_source w.0 w.1 φ w.2

  first : {c : Constraint} {φ : Fact} {φs : List Fact} → facts c ≡ φ ∷ φs → Memᴰ c cs → Memᴰ φ (facts_of cs)
  first e m = fact_in m (rw e (Memᴰ.head refl))

  second : {c : Constraint} {φ ψ : Fact} {φs : List Fact} → facts c ≡ ψ ∷ φ ∷ φs → Memᴰ c cs → Memᴰ φ (facts_of cs)
  second e m = fact_in m (rw e (Memᴰ.tail (Memᴰ.head refl)))

  pub sourced : (φ : Fact) → Source φ → Memᴰ φ (facts_of cs)
  sourced (child x y) m = first refl m
  sourced (below x y) m = ⊎_elim (first refl) (⊎_elim (first refl) (⊎_elim (first refl) (second refl))) m
  sourced (differ x y) m = ⊎_elim (second refl) (first refl) m
  sourced (before x y) m = first refl m
  sourced (root x) m = first refl m
  sourced (leaf x) m = first refl m
  sourced (label x l) m = subst (λ (k : Label). Memᴰ (label x k) (facts_of cs)) m.2 (first refl m.1)
