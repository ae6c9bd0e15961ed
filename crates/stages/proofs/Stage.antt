-- What every stage needs: no join at what it has passed, the variables as a row, and what the rows of below say of facts.
use mathlib.Core.Path.{◌≡◌, refl, sym, subst}
use mathlib.Core.Logic.{⊎_elim}
use mathlib.Core.List.{List}
use Prim.Native.Nat.{ℕ, ◌+◌, ◌-◌, ◌^◌, ◌<◌, ◌≤◌}
use native.Mathlib.Nat.{le_trans}
use lib.Bits.{bit_and}
use Rattle.meaning.specs.Tree.{Var}
use Rattle.meaning.specs.Constraint.{Fact, below}
use Rattle.meaning.specs.Finite.{Yes}
use Rattle.meaning.specs.ReadOff.{FactSet}
use Rattle.meaning.specs.FixedSearch.{JoinKind, join}
use Rattle.theory.specs.Search.{is_a_join}
use Rattle.rowbits.specs.Bit.{bit}
use Rattle.tables.specs.Tables.{row, has, Ready}
use Rattle.tables.specs.declared.Facts.{Facts}
use Rattle.tables.proofs.Bits.{in_both, both_in, all_is, all_has}
use Rattle.tables.proofs.Loops.{below_cases}
use Rattle.stages.specs.Found.{join_of, StageOf}
use Rattle.std.specs.Prelude.{None}
use Rattle.stages.proofs.Find.{first_of_is_none}

-- no join at a z that was passed
abbrev pub NoneBefore : JoinKind → ℕ → Facts → ℕ → Type 0
NoneBefore j n f z = (S : List Fact) → Ready n S f → (k x y : Var) → k < z → x < n → y < n → ¬ Yes (is_a_join (has f) j k x y)

pub none_more : (j : JoinKind) (n : ℕ) (f : Facts) (z : ℕ) → NoneBefore j n f z
    → ((S : List Fact) → Ready n S f → (x y : Var) → x < n → y < n → ¬ Yes (is_a_join (has f) j z x y)) → NoneBefore j n f (z + 1)
none_more j n f z before at S r k x y l hx hy =
    ⊎_elim (λ e. subst (λ (i : ℕ). ¬ Yes (is_a_join (has f) j i x y)) (sym e) (at S r x y hx hy)) (λ m. before S r k x y m hx hy) (below_cases l)

pub none_first : (j : JoinKind) (n : ℕ) (f : Facts) (z : ℕ) → n ≤ z → NoneBefore j n f z → StageOf j n f None
unfolding join_of
none_first j n f z l before S r = sym (first_of_is_none n (is_a_join (has f) j) (join j) (λ k x y hk. before S r k x y (le_trans hk l)))

-- the variables, and the members of a row that are variables
pub var_in : (vars n i : ℕ) → vars ≡ 2 ^ n - 1 → i < n → Yes (bit vars i)
var_in vars n i e h = subst (λ (k : ℕ). Yes (bit k i)) (sym e) (all_has n i h)

pub var_out : (vars n i : ℕ) → vars ≡ 2 ^ n - 1 → Yes (bit vars i) → i < n
var_out vars n i e u = all_is n i (subst (λ (k : ℕ). Yes (bit k i)) e u)

pub vars_in : (a vars n i : ℕ) → vars ≡ 2 ^ n - 1 → i < n → Yes (bit a i) → Yes (bit (bit_and a vars) i)
vars_in a vars n i e h u = both_in a vars i u (var_in vars n i e h)

pub vars_out : (a vars n i : ℕ) → vars ≡ 2 ^ n - 1 → Yes (bit (bit_and a vars) i) → Yes (bit a i) × (i < n)
vars_out a vars n i e u = let q = in_both a vars i u in (q.0, var_out vars n i e q.1)

module _ (n : ℕ) (small : n ≤ 16) (S : List Fact) (f : Facts) (r : Ready n S f) where
  abbrev h : FactSet
  h = has f

  -- the mirrors say what the tables say
  pub above_is : (x z : Var) → x < n → z < n → bit (row f.above z) x ≡ h (below x z)
  unfolding has
  above_is x z hx hz = r.mirrored.ancestors x z (le_trans hx small) (le_trans hz small)

  pub below_is : (x y : Var) → bit (row f.below x) y ≡ h (below x y)
  unfolding has
  below_is x y = refl
