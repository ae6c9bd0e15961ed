-- The end of settling: the rules that a pass closed and those of siblings are together all rules, so the tables decide the settled set.
use mathlib.Core.Path.{◌≡◌, subst}
use mathlib.Core.Bool.{Bool, true}
use mathlib.Core.List.{List}
use Prim.Native.Nat.{ℕ, ◌+◌, ◌<◌, ◌≤◌}
use native.Mathlib.Omega.{arith}
use mir.Val.{Fits}
use mir.Syntax.{w16}
use Rattle.meaning.specs.Constraint.{Fact}
use Rattle.meaning.specs.ReadOff.{Decides}
use Rattle.meaning.specs.Finite.{Yes, pick, sum}
use Rattle.meaning.proofs.Finite.{sum_bound}
use Rattle.meaning.specs.Closed.{Rules}
use Rattle.theory.proofs.Closure.{rules_decide}
use Rattle.tables.specs.Tables.{row, has, Seeded, Ready}
use Rattle.tables.specs.declared.Facts.{Facts}
use Rattle.tables.specs.Free.{Bare}
use Rattle.tables.proofs.Clashes.{free_clash}
use Rattle.passes.specs.Steps.{weight, StepOf, PassRules}
use Rattle.passes.specs.declared.Stepped.{Stepped}
use Rattle.settle.proofs.Sibling.{SiblingRules}

module _ (n : ℕ) (S : List Fact) (f : Facts) (seed : Seeded n S f) (passed : PassRules n f) (bare : Bare (λ φ. Yes (has f φ))) (ordered : SiblingRules n f) where
  rules : Rules n (λ φ. Yes (has f φ))
  rules = record { sharing = passed.sharing; siblings = ordered.siblings; one_parent = passed.one_parent; one_element = passed.one_element }

  decided : Decides n S (has f)
  decided = rules_decide n S (has f) seed.sound seed.held rules

  pub ready : Ready n S f
  ready = record {
    inside = seed.inside;
    free = free_clash n S f decided (record { apart = passed.apart; clear = ordered.clear; bare = bare });
    decides = decided;
    mirrored = record { parents = seed.parents; ancestors = passed.ancestors; siblings = seed.siblings };
  }

pub grew : {G : Facts → Type 0} {n : ℕ} {f : Facts} {r : Stepped} → StepOf G n f r → r.more ≡ true
    → weight f < weight r.facts
unfolding pick
grew {f = f} {r = r} w m = let a : weight f + 1 ≤ weight r.facts = subst
    (λ (b : Bool). weight f + pick b 1 0 ≤ weight r.facts) m w.grown in omega arith

-- no step makes the tables less
pub no_less : {G : Facts → Type 0} {n : ℕ} {f : Facts} {r : Stepped} → StepOf G n f r → weight f ≤ weight r.facts
no_less {f = f} {r = r} w = let a : weight f + pick r.more 1 0 ≤ weight r.facts = w.grown in omega arith

pub weight_most : (f : Facts) → ((x : ℕ) → Fits w16 (row f.below x)) → ((x : ℕ) → Fits w16 (row f.child x))
    → ((x : ℕ) → Fits w16 (row f.before x))
    → weight f ≤ 3145680
unfolding weight
weight_most f b c d = let p = most (row f.below) b in let q = most (row f.child) c in let r = most (row f.before) d in omega arith
  where
    most : (t : ℕ → ℕ) → ((x : ℕ) → Fits w16 (t x)) → sum 16 t ≤ 1048560
    most t h = sum_bound 16 65535 t (λ x l. let a = (h x).fits in omega arith)
