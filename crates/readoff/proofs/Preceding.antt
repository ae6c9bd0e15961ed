-- Of tables that decide a settled set: by the rows of `after` one variable goes before another where the tables say before, which is a
-- strict order.
use mathlib.Core.Path.{◌≡◌, sym, ◌∙◌, subst, fun_ext}
use mathlib.Core.List.{List}
use Prim.Native.Nat.{ℕ, ◌≤◌, ◌<◌}
use native.Mathlib.Nat.{le_trans}
use native.Mathlib.Decide.{dec_lt}
use native.Mathlib.Omega.{arith}
use lib.ListN.{length, get_or-eq_default}
use Rattle.meaning.specs.Constraint.{Fact, before}
use Rattle.meaning.specs.Settled.{Settled, differs, before_differ, before_chain}
use Rattle.meaning.specs.Finite.{Yes}
use Rattle.meaning.proofs.Tests.{yes_eq}
use Rattle.meaning.proofs.Least.{settled_within}
use Rattle.rowbits.specs.Bit.{bit}
use Rattle.tables.specs.declared.Facts.{Facts}
use Rattle.tables.specs.Tables.{row, has, Ready}
use Rattle.tables.proofs.Bits.{none_in, in_row}
use Rattle.ordering.specs.Listing.{precedes, Strict}

-- the rows of `after` say what is before what
abbrev pub SayBefore : Facts → Type 0
SayBefore f = precedes f.after ≡ (λ w g. has f (before w g))

module _ (f : Facts) (n : ℕ) (few : n ≤ 16) (S : List Fact) (r : Ready n S f) (long : length f.after ≡ 16) (fits : (g : ℕ) → row f.after g < 65536) where
  is_settled : (w g : ℕ) → Yes (precedes f.after w g) → Settled n S (before w g)
  unfolding has
  is_settled w g t = go (dec_lt g 16)
    where
      go : Dec (g < 16) → Settled n S (before w g)
      go (yes l) = r.decides.sound (sym (r.mirrored.siblings w g (in_row (row f.after g) w (fits g) t) l) ∙ t)
      go (no l) = none_in w (subst (λ (k : ℕ). Yes (bit k w)) (get_or-eq_default f.after 0 (omega arith)) t)

  settled_is : (w g : ℕ) → Settled n S (before w g) → Yes (precedes f.after w g)
  unfolding has
  settled_is w g s = let i = settled_within n S r.inside s in r.mirrored.siblings w g (le_trans i.0 few) (le_trans i.1 few) ∙ r.decides.complete s

  pub says_before : SayBefore f
  says_before = fun_ext (λ w. fun_ext (λ g. yes_eq _ _ (λ t. r.decides.complete (is_settled w g t)) (λ t. settled_is w g (r.decides.sound t))))

  pub strict : Strict f.after
  strict = record {
    not_self = λ v t. r.free (differs (before_differ (is_settled v v t)));
    chains = λ u v w a b. settled_is u w (before_chain (is_settled u v a) (is_settled v w b));
  }
