-- What the loop over a family knows after some rounds: what the rows lead to; and what is spread over rows where there is nothing to spread.
use mathlib.Core.Path.{◌≡◌, subst}
use mathlib.Core.Logic.{◌≢◌, inl, ⊎_elim}
use mathlib.Core.List.{List}
use Prim.Native.Nat.{ℕ, ◌-◌, ◌<◌}
use native.Mathlib.Omega.{arith}
use lib.Bits.{bit_or, bit_xor, and_le_l, or_lt}
use Rattle.meaning.specs.Finite.{Yes}
use Rattle.meaning.proofs.Tests.{yes_case, clash}
use Rattle.rowbits.specs.Bit.{bit}
use Rattle.tables.specs.Rows.{without, Union}
use Rattle.tables.proofs.Bits.{none_in, or_case, or_l, or_r, some_in, in_row, or_le, without_in, without_out}
use Rattle.grouping.specs.Rows.{Spread}
use Rattle.siblings.specs.Rows.{Kin, own, to_later, to_earlier, Family}

-- ---- a group spread over no rows and no columns

module _ (t : List ℕ) (group along across : ℕ) (z : bit_or along across ≡ 0) where
  no_along : {A : Type 0} (j : ℕ) → Yes (bit along j) → A
  no_along j u = none_in j (subst (λ (k : ℕ). Yes (bit k j)) z (or_l along across j u))

  no_across : {A : Type 0} (i : ℕ) → Yes (bit across i) → A
  no_across i u = none_in i (subst (λ (k : ℕ). Yes (bit k i)) z (or_r along across i u))

  pub none_spread : Spread t group along across t
  none_spread = record { out = λ i j u. inl u; keeps = λ i j u. u; rows = λ i j u v. no_along j v; columns = λ i j u v. no_across i u }

  pub none_turned : Spread t group across along t
  none_turned = record { out = λ i j u. inl u; keeps = λ i j u. u; rows = λ i j u v. no_across j v; columns = λ i j u v. no_along i u }

-- ---- a family

-- all of the rows named is in v
pub all_in : (rows v : ℕ) → rows < 65536 → without rows v ≡ 0 → (j : ℕ) → Yes (bit rows j) → Yes (bit v j)
all_in rows v small z j u =
    ⊎_elim (λ y. y)
    (λ y. none_in j (subst (λ (k : ℕ). Yes (bit k j)) z (without_in rows v j (in_row rows j small u) u (λ q. clash q y)))) (yes_case (bit v j))

pub record Relating (before after : List ℕ) (group all : ℕ) : Type 0 where
  pub small : all < 65536
  pub from : (i : ℕ) → Yes (bit all i) → Kin before after group i
  pub owns : (i : ℕ) → Yes (bit group i) → Yes (bit all i)

module _ (before after : List ℕ) (group : ℕ) where
  pub relating_none : group < 65536 → Relating before after group group
  relating_none small = record { small = small; from = λ i u. own u; owns = λ i u. u }

  module _ (all later earlier : ℕ) (w : Relating before after group all) (ul : Union before all later) (ue : Union after all earlier) where
    near_small : bit_or later earlier < 65536
    near_small = or_lt 16 later earlier ul.small ue.small

    more_small : without (bit_or later earlier) all < 65536
    unfolding without
    more_small = let l = and_le_l (bit_or later earlier) (bit_xor all 65535) in let k = near_small in omega arith

    pub relating_more : Relating before after group (bit_or all (without (bit_or later earlier) all))
    relating_more = record {
      small = or_lt 16 all _ w.small more_small;
      from = λ i u. ⊎_elim (w.from i)
          (λ v. let q = without_out (bit_or later earlier) all i (in_row _ i more_small v) v in
          ⊎_elim (λ y. let k = ul.from i y in to_later (w.from k.0 k.1) k.2) (λ y. let k = ue.from i y in to_earlier (w.from k.0 k.1) k.2) (or_case later earlier i q.0))
          (or_case all _ i u);
      owns = λ i u. or_l all _ i (w.owns i u);
    }

    pub relating_less : without (bit_or later earlier) all ≢ 0 → 65536 - bit_or all (without (bit_or later earlier) all) < 65536 - all
    relating_less z =
        let k = some_in _ more_small z in
        let q = without_out (bit_or later earlier) all k.0 (in_row _ k.0 more_small k.1) k.1 in
        let e : bit_or all (without (bit_or later earlier) all) ≢ all = λ e. q.1 (subst (λ (i : ℕ). Yes (bit i k.0)) e (or_r all _ k.0 k.1)) in
        let l = or_le all (without (bit_or later earlier) all) in
        let s = relating_more.small in
        omega (arith, e, l, s)

    pub related : without (bit_or later earlier) all ≡ 0 → Family before after group all
    related z = record {
      small = w.small;
      from = w.from;
      owns = w.owns;
      later = λ i j u v. all_in _ all near_small z j (or_l later earlier j (ul.to i j u v));
      earlier = λ i j u v. all_in _ all near_small z j (or_r later earlier j (ue.to i j u v));
    }
