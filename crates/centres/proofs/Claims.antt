-- The sum that the loop of `draw` makes: what all records claim, which tells whether no guarantee and no amount is above its cap.
use mathlib.Core.Path.{◌≡◌, refl, ap}
use mathlib.Core.Logic.{⊎_elim}
use mathlib.Core.List.{List, [], ◌∷◌}
use Prim.Native.Nat.{ℕ, zero, suc, max, ◌+◌, ◌*◌, ◌≤◌, ◌<◌, ◌^◌}
use native.Mathlib.Omega.{arith}
use native.Mathlib.Nat.{not-suc-le-zero, le_of_suc-le-suc}
use native.Mathlib.Numerals.{add-one}
use lib.Dec.{leb}
use lib.ListN.{length, drop}
use Rattle.meaning.specs.declared.Centre.{Centre}
use Rattle.meaning.specs.Finite.{Yes, ◌and◌}
use Rattle.meaning.specs.Centres.{centre_at, sum_of, claimed}
use Rattle.meaning.proofs.Tests.{yes_case, and_left, and_right, and_both, clash, pick_yes, pick_no, is_le, le_yes, le_no}
use Rattle.theory.specs.Centres.{capped}
use Rattle.centres.specs.Plain.{claim}

abbrev pub claim_of : Centre → ℕ
claim_of c = claim c.guarantee c.cap c.drawn

abbrev pub claims : List Centre → ℕ
claims cs = sum_of claim_of cs

-- ---- one record

pub claim_in : (g k d : ℕ) → max g d ≤ k → claim g k d ≡ max g d
unfolding claim
claim_in g k d l = pick_yes _ _ (le_yes l)

pub claim_above : (g k d : ℕ) → k < max g d → claim g k d ≡ 2 ^ 32
unfolding claim
claim_above g k d h = pick_no _ _ (le_no h)

-- ---- all records

pub claims_capped : (cs : List Centre) → Yes (capped cs) → claims cs ≡ claimed cs
unfolding capped claimed sum_of
claims_capped [] y = refl
claims_capped (c ∷ cs) y =
    let b = and_left (capped cs) y in let r = claims_capped cs (and_right (leb c.guarantee c.cap and leb c.drawn c.cap) y) in
    let g : c.guarantee ≤ c.cap = is_le (and_left _ b) in let d : c.drawn ≤ c.cap = is_le (and_right (leb c.guarantee c.cap) b) in
    let e = claim_in c.guarantee c.cap c.drawn (omega (arith, g, d)) in
    omega (arith, e, r)

in_cap : (c : Centre) → max c.guarantee c.drawn ≤ c.cap → Yes (leb c.guarantee c.cap and leb c.drawn c.cap)
in_cap c l = and_both (le_yes {x = c.guarantee} {y = c.cap} (omega (arith, l))) (le_yes {x = c.drawn} {y = c.cap} (omega (arith, l)))

above : (c : Centre) → ¬ (max c.guarantee c.drawn ≤ c.cap) → c.cap < max c.guarantee c.drawn
above c n = omega (arith, n)

pub claims_above : (cs : List Centre) → ¬ Yes (capped cs) → 2 ^ 32 ≤ claims cs
unfolding capped sum_of
claims_above [] n = absurd (n refl)
claims_above (c ∷ cs) n =
    ⊎_elim (λ y. let r = claims_above cs (λ z. n (and_both y z)) in omega (arith, r))
    (λ z. let e = claim_above c.guarantee c.cap c.drawn (above c (λ l. clash (in_cap c l) z)) in omega (arith, e))
    (yes_case (leb c.guarantee c.cap and leb c.drawn c.cap))

-- ---- the loop

pub claims_on : (cs : List Centre) (i : ℕ) → i < length cs → claims (drop i cs) ≡ claim_of (centre_at cs i) + claims (drop (suc i) cs)
unfolding sum_of
claims_on [] i l = absurd (not-suc-le-zero l)
claims_on (c ∷ cs) zero l = refl
claims_on (c ∷ cs) (suc i) l = claims_on cs i (le_of_suc-le-suc l)

-- after some turns: how many records were looked at, and what they claim
pub record Progress (cs : List Centre) (reached sum : ℕ) : Type 0 where
  pub upto : reached ≤ length cs
  pub sums : sum + claims (drop reached cs) ≡ claims cs
  pub small : sum ≤ reached * 2 ^ 32

pub one_on : {cs : List Centre} {reached sum next : ℕ}
    → Progress cs reached sum → reached < length cs → next ≡ sum + claim_of (centre_at cs reached) → next ≤ sum + 2 ^ 32
    → Progress cs (reached + 1) next
one_on {cs} {reached} p l e w = record {
  upto = omega arith;
  sums = let on = claims_on cs reached l in let step = ap (λ (k : ℕ). claims (drop k cs)) (add-one reached) in omega (arith, on, step);
  small = omega arith;
}
