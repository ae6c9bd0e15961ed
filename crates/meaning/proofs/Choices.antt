-- How many alternatives a search enters, from the relation alone: each level of alternatives open at once at most doubles them.
use mathlib.Core.Path.{◌≡◌}
use mathlib.Core.List.{List}
use Prim.Native.Nat.{ℕ, suc, ◌+◌, ◌*◌, ◌^◌, ◌≤◌, max}
use native.Mathlib.Omega.{arith}
use lib.Pow.{pow_mono}
use native.Mathlib.Nat.{pow-suc}
use native.Mathlib.Numerals.{add-one}
use Rattle.meaning.specs.Constraint.{Fact}
use Rattle.meaning.specs.FixedSearch.{Outcome, Ends, clashed, solved, in_first, in_second, open_at_once}
use Rattle.meaning.specs.Demand.{FewChoices}

none_yet : FewChoices 0 0
none_yet = omega arith

-- a level more
doubles : (k : ℕ) → 2 ^ (suc k + 1) ≡ 2 * 2 ^ (k + 1)
doubles k = rw (add-one (suc k), pow-suc 2 (suc k), add-one k) (omega arith)

some : (k : ℕ) → 2 ≤ 2 ^ (k + 1)
some k = pow_mono {i = 1} {j = k + 1} (omega arith)

one_line : (c k : ℕ) → FewChoices k c → FewChoices (suc k) (1 + c)
one_line c k h = let d = doubles k in let s = some k in omega arith

pub few_wider : {k m c : ℕ} → k ≤ m → FewChoices k c → FewChoices m c
few_wider {k} {m} l h = let p : 2 ^ (k + 1) ≤ 2 ^ (m + 1) = pow_mono (omega arith) in omega arith

two_lines : (c d k m : ℕ) → FewChoices k c → FewChoices m d → FewChoices (suc (max k m)) (2 + c + d)
two_lines c d k m g h =
    let a : FewChoices (max k m) c = few_wider {k = k} {m = max k m} {c = c} (omega arith) g in
    let b : FewChoices (max k m) d = few_wider {k = m} {m = max k m} {c = d} (omega arith) h in
    let e = doubles (max k m) in
    let s = some (max k m) in
    omega arith

pub few_choices : {n : ℕ} {S : List Fact} {o : Outcome} {c : ℕ} (e : Ends n S o c) → FewChoices (open_at_once e) c
unfolding open_at_once
few_choices (clashed k) = none_yet
few_choices (solved k q) = none_yet
few_choices (in_first {c = c} j k f l) = one_line c _ (few_choices l)
few_choices (in_second {c = c} {d = d} j k f l r) = two_lines c d _ _ (few_choices l) (few_choices r)
