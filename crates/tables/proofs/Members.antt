-- The members of a row, taken one by one from the smallest: what is left, what is known of those that were passed, and what the rows
-- named hold together.
use mathlib.Core.Path.{◌≡◌, sym, ap, ◌∙◌, subst}
use mathlib.Core.Logic.{◌≢◌, ◌⊎◌, inl, inr, ⊎_elim}
use mathlib.Core.List.{List}
use Prim.Native.Nat.{ℕ, zero, suc, ◌-◌, ◌/◌, ◌%◌, ◌^◌, ◌<◌}
use native.Mathlib.Nat.{le_of_suc-le-suc, not-suc-le-zero, mod-lt, zero-lt-suc}
use native.Mathlib.Decide.{dec_lt, ℕ_discrete}
use native.Mathlib.Omega.{arith}
use lib.Bits.{bit_or, bit_and, and_le_l, or_lt}
use Rattle.meaning.specs.Finite.{Yes}
use Rattle.meaning.proofs.Tests.{yes_eq}
use Rattle.rowbits.specs.Bit.{bit}
use Rattle.tables.specs.Tables.{row}
use Rattle.tables.specs.Rows.{without, Lowest, Rest, Union}
use Rattle.tables.proofs.Bits.{bit_half, half, digit_in, in_digit, none_in, or_case, or_l, or_r, one_is, one_has, in_both, both_in, some_in, in_row, without_in, without_out, without_less}

-- ---- all but the smallest: a & (a - 1)

-- of a - 1: not the smallest number of a, and every larger one that a has
abbrev Lessened : ℕ → ℕ → Type 0
Lessened k a = (¬ Yes (bit (a - 1) k)) × ((i : ℕ) → k < i → bit (a - 1) i ≡ bit a i)

odd_one : (a : ℕ) → a % 2 ≡ 1 → Lessened 0 a
odd_one a odd = ((λ u. let e = in_digit (a - 1) u in omega arith), above)
  where
    above : (i : ℕ) → 0 < i → bit (a - 1) i ≡ bit a i
    above zero h = absurd (not-suc-le-zero h)
    above (suc i) h =
        let e : (a - 1) / 2 ≡ a / 2 = omega arith in
        sym (bit_half (a - 1) i) ∙ ap (λ (j : ℕ). bit j i) e ∙ bit_half a i

even_one : (k a : ℕ) → a % 2 ≡ 0 → a ≢ 0 → Lessened k (a / 2) → Lessened (suc k) a
even_one k a even some w = ((λ u. w.0 (subst (λ (j : ℕ). Yes (bit j k)) e (bit_half (a - 1) k ∙ u))), above)
  where
    e : (a - 1) / 2 ≡ a / 2 - 1
    e = omega arith

    above : (i : ℕ) → suc k < i → bit (a - 1) i ≡ bit a i
    above zero h = absurd (not-suc-le-zero h)
    above (suc i) h = sym (bit_half (a - 1) i) ∙ ap (λ (j : ℕ). bit j i) e ∙ w.1 i (le_of_suc-le-suc h) ∙ bit_half a i

less_one : (k a : ℕ) → ((i : ℕ) → i < k → ¬ Yes (bit a i)) → Yes (bit a k) → Lessened k a
less_one zero a low this = odd_one a (in_digit a this)
less_one (suc k) a low this =
    even_one k a (even (ℕ_discrete (a % 2) 1)) (λ z. none_in (suc k) (subst (λ (j : ℕ). Yes (bit j (suc k))) z this))
    (less_one k (a / 2) (λ i h u. low (suc i) (omega arith) (sym (bit_half a i) ∙ u)) (bit_half a k ∙ this))
  where
    even : Dec (a % 2 ≡ 1) → a % 2 ≡ 0
    even (yes o) = absurd (low 0 (zero-lt-suc k) (digit_in a o))
    even (no o) = let d = mod-lt a (zero-lt-suc 1) in omega arith

-- rows with the same numbers are equal
alike : (m a b : ℕ) → a < 2 ^ m → b < 2 ^ m → ((i : ℕ) → bit a i ≡ bit b i) → a ≡ b
alike zero a b ha hb h = omega arith
alike (suc m) a b ha hb h =
    let q : a / 2 ≡ b / 2 = alike m (a / 2) (b / 2) (half m a ha) (half m b hb) (λ i. bit_half a i ∙ h (suc i) ∙ sym (bit_half b i)) in
    let da = mod-lt a (zero-lt-suc 1) in
    let db = mod-lt b (zero-lt-suc 1) in
    last q (ℕ_discrete (a % 2) 1) (ℕ_discrete (b % 2) 1) da db
  where
    last : a / 2 ≡ b / 2 → Dec (a % 2 ≡ 1) → Dec (b % 2 ≡ 1) → a % 2 < 2 → b % 2 < 2 → a ≡ b
    last q (yes e) (yes d) x y = omega arith
    last q (yes e) (no d) x y = absurd (d (in_digit b (sym (h 0) ∙ digit_in a e)))
    last q (no e) (yes d) x y = absurd (e (in_digit a (h 0 ∙ digit_in b d)))
    last q (no e) (no d) x y = omega arith

pub lowest_in : (r k : ℕ) → r < 65536 → r ≢ 0 → Lowest r k → k < 16
lowest_in r k small some low = go (dec_lt k 16)
  where
    go : Dec (k < 16) → k < 16
    go (yes l) = l
    go (no l) = let w = some_in r small some in let q = in_row r w.0 small w.1 in absurd (low.none w.0 (omega arith) w.1)

pub rest_of : (a : ℕ) → a < 65536 → a ≢ 0 → Rest a (bit_and a (a - 1))
rest_of a small some k low = alike 16 _ _ and_small without_small (λ i. yes_eq _ _ (to i) (from i))
  where
    at : k < 16
    at = lowest_in a k small some low

    this : Yes (bit a k)
    this = low.this at

    digits : Lessened k a
    digits = less_one k a low.none this

    and_small : bit_and a (a - 1) < 65536
    and_small = let l = and_le_l a (a - 1) in omega arith

    without_small : without a (2 ^ k) < 65536
    without_small = let l = without_less a k at this in omega arith

    to : (i : ℕ) → Yes (bit (bit_and a (a - 1)) i) → Yes (bit (without a (2 ^ k)) i)
    to i u =
        let q = in_both a (a - 1) i u in
        without_in a (2 ^ k) i (in_row a i small q.0) q.0 (λ o. digits.0 (subst (λ (j : ℕ). Yes (bit (a - 1) j)) (one_is k i o) q.1))

    from : (i : ℕ) → Yes (bit (without a (2 ^ k)) i) → Yes (bit (bit_and a (a - 1)) i)
    from i u =
        let q = without_out a (2 ^ k) i (in_row _ i without_small u) u in
        both_in a (a - 1) i q.0 (digits.1 i (larger i q.0 q.1 (ℕ_discrete i k) (dec_lt i k)) ∙ q.0)
      where
        larger : (i : ℕ) → Yes (bit a i) → ¬ Yes (bit (2 ^ k) i) → Dec (i ≡ k) → Dec (i < k) → k < i
        larger i u v (yes e) d = absurd (v (subst (λ (j : ℕ). Yes (bit (2 ^ k) j)) (sym e) (one_has k)))
        larger i u v (no e) (yes l) = absurd (low.none i l u)
        larger i u v (no e) (no l) = omega arith

-- ---- the rows named

-- P holds of every row named but those that are left
pub record Passed (P : ℕ → Type 0) (rows rest : ℕ) : Type 0 where
  pub small : rest < 65536
  pub left : (i : ℕ) → Yes (bit rest i) → Yes (bit rows i)
  pub past : (i : ℕ) → Yes (bit rows i) → P i ⊎ Yes (bit rest i)

pub passed_none : (P : ℕ → Type 0) (rows : ℕ) → rows < 65536 → Passed P rows rows
passed_none P rows small = record { small = small; left = λ i u. u; past = λ i u. inr u }

module _ (P : ℕ → Type 0) (rows rest x : ℕ) (w : Passed P rows rest) (some : rest ≢ 0) (low : Lowest rest x) where
  pub next_in_lem : x < 16
  next_in_lem = lowest_in rest x w.small some low

  pub next_named : Yes (bit rows x)
  next_named = w.left x (low.this next_in_lem)

  pub passed_less : without rest (2 ^ x) < rest
  passed_less = without_less rest x next_in_lem (low.this next_in_lem)

  pub passed_more : (Q : ℕ → Type 0) → ((i : ℕ) → P i → Q i) → Q x → Passed Q rows (without rest (2 ^ x))
  passed_more Q up q = record {
    small = let l = passed_less in let k = w.small in omega arith;
    left = λ i u. w.left i (without_out rest (2 ^ x) i (in_row _ i (let l = passed_less in let k = w.small in omega arith) u) u).0;
    past = λ i u. ⊎_elim (λ p. inl (up i p)) (λ v. this i v (ℕ_discrete i x)) (w.past i u);
  }
    where
      this : (i : ℕ) → Yes (bit rest i) → Dec (i ≡ x) → Q i ⊎ Yes (bit (without rest (2 ^ x)) i)
      this i v (yes e) = inl (subst Q (sym e) q)
      this i v (no e) = inr (without_in rest (2 ^ x) i (in_row rest i w.small v) v (λ y. e (one_is x i y)))

pub passed_all : (P : ℕ → Type 0) (rows rest : ℕ) → Passed P rows rest → rest ≡ 0 → (i : ℕ) → Yes (bit rows i) → P i
passed_all P rows rest w z i u = ⊎_elim (λ p. p) (λ v. none_in i (subst (λ (k : ℕ). Yes (bit k i)) z v)) (w.past i u)

-- ---- what they hold together

abbrev pub Within : List ℕ → ℕ → ℕ → Type 0
Within t a i = (j : ℕ) → Yes (bit (row t i) j) → Yes (bit a j)

pub record Uniting (t : List ℕ) (rows a rest : ℕ) : Type 0 where
  pub small : a < 65536
  pub from : (j : ℕ) → Yes (bit a j) → (i : ℕ) × Yes (bit rows i) × Yes (bit (row t i) j)
  pub passed : Passed (Within t a) rows rest

pub uniting_none : (t : List ℕ) (rows : ℕ) → rows < 65536 → Uniting t rows 0 rows
uniting_none t rows small = record { small = omega arith; from = λ j u. none_in j u; passed = passed_none _ rows small }

pub uniting_more : (t : List ℕ) (rows a rest x : ℕ) → Uniting t rows a rest → rest ≢ 0 → Lowest rest x → row t x < 65536
    → Uniting t rows (bit_or a (row t x)) (without rest (2 ^ x))
uniting_more t rows a rest x w some low s = record {
  small = or_lt 16 a (row t x) w.small s;
  from = λ j u. ⊎_elim (w.from j) (λ v. (x, next_named _ rows rest x w.passed some low, v)) (or_case a (row t x) j u);
  passed = passed_more _ rows rest x w.passed some low _ (λ i p j u. or_l a (row t x) j (p j u)) (λ j u. or_r a (row t x) j u);
}

pub is_union : (t : List ℕ) (rows a rest : ℕ) → Uniting t rows a rest → rest ≡ 0 → Union t rows a
is_union t rows a rest w z = record { small = w.small; from = w.from; to = λ i j u v. passed_all _ rows rest w.passed z i u j v }
