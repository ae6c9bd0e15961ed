-- Laws of rows: what is in a row that another was added to, in a meet, in all numbers below n, in one row and not in another.
use mathlib.Core.Path.{◌≡◌, refl, sym, ap, ◌∙◌, subst}
use mathlib.Core.Logic.{◌≢◌, ◌⊎◌, inl, inr, ⊎_elim}
use mathlib.Core.Bool.{Bool, true, false, ◌||◌, false≢true}
use Prim.Native.Nat.{ℕ, zero, suc, ◌-◌, ◌*◌, ◌/◌, ◌%◌, ◌^◌, ◌<◌, ◌≤◌}
use native.Mathlib.Nat.{le_of_suc-le-suc, not-suc-le-zero, le_refl, le_trans, mod-lt, zero-lt-suc, div-eq_of_lt, pow-suc, mod-eq_of_lt, div-div-eq-div-mul, mul_comm, mul-add-mod_self_right}
use native.Mathlib.Decide.{dec_lt, ℕ_discrete}
use native.Mathlib.Omega.{arith}
use lib.Dec.{eqb}
use lib.Bits.{bit_or, bit_and, bit_xor, or_add_and, and_le_l, and_le_r, and_mask, xor_add_and, xor_shr, xor_step, differ as bit_differ}
use lib.Count.{count_trailing_zeros, under, trailing_le}
use lib.Pow.{pow_mono, pow_pos, pow-lt}
use Rattle.meaning.specs.Finite.{Yes, pick}
use Rattle.meaning.proofs.Tests.{clash, no_neg, is_eq, self_eq, eq_yes}
use Rattle.rowbits.specs.Bit.{bit}
use Rattle.rowbits.proofs.Laws.{bit_bit_or, bit_bit_and, bit_one, bit_none}
use Rattle.tables.proofs.Tested.{or_yes, and_yes, yes_and}
use Rattle.tables.specs.Rows.{Up, Lowest, gained, meets, without}

-- ---- a union, a meet, one number

yes_or : (a b : Bool) → Yes a ⊎ Yes b → Yes (a || b)
yes_or true b t = refl
yes_or false b (inl t) = absurd (false≢true t)
yes_or false b (inr t) = t

pub or_case : (a b i : ℕ) → Yes (bit (bit_or a b) i) → Yes (bit a i) ⊎ Yes (bit b i)
or_case a b i t = or_yes _ _ (sym (bit_bit_or a b i) ∙ t)

pub or_l : (a b i : ℕ) → Yes (bit a i) → Yes (bit (bit_or a b) i)
or_l a b i t = bit_bit_or a b i ∙ yes_or _ _ (inl t)

pub or_r : (a b i : ℕ) → Yes (bit b i) → Yes (bit (bit_or a b) i)
or_r a b i t = bit_bit_or a b i ∙ yes_or (bit a i) (bit b i) (inr t)

pub in_both : (a b i : ℕ) → Yes (bit (bit_and a b) i) → Yes (bit a i) × Yes (bit b i)
in_both a b i t = and_yes _ _ (sym (bit_bit_and a b i) ∙ t)

pub both_in : (a b i : ℕ) → Yes (bit a i) → Yes (bit b i) → Yes (bit (bit_and a b) i)
both_in a b i s t = bit_bit_and a b i ∙ yes_and _ _ s t

pub one_is : (j i : ℕ) → Yes (bit (2 ^ j) i) → i ≡ j
one_is j i t = is_eq (sym (bit_one j i) ∙ t)

pub one_has : (j : ℕ) → Yes (bit (2 ^ j) j)
one_has j = bit_one j j ∙ self_eq j

pub none_in : (i : ℕ) {A : Type 0} → Yes (bit 0 i) → A
none_in i t = absurd (false≢true (sym (bit_none i) ∙ t))

pub or_le : (a b : ℕ) → a ≤ bit_or a b
or_le a b = let p = or_add_and a b in let q = and_le_r a b in omega arith

pub up_or : (a b : ℕ) → Up a (bit_or a b)
up_or a b = record { most = or_le a b; kept = λ i. or_l a b i }

pub up_self : (a : ℕ) → Up a a
up_self a = record { most = le_refl _; kept = λ i t. t }

pub up_trans : {a b c : ℕ} → Up a b → Up b c → Up a c
up_trans p q = record { most = le_trans p.most q.most; kept = λ i t. q.kept i (p.kept i t) }

-- ---- a row, with another one added where a test holds

pub gained_up : (t : Bool) (a b : ℕ) → Up a (gained t a b)
unfolding gained
gained_up t a b = up_or a _

pub gained_has : (t : Bool) (a b i : ℕ) → Yes t → Yes (bit b i) → Yes (bit (gained t a b) i)
unfolding gained pick
gained_has true a b i s u = or_r a b i u
gained_has false a b i s u = absurd (false≢true s)

pub gained_case : (t : Bool) (a b i : ℕ) → Yes (bit (gained t a b) i) → Yes (bit a i) ⊎ (Yes t × Yes (bit b i))
unfolding gained pick
gained_case true a b i u = ⊎_elim inl (λ v. inr (refl, v)) (or_case a b i u)
gained_case false a b i u = ⊎_elim inl (λ v. none_in i v) (or_case a 0 i u)

pub one_small : (y : ℕ) → y < 16 → 2 ^ y < 65536
one_small y h = pow-lt {i = y} {j = 16} h

-- ---- some number in a row

-- the digits above the lowest
pub bit_half : (a i : ℕ) → bit (a / 2) i ≡ bit a (suc i)
unfolding bit
bit_half a i =
    let e : a / 2 / 2 ^ i ≡ a / 2 ^ suc i = div-div-eq-div-mul a 2 (2 ^ i) ∙ ap (λ (k : ℕ). a / k) (mul_comm 2 (2 ^ i) ∙ sym (pow-suc 2 i)) in
    ap (λ (k : ℕ). eqb (k % 2) 1) e

pub half : (k a : ℕ) → a < 2 ^ suc k → a / 2 < 2 ^ k
half k a h = let p : 2 ^ suc k ≡ 2 ^ k * 2 = pow-suc 2 k in omega arith

some : (k a : ℕ) → a < 2 ^ k → a ≢ 0 → (i : ℕ) × Yes (bit a i)
unfolding bit
some zero a h z = absurd (z (omega arith))
some (suc k) a h z = go (ℕ_discrete (a % 2) 1) (λ q. some k (a / 2) (half k a h) q)
  where
    go : Dec (a % 2 ≡ 1) → (a / 2 ≢ 0 → (i : ℕ) × Yes (eqb (a / 2 / 2 ^ i % 2) 1)) → (i : ℕ) × Yes (eqb (a / 2 ^ i % 2) 1)
    go (yes e) r = (0, eq_yes {x = a / 2 ^ 0 % 2} {y = 1} (omega arith))
    go (no e) r = let w = r (λ q. z (omega arith)) in (suc w.0, sym (bit_half a w.0) ∙ w.1)

pub meets_out : (a b : ℕ) → a < 65536 → Yes (meets a b) → (i : ℕ) × Yes (bit a i) × Yes (bit b i)
unfolding meets
meets_out a b h t =
    let q = and_le_l a b in
    let w = some 16 (bit_and a b) (omega arith) (λ e. clash (eq_yes e) t) in
    let v = in_both a b w.0 w.1 in
    (w.0, v.0, v.1)

pub meets_in : (a b i : ℕ) → Yes (bit a i) → Yes (bit b i) → Yes (meets a b)
unfolding meets
meets_in a b i s t = no_neg (λ e. none_in i (subst (λ (k : ℕ). Yes (bit k i)) (is_eq e) (both_in a b i s t)))

-- ---- all numbers below n

pub all_is : (n i : ℕ) → Yes (bit (2 ^ n - 1) i) → i < n
unfolding bit
all_is n i t = go (dec_lt i n)
  where
    go : Dec (i < n) → i < n
    go (yes h) = h
    go (no h) =
        let m : 2 ^ n ≤ 2 ^ i = pow_mono {i = n} {j = i} (omega arith) in
        let p : 1 ≤ 2 ^ n = pow_pos n in
        let z : (2 ^ n - 1) / 2 ^ i ≡ 0 = div-eq_of_lt (omega arith) in
        absurd (let e : (2 ^ n - 1) / 2 ^ i % 2 ≡ 1 = is_eq t in omega arith)

pub all_has : (n i : ℕ) → i < n → Yes (bit (2 ^ n - 1) i)
all_has n i h =
    (in_both (2 ^ i) (2 ^ n - 1) i
    (subst (λ (k : ℕ). Yes (bit k i)) (sym (and_mask (2 ^ i) n ∙ mod-eq_of_lt (pow-lt h))) (one_has i))).1

-- ---- what did not change

pub xor_zero : (a b : ℕ) → bit_xor a b ≡ 0 → a ≡ b
xor_zero a b e = let p = xor_add_and a b in let q = and_le_l a b in let r = and_le_r a b in omega arith

-- ---- what is not in a row

bit_is : (a i : ℕ) → (Yes (bit a i) × (a / 2 ^ i % 2 ≡ 1)) ⊎ ((¬ Yes (bit a i)) × (a / 2 ^ i % 2 ≡ 0))
unfolding bit
bit_is a i = go (ℕ_discrete (a / 2 ^ i % 2) 1)
  where
    go : Dec (a / 2 ^ i % 2 ≡ 1) → (Yes (eqb (a / 2 ^ i % 2) 1) × (a / 2 ^ i % 2 ≡ 1)) ⊎ ((¬ Yes (eqb (a / 2 ^ i % 2) 1)) × (a / 2 ^ i % 2 ≡ 0))
    go (yes e) = inl (eq_yes e, e)
    go (no e) = inr ((λ y. e (is_eq y)), omega arith)

flip_digit : (a b i : ℕ) → bit_xor a b / 2 ^ i % 2 ≡ bit_differ (a / 2 ^ i % 2) (b / 2 ^ i % 2) % 2
flip_digit a b i = rw (xor_shr a b i, xor_step (a / 2 ^ i) (b / 2 ^ i), mul-add-mod_self_right)

pub flip_has : (a i : ℕ) → i < 16 → ¬ Yes (bit a i) → Yes (bit (bit_xor a 65535) i)
unfolding bit
flip_has a i h n =
    ⊎_elim (λ p. absurd (n p.0))
    (λ p. ⊎_elim (λ q. eq_yes (flip_digit a 65535 i ∙ rw (p.1, q.1))) (λ q. absurd (q.0 (all_has 16 i h))) (bit_is 65535 i)) (bit_is a i)

pub flip_not : (a i : ℕ) → i < 16 → Yes (bit (bit_xor a 65535) i) → ¬ Yes (bit a i)
unfolding bit
flip_not a i h u y =
    ⊎_elim
    (λ p. ⊎_elim (λ q. let e : bit_xor a 65535 / 2 ^ i % 2 ≡ 0 = flip_digit a 65535 i ∙ rw (p.1, q.1) in
    let o : bit_xor a 65535 / 2 ^ i % 2 ≡ 1 = is_eq u in omega arith) (λ q. q.0 (all_has 16 i h)) (bit_is 65535 i))
    (λ p. p.0 y) (bit_is a i)

-- a row that is not empty has a number
pub some_in : (a : ℕ) → a < 65536 → a ≢ 0 → (i : ℕ) × Yes (bit a i)
some_in a h z = some 16 a h z

-- a row's numbers are below 16
pub in_row : (a i : ℕ) → a < 65536 → Yes (bit a i) → i < 16
unfolding bit
in_row a i h u = go (dec_lt i 16)
  where
    go : Dec (i < 16) → i < 16
    go (yes l) = l
    go (no l) =
        let m : 2 ^ 16 ≤ 2 ^ i = pow_mono {i = 16} {j = i} (omega arith) in
        let z : a / 2 ^ i ≡ 0 = div-eq_of_lt (omega arith) in
        absurd (let e : a / 2 ^ i % 2 ≡ 1 = is_eq u in omega arith)

-- ---- what is in one row and not in another

pub without_in : (a b i : ℕ) → i < 16 → Yes (bit a i) → ¬ Yes (bit b i) → Yes (bit (without a b) i)
unfolding without
without_in a b i h u v = both_in a (bit_xor b 65535) i u (flip_has b i h v)

pub without_out : (a b i : ℕ) → i < 16 → Yes (bit (without a b) i) → Yes (bit a i) × (¬ Yes (bit b i))
unfolding without
without_out a b i h u = let q = in_both a (bit_xor b 65535) i u in (q.0, flip_not b i h q.1)

-- a row is less without one of its numbers
pub without_less : (a j : ℕ) → j < 16 → Yes (bit a j) → without a (2 ^ j) < a
unfolding without
without_less a j h u = go (ℕ_discrete (bit_and a (bit_xor (2 ^ j) 65535)) a)
  where
    go : Dec (bit_and a (bit_xor (2 ^ j) 65535) ≡ a) → bit_and a (bit_xor (2 ^ j) 65535) < a
    go (yes e) = absurd (flip_not (2 ^ j) j h (in_both a (bit_xor (2 ^ j) 65535) j (subst (λ (k : ℕ). Yes (bit k j)) (sym e) u)).1 (one_has j))
    go (no e) = let l = and_le_l a (bit_xor (2 ^ j) 65535) in omega arith

-- ---- the smallest number in a row

pub digit_in : (a : ℕ) → a % 2 ≡ 1 → Yes (bit a 0)
unfolding bit
digit_in a e = eq_yes {x = a / 2 ^ 0 % 2} {y = 1} (omega arith)

pub in_digit : (a : ℕ) → Yes (bit a 0) → a % 2 ≡ 1
unfolding bit
in_digit a u = let q : a / 2 ^ 0 % 2 ≡ 1 = is_eq u in omega arith

trailing_none : (k a i : ℕ) → i < count_trailing_zeros k a → ¬ Yes (bit a i)
unfolding count_trailing_zeros
trailing_none zero a i h = absurd (not-suc-le-zero h)
trailing_none (suc k) a i h = go (a % 2) refl i h (λ j. trailing_none k (a / 2) j)
  where
    go : (r : ℕ) → a % 2 ≡ r → (i : ℕ) → i < under r (count_trailing_zeros k (a / 2)) → ((j : ℕ) → j < count_trailing_zeros k (a / 2) → ¬ Yes (bit (a / 2) j)) → ¬ Yes (bit a i)
    go zero e zero l rest u = let q = in_digit a u in omega arith
    go zero e (suc i) l rest u = rest i (le_of_suc-le-suc l) (bit_half a i ∙ u)
    go (suc r) e i l rest u = not-suc-le-zero l

trailing_this : (k a : ℕ) → count_trailing_zeros k a < k → Yes (bit a (count_trailing_zeros k a))
unfolding count_trailing_zeros
trailing_this zero a h = absurd (not-suc-le-zero h)
trailing_this (suc k) a h = go (a % 2) refl h (trailing_this k (a / 2))
  where
    go : (r : ℕ) → a % 2 ≡ r → under r (count_trailing_zeros k (a / 2)) < suc k
        → (count_trailing_zeros k (a / 2) < k → Yes (bit (a / 2) (count_trailing_zeros k (a / 2)))) → Yes (bit a (under r (count_trailing_zeros k (a / 2))))
    go zero e l rest = sym (bit_half a (count_trailing_zeros k (a / 2))) ∙ rest (le_of_suc-le-suc l)
    go (suc r) e l rest = digit_in a (let d = mod-lt a (zero-lt-suc 1) in omega arith)

pub lowest_of : (a : ℕ) → Lowest a (count_trailing_zeros 16 a)
lowest_of a = record { most = trailing_le 16 a; none = trailing_none 16 a; this = trailing_this 16 a }

-- ---- rows with the same numbers

row_same : (k a b : ℕ) → a < 2 ^ k → b < 2 ^ k → ((i : ℕ) → bit a i ≡ bit b i) → a ≡ b
row_same zero a b l m e = omega arith
row_same (suc k) a b l m e =
    let h : a / 2 ≡ b / 2 = row_same k (a / 2) (b / 2) (half k a l) (half k b m) (λ i. bit_half a i ∙ e (suc i) ∙ sym (bit_half b i)) in
    let d : a % 2 ≡ b % 2 = digit (ℕ_discrete (a % 2) 1) (ℕ_discrete (b % 2) 1) in
    omega arith
  where
    digit : Dec (a % 2 ≡ 1) → Dec (b % 2 ≡ 1) → a % 2 ≡ b % 2
    digit (yes u) (yes v) = u ∙ sym v
    digit (yes u) (no v) = absurd (v (in_digit b (sym (e 0) ∙ digit_in a u)))
    digit (no u) (yes v) = absurd (u (in_digit a (e 0 ∙ digit_in b v)))
    digit (no u) (no v) = omega arith

pub same_row : (a b : ℕ) → a < 65536 → b < 65536 → ((i : ℕ) → bit a i ≡ bit b i) → a ≡ b
same_row a b = row_same 16 a b
