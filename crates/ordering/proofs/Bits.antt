-- Laws of rows beyond those of `tables`: the numbers of a row as a list, and a row that gathers what passes a test.
use mathlib.Core.Path.{◌≡◌, refl, sym, ap, ◌∙◌, subst}
use mathlib.Core.Logic.{◌≢◌}
use mathlib.Core.Bool.{Bool, true, false, not, ◌||◌}
use mathlib.Core.List.{List, [], ◌∷◌, ◌++◌, append_assoc}
use Prim.Native.Nat.{ℕ, zero, suc, ◌+◌, ◌^◌, ◌<◌, ◌≤◌, suc-le-suc}
use native.Mathlib.Nat.{le_refl, le_trans, le_step, not-suc-le-zero, div-eq_of_lt}
use native.Mathlib.Decide.{ℕ_discrete}
use native.Mathlib.Omega.{arith}
use lib.Bits.{and_le_l, or_zero_r}
use lib.Pow.{pow_mono}
use mir.Val.{bool_byte}
use Rattle.meaning.specs.Finite.{◌and◌, neg, one, pick, picked}
use Rattle.meaning.proofs.Tests.{clash, yes_eq, no_neg, is_eq, self_eq, and_left, and_right, and_both, yes_not}
use Rattle.rowbits.specs.Bit.{bit, with_bit}
use Rattle.rowbits.proofs.Laws.{bit_with, with_lt}
use Rattle.tables.specs.Rows.{gained, gained_one, without}
use Rattle.tables.proofs.Bits.{without_in, without_out}
use Rattle.ordering.specs.Rows.{Gathered}

-- ---- tests

pub and_true : (a : Bool) → (a and true) ≡ a
unfolding ◌and◌
and_true true = refl
and_true false = refl

pub and_false : (a : Bool) → (a and false) ≡ false
unfolding ◌and◌
and_false true = refl
and_false false = refl

pub and_turn : (a b : Bool) → (a and b) ≡ (b and a)
unfolding ◌and◌
and_turn true true = refl
and_turn true false = refl
and_turn false true = refl
and_turn false false = refl

or_false : (a : Bool) → (a || false) ≡ a
or_false true = refl
or_false false = refl

-- the opposite of a test
pub not_is : (b : Bool) → not b ≡ neg b
unfolding neg
not_is true = refl
not_is false = refl

-- a test as a byte
pub byte_is : (b : Bool) → bool_byte b ≡ one b
unfolding one
byte_is true = refl
byte_is false = refl

-- ---- single bits

pub bit_past : (k a i : ℕ) → a < 2 ^ k → k ≤ i → bit a i ≡ false
unfolding bit
bit_past k a i h l =
    let m : 2 ^ k ≤ 2 ^ i = pow_mono l in
    rw (div-eq_of_lt (le_trans h m))

-- ---- what is in one row and not in another

pub bit_without : (a b i : ℕ) → i < 16 → bit (without a b) i ≡ (bit a i and neg (bit b i))
bit_without a b i h =
    yes_eq _ _
    (λ t. let w = without_out a b i h t in and_both w.0 (no_neg w.1))
    (λ t. without_in a b i h (and_left _ t) (λ u. clash u (and_right (bit a i) t)))

-- ---- the numbers that pass a test

pub picked_eq : (n : ℕ) (p q : ℕ → Bool) → ((k : ℕ) → k < n → p k ≡ q k) → picked n p ≡ picked n q
unfolding picked
picked_eq zero p q h = refl
picked_eq (suc n) p q h = rw (picked_eq n p q (λ k l. h k (le_step l)), h n (le_refl _))

-- the numbers before one of them and those behind it, and the list without it
pub picked_apart : (n : ℕ) (p q : ℕ → Bool) (x : ℕ) → x < n → p x ≡ true → q x ≡ false → ((i : ℕ) → i < n → i ≢ x → q i ≡ p i)
    → (zs : List ℕ) × (picked n p ≡ picked x p ++ x ∷ zs) × (picked n q ≡ picked x p ++ zs)
unfolding picked pick
picked_apart zero p q x l t z h = absurd (not-suc-le-zero l)
picked_apart (suc n) p q x l t z h = go (ℕ_discrete x n) (λ k. picked_apart n p q x k t z (λ i k. h i (le_step k)))
  where
    go : Dec (x ≡ n) → (x < n → (zs : List ℕ) × (picked n p ≡ picked x p ++ x ∷ zs) × (picked n q ≡ picked x p ++ zs))
        → (zs : List ℕ) × (picked n p ++ pick (p n) (n ∷ []) [] ≡ picked x p ++ x ∷ zs) × (picked n q ++ pick (q n) (n ∷ []) [] ≡ picked x p ++ zs)
    go (yes e) r =
        let same : picked n q ≡ picked n p = picked_eq n q p (λ j k. h j (le_step k) (λ d. omega arith)) in
        ([], rw (← e, t), rw (same, ← e, z))
    go (no e) r =
        let w = r (omega arith) in (
          w.0 ++ pick (p n) (n ∷ []) [],
          ap (λ (ws : List ℕ). ws ++ pick (p n) (n ∷ []) []) w.1 ∙ append_assoc (picked x p) (x ∷ w.0) (pick (p n) (n ∷ []) []),
          ap (λ (b : Bool). picked n q ++ pick b (n ∷ []) []) (h n (le_refl _) (λ d. e (sym d))) ∙ ap (λ (ws : List ℕ). ws ++ pick (p n) (n ∷ []) []) w.2
              ∙ append_assoc (picked x p) w.0 (pick (p n) (n ∷ []) []),
        )

-- ---- a row that gathers the numbers that pass a test

pub gather_none : (p : ℕ → Bool) → Gathered 0 p 0
gather_none p = record { small = omega arith; each = λ y l. absurd (not-suc-le-zero l) }

marked_is : (t : Bool) (a k : ℕ) → gained_one t a k ≡ pick t (with_bit a k) a
unfolding gained_one gained pick with_bit
marked_is true a k = refl
marked_is false a k = or_zero_r a

pub gather_more : (p : ℕ → Bool) (k a b : ℕ) (t : Bool) → t ≡ p k → b ≡ gained_one t a k → Gathered k p a → Gathered (k + 1) p b
unfolding pick
gather_more p k a b t e d g = record {
  small = subst (λ (r : ℕ). r < 2 ^ (k + 1)) (sym (d ∙ marked_is t a k)) (small t);
  each = λ y l. ap (λ (r : ℕ). bit r y) (d ∙ marked_is t a k) ∙ each t e y (ℕ_discrete y k) l;
}
  where
    wider : a < 2 ^ (k + 1)
    wider = le_trans g.small (pow_mono {i = k} {j = k + 1} (omega arith))

    small : (t : Bool) → pick t (with_bit a k) a < 2 ^ (k + 1)
    small true = with_lt (k + 1) a k wider (omega arith)
    small false = wider

    each : (t : Bool) → t ≡ p k → (y : ℕ) → Dec (y ≡ k) → y < k + 1 → bit (pick t (with_bit a k) a) y ≡ p y
    each true e y (yes q) l = bit_with a k y ∙ rw (q, bit_past k a k g.small (le_refl _), self_eq k) e
    each false e y (yes q) l = rw q (bit_past k a k g.small (le_refl _) ∙ e)
    each true e y (no q) l =
        bit_with a k y ∙ ap (λ (b : Bool). bit a y || b) (yes_not (λ u. q (is_eq u))) ∙ or_false (bit a y) ∙ g.each y (omega arith)
    each false e y (no q) l = g.each y (omega arith)

-- a row less those of another, where the test asks that as well
pub gather_except : (p : ℕ → Bool) (n a b r : ℕ) → n ≤ 16 → r ≡ without a b → Gathered n p a → Gathered n (λ y. neg (bit b y) and p y) r
unfolding without
gather_except p n a b r few e g = record {
  small = rw e (le_trans (suc-le-suc (and_le_l a _)) g.small);
  each = λ y l. ap (λ (k : ℕ). bit k y) e ∙ bit_without a b y (omega arith) ∙ and_turn _ _ ∙ ap (λ (t : Bool). neg (bit b y) and t) (g.each y l);
}
