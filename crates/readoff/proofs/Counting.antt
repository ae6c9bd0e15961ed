-- Laws of rows beyond those of `ordering`: how many numbers a row has, when it is empty, and which it has that gathers what passes a test.
use mathlib.Core.Path.{◌≡◌, refl, sym, ap, ◌∙◌, subst}
use mathlib.Core.Bool.{Bool, false}
use mathlib.Core.List.{List, [], ◌∷◌, ◌++◌, append-nil}
use Prim.Native.Nat.{ℕ, zero, suc, ◌+◌, ◌-◌, ◌*◌, ◌/◌, ◌%◌, ◌^◌, ◌<◌, ◌≤◌}
use native.Mathlib.Nat.{le_refl, le_trans, le_step, mod-lt, pow-suc}
use native.Mathlib.Decide.{dec_lt, ℕ_discrete}
use native.Mathlib.Omega.{arith}
use lib.Arith.{lt-one}
use lib.Bits.{bit_and, and_mask}
use lib.Count.{ones, ones_step, ones_cat}
use lib.Dec.{eqb}
use lib.Pow.{pow_mono, pow_pos, shr_lt, split}
use Rattle.meaning.specs.Finite.{Yes, ◌and◌, neg, pick, anyb, one, sum, picked}
use Rattle.meaning.proofs.Tests.{clash, yes_eq, no_neg, is_eq, eq_yes, not_yes}
use Rattle.meaning.proofs.Finite.{any_intro, any_elim}
use Rattle.rowbits.specs.Bit.{bit}
use Rattle.rowbits.proofs.Laws.{bit_bit_and, bit_none}
use Rattle.tables.proofs.Bits.{all_has, some_in}
use Rattle.tables.proofs.Helpers.{and_is}
use Rattle.ordering.specs.Rows.{Gathered}
use Rattle.ordering.proofs.Bits.{and_true, bit_past, picked_eq}

-- ---- single bits

pub bit_meet : (a b i : ℕ) → bit (bit_and a b) i ≡ (bit a i and bit b i)
bit_meet a b i = bit_bit_and a b i ∙ and_is _ _

bit_mod : (k a i : ℕ) → i < k → bit (a % 2 ^ k) i ≡ bit a i
bit_mod k a i h =
    ap (λ (b : ℕ). bit b i) (sym (and_mask a k)) ∙ bit_meet a (2 ^ k - 1) i ∙ ap (λ (b : Bool). bit a i and b) (all_has k i h) ∙ and_true _

-- ---- pointwise

pub sum_eq : (n : ℕ) (f g : ℕ → ℕ) → ((k : ℕ) → k < n → f k ≡ g k) → sum n f ≡ sum n g
unfolding sum
sum_eq zero f g h = refl
sum_eq (suc n) f g h = let a = sum_eq n f g (λ k l. h k (le_step l)) in let b = h n (le_refl _) in omega arith

pub any_eq : (n : ℕ) (p q : ℕ → Bool) → ((k : ℕ) → k < n → p k ≡ q k) → anyb n p ≡ anyb n q
any_eq n p q h =
    yes_eq _ _
    (λ t. let w = any_elim n p t in any_intro n q w.0 w.1 (sym (h w.0 w.1) ∙ w.2))
    (λ t. let w = any_elim n q t in any_intro n p w.0 w.1 (h w.0 w.1 ∙ w.2))

-- nothing passes the test between k and m
picked_stop : (k m : ℕ) (p : ℕ → Bool) → k ≤ m → ((y : ℕ) → k ≤ y → y < m → p y ≡ false) → picked m p ≡ picked k p
unfolding picked pick
picked_stop k zero p l h = let e : 0 ≡ k = omega arith in ap (λ (i : ℕ). picked i p) e
picked_stop k (suc m) p l h = go (ℕ_discrete k (suc m)) (λ q. picked_stop k m p q (λ y a b. h y a (le_step b)))
  where
    nothing : (xs : List ℕ) → p m ≡ false → xs ++ pick (p m) (m ∷ []) [] ≡ xs
    nothing xs e = rw e (append-nil xs)

    go : Dec (k ≡ suc m) → (k ≤ m → picked m p ≡ picked k p) → picked m p ++ pick (p m) (m ∷ []) [] ≡ picked k p
    go (yes e) r = rw e
    go (no e) r = nothing _ (h m (omega arith) (le_refl _)) ∙ r (omega arith)

pub gathered_picked : (n : ℕ) (p : ℕ → Bool) (r : ℕ) → n ≤ 16 → Gathered n p r → picked 16 (bit r) ≡ picked n p
gathered_picked n p r h g = picked_stop n 16 (bit r) h (λ y l m. bit_past n r y g.small l) ∙ picked_eq n (bit r) p g.each

-- ---- the numbers of a row, counted

pub counted : (k a : ℕ) → a < 2 ^ k → ones a ≡ sum k (λ y. one (bit a y))
unfolding sum ones one bit
counted zero a h = ap ones (lt-one h)
counted (suc k) a h =
    let q : a / 2 ^ k < 2 = shr_lt 1 k (subst (λ (i : ℕ). a < 2 ^ i) (omega arith) h) in
    let e : ones a ≡ ones (a / 2 ^ k) + ones (a % 2 ^ k) = ap ones (sym (split a k)) ∙ ones_cat k (a / 2 ^ k) (a % 2 ^ k) (mod-lt a (pow_pos k)) in
    let r = counted k (a % 2 ^ k) (mod-lt a (pow_pos k)) in
    let s = sum_eq k (λ y. one (bit (a % 2 ^ k) y)) (λ y. one (bit a y)) (λ y l. ap one (bit_mod k a y l)) in
    let t : ones (a / 2 ^ k) ≡ one (bit a k) = last (a / 2 ^ k) q in
    omega arith
  where
    last : (d : ℕ) → d < 2 → ones d ≡ one (eqb (d % 2) 1)
    last zero l = refl
    last (suc zero) l = refl
    last (suc (suc d)) l = absurd (omega arith)

ones_none : (k a : ℕ) → a < 2 ^ k → ones a ≡ 0 → a ≡ 0
ones_none zero a h e = lt-one h
ones_none (suc k) a h e =
    let s = ones_step a in
    let p : 2 ^ suc k ≡ 2 ^ k * 2 = pow-suc 2 k in
    let r : a / 2 ≡ 0 = ones_none k (a / 2) (omega arith) (omega arith) in
    omega arith

-- a row is empty where it has no numbers
pub ones_zero : (a : ℕ) → a < 65536 → eqb (ones a) 0 ≡ eqb a 0
unfolding ones
ones_zero a h = yes_eq _ _ (λ t. eq_yes (ones_none 16 a h (is_eq t))) (λ t. eq_yes (ap ones (is_eq {x = a} {y = 0} t)))

pub empty : (k a : ℕ) → k ≤ 16 → a < 2 ^ k → eqb a 0 ≡ neg (anyb k (bit a))
empty k a l h =
    yes_eq _ _
    (λ t. no_neg (λ u. let w = any_elim k (bit a) u in not_yes (ap (λ (i : ℕ). bit i w.0) (is_eq t) ∙ bit_none w.0) w.2))
    (λ z. eq_yes (go z (ℕ_discrete a 0)))
  where
    member : Yes (neg (anyb k (bit a))) → (i : ℕ) → Yes (bit a i) → Dec (i < k) → a ≡ 0
    member z i u (yes q) = clash (any_intro k (bit a) i q u) z
    member z i u (no q) = absurd (not_yes (bit_past k a i h (omega arith)) u)

    go : Yes (neg (anyb k (bit a))) → Dec (a ≡ 0) → a ≡ 0
    go z (yes e) = e
    go z (no e) = let w = some_in a (le_trans h (pow_mono {i = k} {j = 16} l)) e in member z w.0 w.1 (dec_lt w.0 k)
