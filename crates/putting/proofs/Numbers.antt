-- The digits of a number are those of its tenth and one more; and how many a small number has.
use mathlib.Core.Path.{◌≡◌, refl, sym, subst}
use mathlib.Core.List.{List, [], ◌∷◌, ◌++◌}
use Prim.Native.Nat.{ℕ, zero, suc, ◌+◌, ◌*◌, ◌/◌, ◌%◌, ◌^◌, ◌≤◌, ◌<◌}
use native.Mathlib.Nat.{pow-succ'}
use native.Mathlib.Decide.{dec_le}
use native.Mathlib.Omega.{arith}
use lib.ListN.{length, length-append}
use Rattle.meaning.specs.Text.{before_last, digits_of, decimal}
use Rattle.lent.proofs.Stores.{put_same, put_then}
use Rattle.putting.specs.declared.Page.{Page}
use Rattle.putting.specs.Pages.{Puts}

no_leading : (q : ℕ) (more : Unit {0} → List ℕ) → q ≡ 0 → before_last q more ≡ []
unfolding before_last
no_leading q more e = rw e

some_leading : (q : ℕ) (more : Unit {0} → List ℕ) → 0 < q → before_last q more ≡ more tt
unfolding before_last
some_leading zero more h = absurd (omega arith)
some_leading (suc q) more h = refl

-- where there are enough of them it does not matter how many digits are allowed
same_digits : (f g n : ℕ) → n < f → n < g → digits_of f n ≡ digits_of g n
unfolding digits_of
same_digits zero g n h l = absurd (omega arith)
same_digits (suc f) zero n h l = absurd (omega arith)
same_digits (suc f) (suc g) n h l = by (λ k a b. same_digits f g k a b) (dec_le 10 n)
  where
    by : ((k : ℕ) → k < f → k < g → digits_of f k ≡ digits_of g k) → Dec (10 ≤ n) → digits_of (suc f) n ≡ digits_of (suc g) n
    by same (yes m) =
        rw (some_leading (n / 10) (λ _. digits_of f (n / 10)) (omega arith), some_leading (n / 10) (λ _. digits_of g (n / 10)) (omega arith), same (n / 10) (omega arith) (omega arith))
    by same (no m) =
        let z : n / 10 ≡ 0 = omega arith in
        rw (no_leading (n / 10) (λ _. digits_of f (n / 10)) z, no_leading (n / 10) (λ _. digits_of g (n / 10)) z)

pub decimal_one : (n : ℕ) → n < 10 → decimal n ≡ (48 + n % 10) ∷ []
unfolding decimal digits_of
decimal_one n h = let z : n / 10 ≡ 0 = omega arith in rw (no_leading (n / 10) (λ _. digits_of n (n / 10)) z)

pub decimal_more : (n : ℕ) → 10 ≤ n → decimal n ≡ decimal (n / 10) ++ ((48 + n % 10) ∷ [])
unfolding decimal digits_of
decimal_more n h = rw (some_leading (n / 10) (λ _. digits_of n (n / 10)) (omega arith), same_digits n (suc (n / 10)) (n / 10) (omega arith) (omega arith))

-- and one byte longer
pub decimal_longer : (n : ℕ) → 10 ≤ n → length (decimal n) ≡ length (decimal (n / 10)) + 1
decimal_longer n h = rw (decimal_more n h, length-append (decimal (n / 10)) ((48 + n % 10) ∷ []))

-- the last digit is put behind those of the tenth, or alone
module _ (p m r : Page) (n : ℕ) where
  pub put_tenth : {q : Page} → 10 ≤ n → m ≡ q → Puts p (decimal (n / 10)) q → Puts m ((48 + n % 10) ∷ []) r → Puts p
      (decimal n) r
  put_tenth h e f g = put_same (sym (decimal_more n h))
      (put_then f (subst (λ (x : Page). Puts x ((48 + n % 10) ∷ []) r) e g))

  pub put_lone : n < 10 → m ≡ p → Puts m ((48 + n % 10) ∷ []) r → Puts p (decimal n) r
  put_lone h e g = put_same (sym (decimal_one n h)) (subst (λ (x : Page). Puts x ((48 + n % 10) ∷ []) r) e g)

one_more : (q : ℕ) (more : Unit {0} → List ℕ) (d k : ℕ) → (0 < q → length (more tt) ≤ k) → length (before_last q more ++ (d ∷ [])) ≤ suc k
unfolding before_last
one_more zero more d k h = omega arith
one_more (suc q) more d k h = let l = h (omega arith) in omega (arith, length-append (more tt) (d ∷ []))

few_digits : (k f n : ℕ) → n < 10 ^ suc k → n < f → length (digits_of f n) ≤ suc k
unfolding digits_of
few_digits k zero n below more = absurd (omega arith)
few_digits zero (suc f) n below more =
    let z : n / 10 ≡ 0 = omega arith in
    rw (no_leading (n / 10) (λ _. digits_of f (n / 10)) z) (omega arith)
few_digits (suc k) (suc f) n below more =
    let p : 10 ^ suc (suc k) ≡ 10 * 10 ^ suc k = pow-succ' 10 (suc k) in
    one_more (n / 10) (λ _. digits_of f (n / 10)) (48 + n % 10) (suc k) (λ h. few_digits k f (n / 10) (omega arith) (omega arith))

-- a byte has at most three digits, a count at most ten, and a position, for all that its type says, at most twenty
pub byte_digits : (n : ℕ) → n < 256 → length (decimal n) ≤ 3
unfolding decimal
byte_digits n h = few_digits 2 (suc n) n (omega arith) (omega arith)

pub count_digits : (n : ℕ) → n < 4294967296 → length (decimal n) ≤ 10
unfolding decimal
count_digits n h = few_digits 9 (suc n) n (omega arith) (omega arith)

pub position_digits : (n : ℕ) → n < 18446744073709551616 → length (decimal n) ≤ 20
unfolding decimal
position_digits n h = few_digits 19 (suc n) n (omega arith) (omega arith)
