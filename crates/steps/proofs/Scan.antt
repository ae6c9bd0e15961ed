-- The look ahead over brackets, byte by byte from a place.
use mathlib.Core.Path.{◌≡◌, refl, sym, ap, ◌∙◌}
use mathlib.Core.Bool.{false}
use mathlib.Core.List.{List, [], ◌∷◌}
use Prim.Native.Nat.{ℕ, zero, suc, ◌+◌, ◌-◌, ◌≤◌, ◌<◌}
use native.Mathlib.Omega.{arith}
use native.Mathlib.Numerals.{add-one}
use Prim.Native.Nat.{suc-le-suc}
use native.Mathlib.Nat.{add-zero, not-suc-le-zero, zero-lt-suc}
use Rattle.meaning.specs.Finite.{Yes}
use Rattle.meaning.proofs.Tests.{is_eq}
use Rattle.theory.specs.Reader.{byte}
use lib.ListN.{length, get_or, drop, drop_of_length-le}
use lib.Seq.{drop-cons, get_or-drop}
use lib.Dec.{eqb}
use Rattle.theory.specs.PathReader.{goes_on}
use Rattle.theory.proofs.PathScan.{goes_on_past, bracket_opens, bracket_closes, goes_on_here}

byte_at : (s : List ℕ) (i : ℕ) → byte (drop i s) ≡ get_or s i 0
byte_at s i = get_or-drop i s 0 0 ∙ ap (λ (k : ℕ). get_or s k 0) (add-zero i)

byte_no : (s : List ℕ) (i b : ℕ) → (get_or s i 0 ≡ b → ⊥) → ¬ Yes (eqb (byte (drop i s)) b)
byte_no s i b n y = n (sym (byte_at s i) ∙ is_eq y)

pub goes_on_end : (s : List ℕ) (i depth : ℕ) → length s ≤ i → false ≡ goes_on depth (drop i s)
goes_on_end s i depth h = sym (ap (goes_on depth) (drop_of_length-le s h) ∙ nil depth)
  where
    nil : (d : ℕ) → goes_on d [] ≡ false
    nil zero = unfold goes_on in refl
    nil (suc d) = unfold goes_on in refl

module _ (s : List ℕ) (i : ℕ) (l : i < length s) where
  at_place : (depth : ℕ) → goes_on depth (drop i s) ≡ goes_on depth (get_or s i 0 ∷ drop (i + 1) s)
  at_place depth = ap (goes_on depth) (drop-cons s i 0 l ∙ ap (λ (k : ℕ). get_or s i 0 ∷ drop k s) (sym (add-one i)))

  -- the byte there is known
  at_byte : (depth c : ℕ) → get_or s i 0 ≡ c → goes_on depth (drop i s) ≡ goes_on depth (c ∷ drop (i + 1) s)
  at_byte depth c e = at_place depth ∙ ap (λ (b : ℕ). goes_on depth (b ∷ drop (i + 1) s)) e

  pub goes_on_open : (depth : ℕ) → get_or s i 0 ≡ 91 → goes_on (depth + 1) (drop (i + 1) s) ≡ goes_on depth (drop i s)
  goes_on_open depth e = ap (λ (k : ℕ). goes_on k (drop (i + 1) s)) (add-one depth) ∙ sym (at_byte depth 91 e ∙ bracket_opens depth _)

  pub goes_on_close : (depth : ℕ) → (depth ≡ 0 → ⊥) → get_or s i 0 ≡ 93 → goes_on (depth - 1) (drop (i + 1) s) ≡ goes_on depth (drop i s)
  goes_on_close zero z e = absurd (z refl)
  goes_on_close (suc depth) z e =
      let h : suc depth - 1 ≡ depth = omega arith in ap (λ (k : ℕ). goes_on k (drop (i + 1) s)) h ∙ sym (at_byte (suc depth) 93 e ∙ bracket_closes depth _)

  pub goes_on_inside : (depth : ℕ) → (depth ≡ 0 → ⊥) → (get_or s i 0 ≡ 91 → ⊥) → (get_or s i 0 ≡ 93 → ⊥) → goes_on depth (drop (i + 1) s) ≡ goes_on depth (drop i s)
  goes_on_inside zero z n m = absurd (z refl)
  goes_on_inside (suc depth) z n m = sym (at_place (suc depth) ∙ goes_on_past (get_or s i 0) depth _ n m)

-- where no bracket is open
pub goes_on_now : (s : List ℕ) (i : ℕ) → (get_or s i 0 ≡ 91 → ⊥) → eqb (get_or s i 0) 47 ≡ goes_on 0 (drop i s)
goes_on_now s i n = ap (λ (b : ℕ). eqb b 47) (sym (byte_at s i)) ∙ sym (goes_on_here (drop i s) (byte_no s i 91 n))

-- where the one that is open closes
module _ (s : List ℕ) (i : ℕ) (l : i < length s) (depth : ℕ) (z : depth ≡ 1) (e : get_or s i 0 ≡ 93) where
  closed : goes_on 0 (drop (i + 1) s) ≡ goes_on depth (drop i s)
  closed = let h : 0 ≡ depth - 1 = omega (arith, z) in ap (λ (k : ℕ). goes_on k (drop (i + 1) s)) h ∙ goes_on_close s i l depth (λ y. omega (arith, z, y)) e

  pub goes_on_last : (get_or s (i + 1) 0 ≡ 91 → ⊥) → eqb (get_or s (i + 1) 0) 47 ≡ goes_on depth (drop i s)
  goes_on_last n = goes_on_now s (i + 1) n ∙ closed

  pub goes_on_next : i + 1 < length s → get_or s (i + 1) 0 ≡ 91 → goes_on depth (drop (i + 1 + 1) s) ≡ goes_on depth (drop i s)
  goes_on_next j f = ap (λ (k : ℕ). goes_on k (drop (i + 1 + 1) s)) z ∙ goes_on_open s (i + 1) j 0 f ∙ closed

pub other_one : (depth : ℕ) → 0 < depth → (depth ≡ 1 → ⊥) → 0 < depth - 1
other_one zero l f = absurd (omega (arith, l))
other_one (suc zero) l f = absurd (f refl)
other_one (suc (suc depth)) l f = omega arith

-- ---- a byte that is there

inside : (s : List ℕ) (i : ℕ) → 0 < get_or s i 0 → i < length s
inside [] i h = absurd (not-suc-le-zero h)
inside (a ∷ s) zero h = zero-lt-suc _
inside (a ∷ s) (suc i) h = suc-le-suc (inside s i h)

pub byte_inside : (s : List ℕ) (i c : ℕ) → c ≡ get_or s i 0 → 0 < c → i < length s
byte_inside s i c e l = inside s i (omega arith)
