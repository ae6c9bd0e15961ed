-- Texts put one behind the other are put together.
use mathlib.Core.Path.{◌≡◌, refl, sym, ap, subst, ◌∙◌}
use mathlib.Core.List.{List, [], ◌∷◌, ◌++◌}
use Prim.Native.Nat.{ℕ, suc, ◌+◌, ◌≤◌}
use native.Mathlib.Omega.{arith}
use lib.ListN.{length, set, length-append}
use lib.Seq.{sets, length-sets}
use Rattle.lent.specs.Putting.{Put}

sets_append : (l : List ℕ) (i : ℕ) (s t : List ℕ) → sets l i (s ++ t) ≡ sets (sets l i s) (i + length s) t
sets_append l i [] t = let e : i + 0 ≡ i = omega arith in rw e
sets_append l i (a ∷ s) t = let e : i + suc (length s) ≡ suc i + length s = omega arith in rw e (sets_append (set l i a) (suc i) s t)

-- nothing is put
pub put_none : (l : List ℕ) (at : ℕ) → at ≤ length l → Put l at [] at l
put_none l at h = record { end = omega arith; stored = refl; within = h; same_length = refl }

pub put_text : (l : List ℕ) (at : ℕ) (t : List ℕ) (r : ℕ) (m : List ℕ) → r ≡ at + length t → m ≡ sets l at t → r ≤ length l → Put l at t r m
put_text l at t r m e s h = record { end = e; stored = s; within = h; same_length = ap length s ∙ length-sets l at t }

pub put_then : {l m o : List ℕ} {at k r : ℕ} {s t : List ℕ} → Put l at s k m → Put m k t r o → Put l at (s ++ t) r o
put_then {l} {m} {o} {at} {k} {r} {s} {t} p q =
    put_text l at (s ++ t) r o
    (let x = p.end in let y = q.end in let z = length-append s t in omega arith)
    (q.stored ∙ ap (λ (n : ℕ). sets m n t) p.end ∙ ap (λ (d : List ℕ). sets d (at + length s) t) p.stored ∙ sym (sets_append l at s t))
    (let x = q.within in let y = p.same_length in omega arith)

pub put_same : {l m : List ℕ} {at r : ℕ} {s t : List ℕ} → s ≡ t → Put l at s r m → Put l at t r m
put_same {l} {m} {at} {r} e p = subst (λ (u : List ℕ). Put l at u r m) e p

pub put_four : (l : List ℕ) (at a b c d : ℕ) → at + 4 ≤ length l → Put l at (a ∷ b ∷ c ∷ d ∷ []) (at + 4) (set (set (set (set l at a) (at + 1) b) (at + 2) c) (at + 3) d)
put_four l at a b c d h =
    let p : at + 1 ≡ suc at = omega arith in
    let q : at + 2 ≡ suc (suc at) = omega arith in
    let r : at + 3 ≡ suc (suc (suc at)) = omega arith in
    put_text l at (a ∷ b ∷ c ∷ d ∷ []) (at + 4) _ refl (rw (p, q, r)) h
