-- What question 15 says of the last bytes of whole records is what it says of the records.
use mathlib.Core.Path.{◌≡◌, refl, sym, ap, ◌∙◌}
use mathlib.Core.Bool.{Bool, true, false, ◌&&◌}
use mathlib.Core.List.{List, [], ◌∷◌, map}
use Prim.Native.Nat.{ℕ, zero, suc, ◌/◌}
use native.Mathlib.Omega.{arith}
use lib.ListN.{length, get_or}
use Rattle.std.specs.List.{list_all}
use Rattle.std.specs.Simd.{first_chunks}
use Rattle.meaning.specs.Finite.{◌and◌}
use Rattle.meaning.specs.Files.{quads, node_of}
use Rattle.meaning.specs.Xml.{is_nameable, records_nameable}

both : (a b : Bool) → (a && b) ≡ (a and b)
unfolding ◌and◌
both true b = refl
both false b = refl

labels_cut : (n : ℕ) (bs : List ℕ) → n ≡ length bs / 4
    → list_all (λ r. is_nameable (get_or r 3 0)) (first_chunks 4 n bs) ≡ records_nameable (map node_of (quads bs))
unfolding records_nameable quads node_of
labels_cut zero [] e = refl
labels_cut zero (a ∷ []) e = refl
labels_cut zero (a ∷ b ∷ []) e = refl
labels_cut zero (a ∷ b ∷ c ∷ []) e = refl
labels_cut zero (a ∷ b ∷ c ∷ d ∷ bs) e = absurd (omega arith)
labels_cut (suc n) [] e = absurd (omega arith)
labels_cut (suc n) (a ∷ []) e = absurd (omega arith)
labels_cut (suc n) (a ∷ b ∷ []) e = absurd (omega arith)
labels_cut (suc n) (a ∷ b ∷ c ∷ []) e = absurd (omega arith)
labels_cut (suc n) (a ∷ b ∷ c ∷ d ∷ bs) e =
    both (is_nameable d) _ ∙ ap (λ (x : Bool). is_nameable d and x) (labels_cut n bs (omega arith))

pub labels_all : (bs : List ℕ) {rs : List (List ℕ)} {b : Bool} → rs ≡ first_chunks 4 (length bs / 4) bs
    → b ≡ list_all (λ r. is_nameable (get_or r 3 0)) rs → records_nameable (map node_of (quads bs)) ≡ b
labels_all bs cut e = sym (e ∙ ap (list_all (λ r. is_nameable (get_or r 3 0))) cut ∙ labels_cut _ bs refl)
