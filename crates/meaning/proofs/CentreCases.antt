-- A few lists of centres and draws from them, worked out by hand from docs/FORMAT.md ("Centres share the machine"). A change of a sum, of a question or of
-- a field shows here.
use mathlib.Core.Path.{◌≡◌, refl}
use mathlib.Core.List.{List, [], ◌∷◌}
use Prim.Native.Nat.{ℕ, zero, suc, ◌≤◌, ◌<◌}
use native.Mathlib.Omega.{arith}
use lib.ListN.{length}
use Rattle.meaning.specs.declared.Centre.{Centre}
use Rattle.meaning.specs.Results.{told}
use Rattle.meaning.specs.Centres.{centre_at, sum_of, claimed, Sound, others, undrawn, drawn_by_all, draw_granted, draw_refused, with_draw, added, list_after, drawn_number, DrawPromise}

abbrev c : ℕ → ℕ → ℕ → Centre
c guarantee cap drawn = record { guarantee = guarantee; cap = cap; drawn = drawn }

-- the first has drawn 5, 3 above its guarantee, the second 1 of its guarantee of 3, the third nothing
abbrev three : List Centre
three = c 2 9 5 ∷ c 3 4 1 ∷ c 1 4 0 ∷ []

-- ---- the sums

claims : claimed three ≡ 9
unfolding claimed sum_of
claims = refl

left_of_others : (undrawn (others three 0) ≡ 3) × (undrawn (others three 1) ≡ 1) × (undrawn (others three 2) ≡ 2) × (undrawn (others three 3) ≡ 3)
unfolding undrawn others sum_of
left_of_others = (refl, refl, refl, refl)

drawn_so_far : drawn_by_all three ≡ 6
unfolding drawn_by_all sum_of
drawn_so_far = refl

-- ---- the answer

list_granted : list_after draw_granted three 1 3 ≡ c 2 9 5 ∷ c 3 4 4 ∷ c 1 4 0 ∷ []
unfolding list_after added with_draw
list_granted = refl

list_refused : list_after (draw_refused 20) three 1 3 ≡ three
unfolding list_after
list_refused = refl

numbers : (drawn_number draw_granted ≡ 0) × (drawn_number (draw_refused 18) ≡ 844424930131986)
unfolding drawn_number told
numbers = (refl, refl)

-- ---- not sound, and sound

one_total_less : ¬ Sound 8 three
unfolding claimed sum_of
one_total_less s = let t = s.shared in omega (arith, t)

guarantee_above_cap : ¬ Sound 9 (c 5 4 0 ∷ [])
guarantee_above_cap s = let g = s.guarantees 0 (omega arith) in omega (arith, g)

amount_above_cap : ¬ Sound 9 (c 0 4 5 ∷ [])
amount_above_cap s = let d = s.amounts 0 (omega arith) in omega (arith, d)

nine_records : ¬ Sound 9 (c 0 0 0 ∷ c 0 0 0 ∷ c 0 0 0 ∷ c 0 0 0 ∷ c 0 0 0 ∷ c 0 0 0 ∷ c 0 0 0 ∷ c 0 0 0 ∷ c 0 0 0 ∷ [])
nine_records s = let f = s.few in omega (arith, f)

three_sound : Sound 9 three
unfolding claimed sum_of
three_sound = record { few = omega arith; guarantees = in_caps; amounts = below_caps; shared = omega arith }
  where
    in_caps : (i : ℕ) → i < length three → (centre_at three i).guarantee ≤ (centre_at three i).cap
    in_caps zero l = omega arith
    in_caps (suc zero) l = omega arith
    in_caps (suc (suc zero)) l = omega arith
    in_caps (suc (suc (suc i))) l = absurd (omega (arith, l))

    below_caps : (i : ℕ) → i < length three → (centre_at three i).drawn ≤ (centre_at three i).cap
    below_caps zero l = omega arith
    below_caps (suc zero) l = omega arith
    below_caps (suc (suc zero)) l = omega arith
    below_caps (suc (suc (suc i))) l = absurd (omega (arith, l))

-- ---- draws: 6 are drawn, and of the guarantees of the others 1 is held back when the second draws

ten_sound : Sound 10 three
ten_sound = record { few = three_sound.few; guarantees = three_sound.guarantees; amounts = three_sound.amounts; shared = let t = three_sound.shared in omega (arith, t) }

-- of 10 it may draw 3, by what remains and by its cap
all_that_remains : DrawPromise 10 three 1 3 draw_granted (c 2 9 5 ∷ c 3 4 4 ∷ c 1 4 0 ∷ [])
unfolding drawn_by_all undrawn others sum_of list_after added with_draw
all_that_remains = record {
  not_sound = λ n. absurd (n ten_sound);
  no_centre_lem = λ l. absurd (omega (arith, l));
  past_cap = λ s l h. absurd (omega (arith, h));
  past_rest = λ s l k h. absurd (omega (arith, h));
  grants = λ q. refl;
  list_is = refl;
}

-- of 9 that is 1 too many
one_too_many : DrawPromise 9 three 1 3 (draw_refused 20) three
unfolding drawn_by_all undrawn others sum_of list_after
one_too_many = record {
  not_sound = λ n. absurd (n three_sound);
  no_centre_lem = λ l. absurd (omega (arith, l));
  past_cap = λ s l h. absurd (omega (arith, h));
  past_rest = λ s l k h. refl;
  grants = λ q. let r = q.in_rest in absurd (omega (arith, r));
  list_is = refl;
}

-- 4 are more than its cap, and more than what remains
past_both : DrawPromise 9 three 1 4 (draw_refused 19) three
unfolding list_after
past_both = record {
  not_sound = λ n. absurd (n three_sound);
  no_centre_lem = λ l. absurd (omega (arith, l));
  past_cap = λ s l h. refl;
  past_rest = λ s l k h. absurd (omega (arith, k));
  grants = λ q. let r = q.in_cap in absurd (omega (arith, r));
  list_is = refl;
}

no_fourth : DrawPromise 9 three 3 0 (draw_refused 18) three
unfolding list_after
no_fourth = record {
  not_sound = λ n. refl;
  no_centre_lem = λ l. refl;
  past_cap = λ s l h. absurd (omega (arith, l));
  past_rest = λ s l k h. absurd (omega (arith, l));
  grants = λ q. let l = q.there in absurd (omega (arith, l));
  list_is = refl;
}
