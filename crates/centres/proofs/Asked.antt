-- The question that the code finds is that of the draw as it is meant.
use mathlib.Core.Path.{◌≡◌, refl, sym, ap, ◌∙◌}
use mathlib.Core.Logic.{⊎_elim}
use mathlib.Core.List.{List}
use Prim.Native.Nat.{ℕ, ◌+◌, ◌-◌, ◌≤◌, ◌<◌, ◌^◌}
use native.Mathlib.Omega.{arith}
use lib.ListN.{length, set, drop, drop_of_length-le}
use Rattle.meaning.specs.declared.Centre.{Centre}
use Rattle.meaning.specs.Finite.{pick}
use Rattle.std.proofs.Common.{Bor, Option, None, Some, Result, Ok, Err}
use Rattle.std.specs.Slice.{IsItemAt}
use Rattle.std.specs.Option.{option_copied, ok_or}
use Rattle.questions.specs.declared.Question.{Question}
use Rattle.questions.specs.declared.Question.TheVariants.{Centres}
use Rattle.meaning.specs.Centres.{centre_at, no_centre, sum_of, claimed, Sound, with_draw, added, list_after, Drawn, draw_granted, draw_refused}
use Rattle.meaning.proofs.Tests.{yes_case, clash, pick_yes, pick_no, le_yes, le_no}
use Rattle.theory.specs.Centres.{capped, drawing}
use Rattle.theory.proofs.Centres.{made_sound, sound_capped, claimed_but, Case, by_list, by_centre, by_cap, by_rest, by_none, computed_case, drawing_keeps}
use Rattle.centres.specs.Plain.{question_of}
use Rattle.centres.specs.Answers.{answered, answer_of}
use Rattle.centres.proofs.Claims.{claims, claims_capped, claims_above, Progress}

abbrev pub question_from : ℕ → ℕ → Centre → ℕ → ℕ
question_from sum total c amount = question_of sum total c.guarantee c.cap c.drawn amount

-- ---- the questions, in order

module _ (claims total guarantee cap drawn amount : ℕ) where
  abbrev asks : ℕ
  asks = question_of claims total guarantee cap drawn amount

  pub asks_18 : total < claims → asks ≡ 18
  unfolding question_of
  asks_18 h = pick_no _ _ (le_no h)

  pub asks_19 : claims ≤ total → cap < drawn + amount → asks ≡ 19
  unfolding question_of
  asks_19 s h = pick_yes _ _ (le_yes s) ∙ pick_no _ _ (le_no h)

  pub asks_20 : claims ≤ total → drawn + amount ≤ cap → total + (guarantee - drawn) < claims + amount → asks ≡ 20
  unfolding question_of
  asks_20 s c h = pick_yes _ _ (le_yes s) ∙ (pick_yes _ _ (le_yes c) ∙ pick_no _ _ (le_no h))

  pub asks_none : claims ≤ total → drawn + amount ≤ cap → claims + amount ≤ total + (guarantee - drawn) → asks ≡ 0
  unfolding question_of
  asks_none s c r = pick_yes _ _ (le_yes s) ∙ (pick_yes _ _ (le_yes c) ∙ pick_yes _ _ (le_yes r))

-- ---- from the claims of all

module _ {total : ℕ} {cs : List Centre} (small : total < 2 ^ 32) (few : length cs ≤ 8) where
  not_sound : ¬ Sound total cs → total < claims cs
  not_sound n =
      ⊎_elim (λ y. let e = claims_capped cs y in let m : ¬ (claimed cs ≤ total) = λ k. n (made_sound few y k) in omega (arith, e, m))
      (λ z. let a = claims_above cs (λ y. clash y z) in omega (arith, a, small)) (yes_case (capped cs))

  sound_claims : Sound total cs → (claims cs ≡ claimed cs) × (claims cs ≤ total)
  sound_claims s = let e = claims_capped cs (sound_capped s) in let t = s.shared in (e, omega (arith, e, t))

  found : (i amount : ℕ) {r : Drawn} → i < length cs → Case total cs i amount r
      → answered (question_from (claims cs) total (centre_at cs i) amount) ≡ answer_of r
  unfolding answered answer_of pick
  found i amount l (by_list n) = ap answered (asks_18 _ _ _ _ _ _ (not_sound n))
  found i amount l (by_centre k) = absurd (omega (arith, l, k))
  found i amount l (by_cap s _ h) = ap answered (asks_19 _ _ _ _ _ _ (sound_claims s).1 h)
  found i amount l (by_rest s _ c h) =
      let e = (sound_claims s).0 in let b = claimed_but cs i l in
      ap answered (asks_20 _ _ _ _ _ _ (sound_claims s).1 c (omega (arith, e, b, h)))
  found i amount l (by_none q) =
      let e = (sound_claims q.is_sound_lem).0 in let b = claimed_but cs i l in let r = q.in_rest in
      ap answered (asks_none _ _ _ _ _ _ (sound_claims q.is_sound_lem).1 q.in_cap (omega (arith, e, b, r)))

-- ---- the centre's own record, if the list has one

module _ (cs : List Centre) (i : ℕ) where
  own_at : (g : Option (Bor Centre)) → IsItemAt cs i g → (c : Centre) → ok_or (option_copied g) Centres ≡ Ok c
      → (i < length cs) × (c ≡ centre_at cs i)
  own_at None h c e = cc
  own_at (Some b) h c e = (h.3.0, (let n = h.4 (omega arith) no_centre in cc))

  own_none : (g : Option (Bor Centre)) → IsItemAt cs i g → (q : Question) → ok_or (option_copied g) Centres ≡ Err q
      → (length cs ≤ i) × (q ≡ Centres)
  own_none None h q e = (h.3, cc)
  own_none (Some b) h q e = cc

  module _ (g : Option (Bor Centre)) {o : Option Centre} {r : Result Centre Question}
      (h : IsItemAt cs i g) (e : o ≡ option_copied g) (v : r ≡ ok_or o Centres) where
    pub own_found : {c : Centre} → r ≡ Ok c → (i < length cs) × (c ≡ centre_at cs i)
    own_found k = own_at g h _ (sym (ap (λ (p : Option Centre). ok_or p Centres) e) ∙ sym v ∙ k)

    pub own_missing : {q : Question} → r ≡ Err q → (length cs ≤ i) × (q ≡ Centres)
    own_missing k = own_none g h _ (sym (ap (λ (p : Option Centre). ok_or p Centres) e) ∙ sym v ∙ k)

-- ---- how a draw ends: what is answered, and the list afterwards

module _ (total : ℕ) (cs : List Centre) (i amount : ℕ) where
  abbrev is : Drawn
  is = drawing total cs i amount

  abbrev Ends : Result (Unit {0}) ℕ → List Centre → Type 0
  Ends r zs = (r ≡ answer_of is) × (zs ≡ list_after is cs i amount)

  missed : is ≡ draw_refused 18 → Ends (Err 18) cs
  unfolding answer_of list_after
  missed e = rw e (refl, refl)

  pub ends_long : 8 < length cs → Ends (Err 18) cs
  ends_long h = missed (drawing_keeps.not_sound (λ s. let f = s.few in omega (arith, f, h)))

  pub ends_missing : length cs ≤ i → Ends (Err 18) cs
  ends_missing h = missed (drawing_keeps.no_centre_lem h)

  -- the questions are asked of the centre's own record and the claims of all
  pub asked : {reached sum : ℕ} {own : Centre} → (i < length cs) × (own ≡ centre_at cs i) → Progress cs reached sum → total < 2 ^ 32 → length cs ≤ 8 → length cs ≤ reached
      → answered (question_from sum total own amount) ≡ answer_of is
  unfolding sum_of
  asked {reached} {sum} o p small few over =
      let e = ap claims (drop_of_length-le cs over) in let was : sum + claims (drop reached cs) ≡ claims cs = p.sums in
      ap (λ (c : Centre). answered (question_from sum total c amount)) o.1
      ∙ ap (λ (m : ℕ). answered (question_from m total (centre_at cs i) amount)) (omega (arith, e, was)) ∙ found small few i amount o.0 computed_case

  refused_list : (r : Drawn) {q : ℕ} → Err q ≡ answer_of r → list_after r cs i amount ≡ cs
  unfolding answer_of list_after
  refused_list draw_granted e = cc
  refused_list (draw_refused q) e = refl

  granted_list : {r : Drawn} → Case total cs i amount r → Ok tt ≡ answer_of r
      → (list_after r cs i amount ≡ added cs i amount) × ((centre_at cs i).drawn + amount ≤ (centre_at cs i).cap)
  unfolding answer_of list_after
  granted_list (by_list n) e = cc
  granted_list (by_centre l) e = cc
  granted_list (by_cap s l h) e = cc
  granted_list (by_rest s l c h) e = cc
  granted_list (by_none q) e = (refl, q.in_cap)

  pub ends_refused : {q : ℕ} → Err q ≡ answer_of is → Ends (Err q) cs
  ends_refused e = (e, sym (refused_list is e))

  pub granted_cap : {own : Centre} → (i < length cs) × (own ≡ centre_at cs i) → Ok tt ≡ answer_of is → own.drawn + amount ≤ own.cap
  granted_cap o e = rw o.1 (granted_list computed_case e).1

  pub ends_granted : {own : Centre} → (i < length cs) × (own ≡ centre_at cs i) → Ok tt ≡ answer_of is
      → Ends (Ok tt) (set cs i (record { guarantee = (centre_at cs i).guarantee; cap = (centre_at cs i).cap; drawn = own.drawn + amount }))
  unfolding added with_draw
  ends_granted o e = rw o.1 (e, sym (granted_list computed_case e).0)
