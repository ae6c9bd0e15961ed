-- Centres share the machine. The computed draw keeps its promise, which leaves no other answer (`drawing_keeps, drawing_unique`); and of any answers
-- that keep it, whatever is drawn, a centre gets what it is owed (`shared_machine`).
use mathlib.Core.Path.{◌≡◌, refl, sym, ◌∙◌, ap, subst}
use mathlib.Core.Logic.{◌↔◌, ⊎_elim}
use mathlib.Core.Bool.{false}
use mathlib.Core.List.{List, [], ◌∷◌}
use Prim.Native.Nat.{ℕ, zero, suc, max, ◌+◌, ◌-◌, ◌≤◌, ◌<◌}
use native.Mathlib.Omega.{arith}
use native.Mathlib.Nat.{not-suc-le-zero, le_of_suc-le-suc}
use lib.Dec.{eqb, leb, ltb}
use lib.ListN.{length, set, length-set}
use lib.Seq.{get_or-set_same, get_or-set_other}
use Rattle.meaning.specs.declared.Centre.{Centre}
use Rattle.meaning.specs.Finite.{Yes, pick, ◌and◌}
use Rattle.meaning.specs.Centres.{no_centre, centre_at, sum_of, claimed, Sound, others, undrawn, drawn_by_all, Drawn, draw_granted, draw_refused, with_draw, added, list_after, NoQuestion, DrawPromise, Draw, Draws, no_draw, one_draw, ByOthers, Grantable, AddedTo, SharedMachine}
use Rattle.meaning.proofs.Tests.{yes_case, and_left, and_right, and_both, clash, pick_yes, pick_no, pick_either, is_le, le_yes, le_no, no_le, is_lt, lt_yes, no_lt, is_eq, eq_yes}
use Rattle.theory.specs.Centres.{capped, is_sound, drawing_from, drawing}
use Rattle.theory.specs.CentreTable.{c, two}

-- 19 is asked before 20, and each tells its own number
told_in_order : (drawing 10 two 1 9 ≡ draw_refused 19) × (drawing 10 two 1 7 ≡ draw_refused 20)
unfolding drawing drawing_from is_sound capped claimed others undrawn drawn_by_all sum_of pick ◌and◌
told_in_order = (refl, refl)

-- guarantee and amount are both held to the cap
both_seen : (capped (c 5 4 0 ∷ []) ≡ false) × (capped (c 0 4 5 ∷ []) ≡ false)
unfolding capped ◌and◌
both_seen = (refl, refl)

-- ---- the test is `Sound`

-- guarantee and amount are at most the cap
abbrev InCap : Centre → Type 0
InCap c = (c.guarantee ≤ c.cap) × (c.drawn ≤ c.cap)

capped_all : (cs : List Centre) → Yes (capped cs) → (i : ℕ) → i < length cs → InCap (centre_at cs i)
unfolding capped
capped_all [] y i l = absurd (not-suc-le-zero l)
capped_all (c ∷ cs) y zero l = let b = and_left (capped cs) y in (is_le (and_left _ b), is_le (and_right (leb c.guarantee c.cap) b))
capped_all (c ∷ cs) y (suc i) l = capped_all cs (and_right (leb c.guarantee c.cap and leb c.drawn c.cap) y) i (le_of_suc-le-suc l)

all_capped : (cs : List Centre) → ((i : ℕ) → i < length cs → InCap (centre_at cs i)) → Yes (capped cs)
unfolding capped
all_capped [] f = refl
all_capped (c ∷ cs) f = let h = f 0 (omega arith) in and_both (and_both (le_yes h.0) (le_yes h.1)) (all_capped cs (λ i l. f (suc i) (omega (arith, l))))

pub made_sound : {total : ℕ} {cs : List Centre} → length cs ≤ 8 → Yes (capped cs) → claimed cs ≤ total → Sound total cs
made_sound {cs} few y shared = record { few = few; guarantees = λ i l. (capped_all cs y i l).0; amounts = λ i l. (capped_all cs y i l).1; shared = shared }

pub sound_capped : {total : ℕ} {cs : List Centre} → Sound total cs → Yes (capped cs)
sound_capped {cs} s = all_capped cs (λ i l. (s.guarantees i l, s.amounts i l))

is_sound_lem : {total : ℕ} {cs : List Centre} → Yes (is_sound total cs) → Sound total cs
unfolding is_sound
is_sound_lem {total} {cs} y = let rest = and_right (leb (length cs) 8) y in
    made_sound (is_le (and_left (capped cs and leb (claimed cs) total) y)) (and_left (leb (claimed cs) total) rest) (is_le (and_right (capped cs) rest))

sound_yes : {total : ℕ} {cs : List Centre} → Sound total cs → Yes (is_sound total cs)
unfolding is_sound
sound_yes s = and_both (le_yes s.few) (and_both (sound_capped s) (le_yes s.shared))

-- ---- the computed draw

-- which question says no, if one does, and what is then answered
pub data Case (total : ℕ) (cs : List Centre) (i amount : ℕ) : Drawn → Type 0 where
  by_list : ¬ Sound total cs → Case total cs i amount (draw_refused 18)
  by_centre : length cs ≤ i → Case total cs i amount (draw_refused 18)
  by_cap : Sound total cs → i < length cs → (centre_at cs i).cap < (centre_at cs i).drawn + amount → Case total cs i amount (draw_refused 19)
  by_rest : Sound total cs → i < length cs → (centre_at cs i).drawn + amount ≤ (centre_at cs i).cap
      → total < drawn_by_all cs + undrawn (others cs i) + amount → Case total cs i amount (draw_refused 20)
  by_none : NoQuestion total cs i amount → Case total cs i amount draw_granted

asked : (total : ℕ) (cs : List Centre) (i amount : ℕ) → Sound total cs → i < length cs → drawing total cs i amount ≡ drawing_from total cs i amount
unfolding drawing
asked total cs i amount s l = pick_yes _ _ (and_both (sound_yes s) (lt_yes l))

module _ {total : ℕ} {cs : List Centre} {i amount : ℕ} where
  -- one of them is the case
  pub computed_case : Case total cs i amount (drawing total cs i amount)
  unfolding drawing drawing_from
  computed_case =
      pick_either (Case total cs i amount) (is_sound total cs and ltb i (length cs)) _ _
      (λ y. let s = is_sound_lem (and_left (ltb i (length cs)) y) in let l = is_lt (and_right (is_sound total cs) y) in
      pick_either (Case total cs i amount) (leb ((centre_at cs i).drawn + amount) (centre_at cs i).cap) _ _
      (λ c. pick_either (Case total cs i amount) (leb (drawn_by_all cs + undrawn (others cs i) + amount) total) _ _
      (λ r. by_none record { is_sound_lem = s; there = l; in_cap = is_le c; in_rest = is_le r }) (λ n. by_rest s l (is_le c) (no_le n)))
      (λ n. by_cap s l (no_le n)))
      (λ n. ⊎_elim (λ y. by_centre (no_lt (λ z. n (and_both y z)))) (λ z. by_list (λ s. clash (sound_yes s) z)) (yes_case (is_sound total cs)))

  -- a promise leaves no choice
  promised : {r s : Drawn} {after : List Centre} → DrawPromise total cs i amount r after → Case total cs i amount s → r ≡ s
  promised p (by_list n) = p.not_sound n
  promised p (by_centre l) = p.no_centre_lem l
  promised p (by_cap s l h) = p.past_cap s l h
  promised p (by_rest s l c h) = p.past_rest s l c h
  promised p (by_none q) = p.grants q

  pub drawing_unique : {r : Drawn} {after : List Centre} → DrawPromise total cs i amount r after → r ≡ drawing total cs i amount
  drawing_unique p = promised p computed_case

  pub after_unique : {r : Drawn} {after : List Centre} → DrawPromise total cs i amount r after → after ≡ list_after (drawing total cs i amount) cs i amount
  after_unique p = p.list_is ∙ ap (λ (s : Drawn). list_after s cs i amount) (drawing_unique p)

  pub drawing_keeps : DrawPromise total cs i amount (drawing total cs i amount) (list_after (drawing total cs i amount) cs i amount)
  unfolding drawing drawing_from
  drawing_keeps = record {
    not_sound = λ n. pick_no _ _ (λ y. n (is_sound_lem (and_left (ltb i (length cs)) y)));
    no_centre_lem = λ l. pick_no _ _ (λ y. let k = is_lt {x = i} {y = length cs} (and_right (is_sound total cs) y) in omega (arith, l, k));
    past_cap = λ s l h. asked total cs i amount s l ∙ pick_no _ _ (le_no h);
    past_rest = λ s l c h. asked total cs i amount s l ∙ (pick_yes _ _ (le_yes c) ∙ pick_no _ _ (le_no h));
    grants = λ q. asked total cs i amount q.is_sound_lem q.there ∙ (pick_yes _ _ (le_yes q.in_cap) ∙ pick_yes _ _ (le_yes q.in_rest));
    list_is = refl;
  }

-- ---- granted or refused

abbrev IsRefused : Drawn → Type 0
IsRefused draw_granted = ⊥
IsRefused (draw_refused q) = Unit {0}

not_granted : {q : ℕ} {A : Type 0} → draw_refused q ≡ draw_granted → A
not_granted e = absurd (subst IsRefused e tt)

no_question : {total : ℕ} {cs : List Centre} {i amount : ℕ} {r : Drawn} → Case total cs i amount r → r ≡ draw_granted → NoQuestion total cs i amount
no_question (by_list n) e = not_granted e
no_question (by_centre l) e = not_granted e
no_question (by_cap s l h) e = not_granted e
no_question (by_rest s l c h) e = not_granted e
no_question (by_none q) e = q

module _ {total : ℕ} {cs after : List Centre} {i amount : ℕ} {r : Drawn} (p : DrawPromise total cs i amount r after) where
  granted_exactly : (r ≡ draw_granted) ↔ NoQuestion total cs i amount
  granted_exactly = ((λ e. no_question computed_case (sym (drawing_unique p) ∙ e)), p.grants)

  -- what holds of the list before and, if the draw is granted, of the list with it, holds of the list afterwards
  either_way : (P : List Centre → Type 0) → P cs → (NoQuestion total cs i amount → P (added cs i amount)) → P after
  unfolding list_after
  either_way P was then = subst P (sym p.list_is) (by_answer r refl)
    where
      by_answer : (s : Drawn) → r ≡ s → P (list_after s cs i amount)
      by_answer draw_granted e = then (granted_exactly.0 e)
      by_answer (draw_refused q) e = was

-- ---- the list with a draw added

added_to : (cs : List Centre) (i amount : ℕ) → i < length cs → AddedTo cs i amount (added cs i amount)
unfolding added with_draw
added_to cs i amount l = record {
  same_length = length-set cs i _;
  drawn_more = ap (λ (c : Centre). c.drawn) here;
  same_guarantee = ap (λ (c : Centre). c.guarantee) here;
  same_cap = ap (λ (c : Centre). c.cap) here;
  others_same = λ j n. get_or-set_other cs i j _ no_centre n;
}
  where
    here : centre_at (added cs i amount) i ≡ with_draw (centre_at cs i) amount
    here = get_or-set_same cs i _ no_centre l

-- a sum with one record changed
sum_set : (f : Centre → ℕ) (cs : List Centre) (i : ℕ) (c : Centre) → i < length cs → sum_of f (set cs i c) + f (centre_at cs i) ≡ sum_of f cs + f c
unfolding sum_of
sum_set f [] i c l = absurd (not-suc-le-zero l)
sum_set f (d ∷ cs) zero c l = omega arith
sum_set f (d ∷ cs) (suc i) c l = let r = sum_set f cs i c (le_of_suc-le-suc l) in omega (arith, r)

-- what is claimed is what was drawn and the undrawn guarantees
claimed_is : (cs : List Centre) → drawn_by_all cs + undrawn cs ≡ claimed cs
unfolding drawn_by_all undrawn claimed sum_of
claimed_is [] = refl
claimed_is (c ∷ cs) = let r = claimed_is cs in omega (arith, r)

pub claimed_but : (cs : List Centre) (i : ℕ) → i < length cs
    → drawn_by_all cs + undrawn (others cs i) + ((centre_at cs i).guarantee - (centre_at cs i).drawn) ≡ claimed cs
unfolding others drawn_by_all undrawn claimed sum_of
claimed_but [] i l = absurd (not-suc-le-zero l)
claimed_but (c ∷ cs) zero l = let r = claimed_is cs in omega (arith, r)
claimed_but (c ∷ cs) (suc i) l = let r = claimed_but cs i (le_of_suc-le-suc l) in omega (arith, r)

-- what the list with the draw claims
claimed_after : (cs : List Centre) (i amount : ℕ) → i < length cs
    → claimed (added cs i amount) + (centre_at cs i).drawn ≡ drawn_by_all cs + undrawn (others cs i) + max (centre_at cs i).guarantee ((centre_at cs i).drawn + amount)
unfolding claimed added with_draw
claimed_after cs i amount l =
    let e = sum_set (λ (c : Centre). max c.guarantee c.drawn) cs i (with_draw (centre_at cs i) amount) l in let b = claimed_but cs i l in omega (arith, e, b)

-- ---- what is owed

sound_added : {total : ℕ} {cs : List Centre} {i amount : ℕ} → NoQuestion total cs i amount → Sound total (added cs i amount)
sound_added {total} {cs} {i} {amount} q = record {
  few = subst (λ (k : ℕ). k ≤ 8) (sym to.same_length) s.few;
  guarantees = λ j l. at_each j (λ c. c.guarantee ≤ c.cap) l
      (let g = to.same_guarantee in let k = to.same_cap in let h = s.guarantees i q.there in omega (arith, g, k, h)) (s.guarantees j);
  amounts = λ j l. at_each j (λ c. c.drawn ≤ c.cap) l
      (let d = to.drawn_more in let k = to.same_cap in let h = q.in_cap in omega (arith, d, k, h)) (s.amounts j);
  shared = let e = claimed_after cs i amount q.there in let b = claimed_but cs i q.there in let t = s.shared in let r = q.in_rest in
      omega (arith, e, b, t, r);
}
  where
    s : Sound total cs
    s = q.is_sound_lem

    to : AddedTo cs i amount (added cs i amount)
    to = added_to cs i amount q.there

    -- at i, or elsewhere as before
    at_each : (j : ℕ) (P : Centre → Type 0) → j < length (added cs i amount)
        → P (centre_at (added cs i amount) i) → (j < length cs → P (centre_at cs j)) → P (centre_at (added cs i amount) j)
    at_each j P l here there =
        ⊎_elim (λ e. subst (λ (k : ℕ). P (centre_at (added cs i amount) k)) (sym (is_eq e)) here)
        (λ z. subst P (sym (to.others_same j (λ e. clash (eq_yes e) z))) (there (subst (λ (k : ℕ). j < k) to.same_length l)))
        (yes_case (eqb j i))

granted_iff : {total : ℕ} {cs after : List Centre} {i amount : ℕ} {r : Drawn}
    → Sound total cs → DrawPromise total cs i amount r after → (r ≡ draw_granted) ↔ Grantable total cs i amount
granted_iff {total} {cs} {i} {amount} s p = (
  (λ e. let q = (granted_exactly p).0 e in record { there = q.there; cap_holds = q.in_cap; sound_after = sound_added q }),
  (λ g. p.grants record {
    is_sound_lem = s;
    there = g.there;
    in_cap = g.cap_holds;
    in_rest = let e = claimed_after cs i amount g.there in let t = g.sound_after.shared in omega (arith, e, t);
  }),
)

stays_sound : {total : ℕ} {cs new : List Centre} {ds : List Draw} → Sound total cs → Draws total cs ds new → Sound total new
stays_sound s no_draw = s
stays_sound {total} s (one_draw p ds) = stays_sound (either_way p (Sound total) s sound_added) ds

drawn_claimed : (cs : List Centre) → drawn_by_all cs ≤ claimed cs
drawn_claimed cs = let e = claimed_is cs in omega (arith, e)

-- the number of records, guarantees and caps stay
record Fixed (cs new : List Centre) : Type 0 where
  pub same_length : length new ≡ length cs
  pub same_guarantee : (j : ℕ) → (centre_at new j).guarantee ≡ (centre_at cs j).guarantee
  pub same_cap : (j : ℕ) → (centre_at new j).cap ≡ (centre_at cs j).cap

fixed : (cs : List Centre) → Fixed cs cs
fixed cs = record { same_length = refl; same_guarantee = λ j. refl; same_cap = λ j. refl }

fixed_added : (cs : List Centre) (i amount : ℕ) → i < length cs → Fixed cs (added cs i amount)
fixed_added cs i amount l = record {
  same_length = to.same_length;
  same_guarantee = λ j. everywhere j (λ c. c.guarantee) to.same_guarantee;
  same_cap = λ j. everywhere j (λ c. c.cap) to.same_cap;
}
  where
    to : AddedTo cs i amount (added cs i amount)
    to = added_to cs i amount l

    everywhere : (j : ℕ) (f : Centre → ℕ) → f (centre_at (added cs i amount) i) ≡ f (centre_at cs i) → f (centre_at (added cs i amount) j) ≡ f (centre_at cs j)
    everywhere j f here =
        ⊎_elim (λ e. subst (λ (k : ℕ). f (centre_at (added cs i amount) k) ≡ f (centre_at cs k)) (sym (is_eq e)) here)
        (λ z. ap f (to.others_same j (λ e. clash (eq_yes e) z))) (yes_case (eqb j i))

stays_fixed : {total : ℕ} {cs new : List Centre} {ds : List Draw} → Draws total cs ds new → Fixed cs new
stays_fixed {cs} no_draw = fixed cs
stays_fixed {cs} (one_draw {d} p ds) =
    let a = either_way p (Fixed cs) (fixed cs) (λ q. fixed_added cs d.centre d.amount q.there) in
    let b = stays_fixed ds in record {
      same_length = b.same_length ∙ a.same_length;
      same_guarantee = λ j. b.same_guarantee j ∙ a.same_guarantee j;
      same_cap = λ j. b.same_cap j ∙ a.same_cap j;
    }

others_leave : {total : ℕ} {cs new : List Centre} {ds : List Draw} (i : ℕ) → Draws total cs ds new → ByOthers i ds → centre_at new i ≡ centre_at cs i
others_leave i no_draw o = refl
others_leave {cs} i (one_draw {d} p ds) o =
    others_leave i ds o.1
    ∙ either_way p (λ (new : List Centre). centre_at new i ≡ centre_at cs i) refl
    (λ q. (added_to cs d.centre d.amount q.there).others_same i (λ e. o.0 (sym e)))

within_guarantee : {total : ℕ} {cs : List Centre} {i amount : ℕ}
    → Sound total cs → i < length cs → (centre_at cs i).drawn + amount ≤ (centre_at cs i).guarantee → NoQuestion total cs i amount
within_guarantee {cs} {i} s l h = record {
  is_sound_lem = s;
  there = l;
  in_cap = let g = s.guarantees i l in omega (arith, g, h);
  in_rest = let b = claimed_but cs i l in let t = s.shared in omega (arith, b, t, h);
}

up_to_guarantee : {total : ℕ} {cs new after : List Centre} {ds : List Draw} {i amount : ℕ} {r : Drawn} → Sound total cs → i < length cs → Draws total cs ds new
    → (centre_at new i).drawn + amount ≤ (centre_at cs i).guarantee → DrawPromise total new i amount r after → r ≡ draw_granted
up_to_guarantee {i} s l ds h p = let f = stays_fixed ds in let n = f.same_length in let g = f.same_guarantee i in
    p.grants (within_guarantee (stays_sound s ds) (omega (arith, l, n)) (omega (arith, h, g)))

pub shared_machine : SharedMachine
unfolding list_after
shared_machine = record {
  granted_exactly = granted_exactly;
  granted_adds = λ p. subst (AddedTo _ _ _) (sym p.list_is) (added_to _ _ _ ((granted_exactly p).0 refl).there);
  refused_keeps = λ p. p.list_is;
  granted_iff = granted_iff;
  stays_sound = stays_sound;
  within_total = λ {new} s ds. let t = (stays_sound s ds).shared in let d = drawn_claimed new in omega (arith, t, d);
  within_cap = λ {i} s l ds. let f = stays_fixed ds in let n = f.same_length in let k = f.same_cap i in
      let a = (stays_sound s ds).amounts i (omega (arith, l, n)) in omega (arith, a, k);
  up_to_guarantee = up_to_guarantee;
  whatever_others = λ {i} s l ds o h p. let same = ap (λ (c : Centre). c.drawn) (others_leave i ds o) in up_to_guarantee s l ds (omega (arith, h, same)) p;
}
