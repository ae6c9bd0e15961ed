-- Centres share the machine (docs/FORMAT.md): a sound list, the questions 18 to 20 of a draw, its answer, the list afterwards, and what is owed to a
-- centre whatever is drawn. A centre's record is the struct of `src/lib.rt`, so a list of them is the lent list itself.
use Rattle.std.specs.Prelude.{◌≡◌, ◌≢◌, ◌↔◌, List, [], ◌∷◌, ℕ, zero, suc, max, ◌+◌, ◌-◌, ◌≤◌, ◌<◌, length, get_or, set}
use Rattle.meaning.specs.declared.Centre.{Centre}
use Rattle.meaning.specs.Results.{told}

-- ---- the list

-- the record past the end; no definition below depends on it
abbrev pub no_centre : Centre
no_centre = record { guarantee = 0; cap = 0; drawn = 0 }

abbrev pub centre_at : List Centre → ℕ → Centre
centre_at cs i = get_or cs i no_centre

unfoldable pub sum_of : (Centre → ℕ) → List Centre → ℕ
sum_of f [] = 0
sum_of f (c ∷ cs) = f c + sum_of f cs

-- "the larger of guarantee and drawn, summed over the centres"
unfoldable pub claimed : List Centre → ℕ
claimed cs = sum_of (λ (c : Centre). max c.guarantee c.drawn) cs

-- "In a sound list no guarantee and no drawn amount exceeds its cap", and "Up to 8 exam centres"
pub record Sound (total : ℕ) (cs : List Centre) : Type 0 where
  pub few : length cs ≤ 8
  pub guarantees : (i : ℕ) → i < length cs → (centre_at cs i).guarantee ≤ (centre_at cs i).cap
  pub amounts : (i : ℕ) → i < length cs → (centre_at cs i).drawn ≤ (centre_at cs i).cap
  pub shared : claimed cs ≤ total

-- "the undrawn guarantees of the others"
unfoldable pub others : List Centre → ℕ → List Centre
others [] i = []
others (c ∷ cs) zero = cs
others (c ∷ cs) (suc i) = c ∷ others cs i

unfoldable pub undrawn : List Centre → ℕ
undrawn cs = sum_of (λ (c : Centre). c.guarantee - c.drawn) cs

unfoldable pub drawn_by_all : List Centre → ℕ
drawn_by_all cs = sum_of (λ (c : Centre). c.drawn) cs

-- ---- a draw

pub data Drawn : Type 0 where
  draw_granted : Drawn
  draw_refused : ℕ → Drawn

-- "adds the draw to its centre's amount drawn"
unfoldable pub with_draw : Centre → ℕ → Centre
with_draw c amount = record { guarantee = c.guarantee; cap = c.cap; drawn = c.drawn + amount }

unfoldable pub added : List Centre → ℕ → ℕ → List Centre
added cs i amount = set cs i (with_draw (centre_at cs i) amount)

-- the list afterwards
unfoldable pub list_after : Drawn → List Centre → ℕ → ℕ → List Centre
list_after draw_granted cs i amount = added cs i amount
list_after (draw_refused q) cs i amount = cs

-- granted is 0, refused has the question's number
unfoldable pub drawn_number : Drawn → ℕ
drawn_number draw_granted = told 0 0 0
drawn_number (draw_refused q) = told 3 0 q

-- "no question below says no"
pub record NoQuestion (total : ℕ) (cs : List Centre) (i amount : ℕ) : Type 0 where
  pub is_sound_lem : Sound total cs
  pub there : i < length cs
  pub in_cap : (centre_at cs i).drawn + amount ≤ (centre_at cs i).cap
  pub in_rest : drawn_by_all cs + undrawn (others cs i) + amount ≤ total

-- r is the answer to a draw by the centre i, and `after` is the list afterwards
pub record DrawPromise (total : ℕ) (cs : List Centre) (i amount : ℕ) (r : Drawn) (after : List Centre) : Type 0 where
  -- 18
  pub not_sound : ¬ Sound total cs → r ≡ draw_refused 18
  pub no_centre_lem : length cs ≤ i → r ≡ draw_refused 18
  -- 19, "the draw would pass the cap"
  pub past_cap : Sound total cs → i < length cs → (centre_at cs i).cap < (centre_at cs i).drawn + amount → r ≡ draw_refused 19
  -- 20, "the draw would pass what remains after the undrawn guarantees of the others"
  pub past_rest : Sound total cs → i < length cs → (centre_at cs i).drawn + amount ≤ (centre_at cs i).cap
      → total < drawn_by_all cs + undrawn (others cs i) + amount → r ≡ draw_refused 20
  pub grants : NoQuestion total cs i amount → r ≡ draw_granted
  -- every record of the list
  pub list_is : after ≡ list_after r cs i amount

-- ---- what is owed to the centres

-- a draw that is asked for
pub record Draw : Type 0 where
  pub centre : ℕ
  pub amount : ℕ

-- `new` is the list after these draws, each answered as promised, granted or refused
pub data Draws (total : ℕ) : List Centre → List Draw → List Centre → Type 0 where
  no_draw : {cs : List Centre} → Draws total cs [] cs
  one_draw : {cs next new : List Centre} {d : Draw} {ds : List Draw} {r : Drawn}
      → DrawPromise total cs d.centre d.amount r next → Draws total next ds new → Draws total cs (d ∷ ds) new

-- none of these draws is by the centre i
abbrev pub ByOthers : ℕ → List Draw → Type 0
ByOthers i [] = Unit {0}
ByOthers i (d ∷ ds) = (d.centre ≢ i) × ByOthers i ds

-- "the list after it is sound and the cap holds"
pub record Grantable (total : ℕ) (cs : List Centre) (i amount : ℕ) : Type 0 where
  pub there : i < length cs
  pub cap_holds : (centre_at cs i).drawn + amount ≤ (centre_at cs i).cap
  pub sound_after : Sound total (added cs i amount)

-- "adds the draw to its centre's amount drawn and changes nothing else"
pub record AddedTo (cs : List Centre) (i amount : ℕ) (after : List Centre) : Type 0 where
  pub same_length : length after ≡ length cs
  pub drawn_more : (centre_at after i).drawn ≡ (centre_at cs i).drawn + amount
  pub same_guarantee : (centre_at after i).guarantee ≡ (centre_at cs i).guarantee
  pub same_cap : (centre_at after i).cap ≡ (centre_at cs i).cap
  pub others_same : (j : ℕ) → j ≢ i → centre_at after j ≡ centre_at cs j

pub record SharedMachine : Type 0 where
  pub granted_exactly : {total : ℕ} {cs after : List Centre} {i amount : ℕ} {r : Drawn}
      → DrawPromise total cs i amount r after → (r ≡ draw_granted) ↔ NoQuestion total cs i amount
  pub granted_adds : {total : ℕ} {cs after : List Centre} {i amount : ℕ} → DrawPromise total cs i amount draw_granted after → AddedTo cs i amount after
  pub refused_keeps : {total : ℕ} {cs after : List Centre} {i amount q : ℕ} → DrawPromise total cs i amount (draw_refused q) after → after ≡ cs
  -- from a sound list
  pub granted_iff : {total : ℕ} {cs after : List Centre} {i amount : ℕ} {r : Drawn}
      → Sound total cs → DrawPromise total cs i amount r after → (r ≡ draw_granted) ↔ Grantable total cs i amount
  pub stays_sound : {total : ℕ} {cs new : List Centre} {ds : List Draw} → Sound total cs → Draws total cs ds new → Sound total new
  pub within_total : {total : ℕ} {cs new : List Centre} {ds : List Draw} → Sound total cs → Draws total cs ds new → drawn_by_all new ≤ total
  -- "never above its cap"
  pub within_cap : {total : ℕ} {cs new : List Centre} {ds : List Draw} {i : ℕ}
      → Sound total cs → i < length cs → Draws total cs ds new → (centre_at new i).drawn ≤ (centre_at cs i).cap
  -- "every centre can always draw up to its guarantee, whatever the others did", and whatever it has drawn itself
  pub up_to_guarantee : {total : ℕ} {cs new after : List Centre} {ds : List Draw} {i amount : ℕ} {r : Drawn}
      → Sound total cs → i < length cs → Draws total cs ds new
      → (centre_at new i).drawn + amount ≤ (centre_at cs i).guarantee → DrawPromise total new i amount r after → r ≡ draw_granted
  pub whatever_others : {total : ℕ} {cs new after : List Centre} {ds : List Draw} {i amount : ℕ} {r : Drawn}
      → Sound total cs → i < length cs → Draws total cs ds new → ByOthers i ds
      → (centre_at cs i).drawn + amount ≤ (centre_at cs i).guarantee → DrawPromise total new i amount r after → r ≡ draw_granted
