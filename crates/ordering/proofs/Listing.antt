-- The order as a list: what stands at a place, one group more, and the place of the first group that passes a test.
use mathlib.Core.Path.{◌≡◌, refl, sym, ap, ◌∙◌, subst}
use mathlib.Core.Logic.{◌⊎◌, ⊎_elim}
use mathlib.Core.Bool.{Bool, true, false}
use mathlib.Core.List.Memᴰ
use mathlib.Core.List.{List, [], ◌∷◌, ◌++◌, map, map-append, append_assoc, append-nil, Memᴰ}
use Prim.Native.Nat.{ℕ, zero, suc, ◌+◌, ◌^◌, ◌≤◌, ◌<◌}
use native.Mathlib.Nat.{le_refl, le_step, le_trans, zero-add, not-suc-le-zero, le_of_suc-le-suc}
use native.Mathlib.Decide.{ℕ_discrete}
use native.Mathlib.Numerals.{add-one}
use native.Mathlib.Omega.{arith}
use lib.Dec.{eqb}
use lib.ListN.{length, get_or, take, drop, set, length-append, length-map, drop_of_length-le}
use lib.Seq.{drop-cons, take-suc-set, length-take-le, get_or-take, get_or-set_same, get_or-set_other}
use Rattle.meaning.specs.Finite.{position}
use Rattle.meaning.proofs.Tests.{pick_yes, pick_no, is_eq, eq_yes, not_yes, yes_not}
use Rattle.meaning.proofs.Lists.{get_d_mem}
use Rattle.tables.specs.Tables.{row}
use Rattle.ids.specs.declared.Var.{Var}
use Rattle.ordering.specs.declared.Order.{Order}
use Rattle.tables.specs.Rows.{without}
use Rattle.tables.proofs.Bits.{without_less}
use Rattle.ordering.specs.Listing.{numbers, AreVariables, Earliest, in_line, listed, Placed}
use Rattle.ordering.specs.Groups.{groups}
use Rattle.ordering.proofs.InLine.{earliest_in, in_line_none, in_line_next}

-- ---- the place of the first that passes a test

pub first_none : (p : ℕ → Bool) → position p [] ≡ 0
unfolding position
first_none p = refl

pub first_here : (p : ℕ → Bool) (x : ℕ) (xs : List ℕ) → p x ≡ true → position p (x ∷ xs) ≡ 0
unfolding position
first_here p x xs e = pick_yes _ _ e

pub first_next : (p : ℕ → Bool) (x : ℕ) (xs : List ℕ) → p x ≡ false → position p (x ∷ xs) ≡ position p xs + 1
unfolding position
first_next p x xs e = pick_no _ _ (not_yes e) ∙ sym (add-one _)

position_here : (p : ℕ → Bool) (xs : List ℕ) (i : ℕ) → i < length xs → p (get_or xs i 0) ≡ true
    → position p (drop i xs) ≡ 0
position_here p xs i l e = rw (drop-cons xs i 0) (first_here p _ _ e)

position_next : (p : ℕ → Bool) (xs : List ℕ) (i : ℕ) → i < length xs → p (get_or xs i 0) ≡ false
    → position p (drop i xs) ≡ position p (drop (i + 1) xs) + 1
position_next p xs i l e = rw (add-one i, drop-cons xs i 0) (first_next p _ _ e)

-- ---- the groups of an order

pub length_numbers : (vs : List Var) (len : ℕ) → len ≤ length vs → length (numbers vs len) ≡ len
unfolding numbers
length_numbers vs len h = length-map (take len vs) (λ (v : Var). v.0) ∙ length-take-le len vs h

pub number_at : (vs : List Var) (len i : ℕ) (d : Var) → len ≤ length vs → i < len
    → get_or (numbers vs len) i 0 ≡ (get_or vs i d).0
unfolding numbers
number_at vs len i d h l =
    at (take len vs) i (subst (λ (k : ℕ). i < k) (sym (length-take-le len vs h)) l)
    ∙ ap (λ (v : Var). v.0) (get_or-take len vs i d l)
  where
    at : (vs : List Var) (i : ℕ) → i < length vs → get_or (map (λ (v : Var). v.0) vs) i 0 ≡ (get_or vs i d).0
    at [] i l = absurd (not-suc-le-zero l)
    at (v ∷ vs) zero l = refl
    at (v ∷ vs) (suc i) l = at vs i (le_of_suc-le-suc l)

pub numbers_none : (vs : List Var) → numbers vs 0 ≡ []
unfolding numbers
numbers_none vs = refl

pub numbers_more : (vs : List Var) (len x : ℕ) → len < length vs
    → numbers (set vs len record { 0 = x }) (len + 1) ≡ numbers vs len ++ x ∷ []
unfolding numbers
numbers_more vs len x l =
    let v : Var = record { 0 = x } in
    ap (map (λ (v : Var). v.0)) (ap (λ (k : ℕ). take k (set vs len v)) (add-one len) ∙ take-suc-set vs len v l)
    ∙ map-append (λ (v : Var). v.0) (take len vs) (record { 0 = x } ∷ [])

pub variables_none : (vs : List Var) → AreVariables (numbers vs 0)
unfolding numbers
variables_none vs g m = absurd (Memᴰ.not-nil m)

-- one variable more
pub variables_more : (gs hs : List ℕ) (x : ℕ) → hs ≡ gs ++ x ∷ [] → x < 16 → AreVariables gs → AreVariables hs
variables_more gs hs x e h w g m =
    ⊎_elim (w g) (λ k. last (Memᴰ.cases_cons k)) (Memᴰ.append_cases gs (subst (Memᴰ g) e m))
  where
    last : (g ≡ x) ⊎ Memᴰ g [] → g < 16
    last k = ⊎_elim (λ (q : g ≡ x). rw q h) (λ n. absurd (Memᴰ.not-nil n)) k

module _ (o : Order) where
  room : o.len ≤ length o.group
  room = let a = o.few in omega (arith, o.long)

  pub count_is : length (groups o) ≡ o.len
  unfolding groups
  count_is = length_numbers o.group o.len room

  pub member_at : (i : ℕ) → i < o.len → get_or (groups o) i 0 ≡ (get_or o.group i record { 0 = 0 }).0
  unfolding groups
  member_at i l = number_at o.group o.len i record { 0 = 0 } room l

  pub inside_at : (i : ℕ) → i < o.len → (get_or o.group i record { 0 = 0 }).0 < 16
  unfolding groups
  inside_at i l = subst (λ (x : ℕ). x < 16) (member_at i l) (o.inside _ (get_d_mem (groups o) i (rw count_is l)))

-- ---- the groups as the variables that are taken

module _ (o : Order) where
  abbrev pub taken : List Var
  taken = take o.len o.group

  pub taken_count : length taken ≡ o.len
  taken_count = length-take-le o.len o.group (room o)

  -- each is one of sixteen
  pub taken_inside : (k : ℕ) (x : Var) → k < length taken → x ≡ get_or taken k x → x.0 < 16
  taken_inside k x l e =
      let q : k < o.len = omega (arith, l, taken_count) in
      let same : get_or o.group k x ≡ x = sym (e ∙ get_or-take o.len o.group k x q) in
      subst (λ (i : ℕ). i < 16) (number_at o.group o.len k x (room o) q ∙ ap (λ (v : Var). v.0) same)
      (o.inside _ (get_d_mem (numbers o.group o.len) k (rw (length_numbers o.group o.len (room o)) q)))

  pub groups_taken : groups o ≡ map (λ (v : Var). v.0) taken
  unfolding groups numbers
  groups_taken = refl

-- ---- the place of each group, from the last group on

-- the places of the groups from i on
unfoldable pub Placing : List ℕ → ℕ → List ℕ → Type 0
Placing gs i t = (g : ℕ) → Memᴰ g (drop i gs) → row t g ≡ i + position (λ y. eqb y g) (drop i gs)

pub placing_none : (gs : List ℕ) (i : ℕ) (t : List ℕ) → length gs ≤ i → Placing gs i t
unfolding Placing
placing_none gs i t l g m = absurd (Memᴰ.not-nil (subst (Memᴰ g) (drop_of_length-le gs l) m))

pub placing_more : (gs : List ℕ) (i : ℕ) (t : List ℕ) (v : ℕ) → i < length gs → get_or gs i 0 ≡ v → v < length t → Placing gs (i + 1) t → Placing gs i (set t v i)
unfolding Placing
placing_more gs i t v l e h w g m = go (ℕ_discrete g v)
  where
    go : Dec (g ≡ v) → row (set t v i) g ≡ i + position (λ y. eqb y g) (drop i gs)
    go (yes q) =
        let a : row (set t v i) g ≡ i = ap (row (set t v i)) q ∙ get_or-set_same t v i 0 h in
        let b = position_here (λ y. eqb y g) gs i l (eq_yes (e ∙ sym q)) in
        omega arith
    go (no q) =
        let a : row (set t v i) g ≡ row t g = get_or-set_other t v g i 0 q in
        let b = position_next (λ y. eqb y g) gs i l (yes_not (λ y. q (sym (is_eq y) ∙ e))) in
        let c = w g (⊎_elim (λ z. absurd (q (z ∙ e))) (λ k. rw add-one k) (Memᴰ.cases_cons (subst (Memᴰ g) (drop-cons gs i 0 l) m))) in
        omega arith

pub placing_all : (gs t : List ℕ) → Placing gs 0 t → Placed gs t
unfolding Placing
placing_all gs t w g m = w g m ∙ zero-add _

-- ---- the members of a row, put behind the groups

-- the row a is put behind gs; the row `rest` is still to come
pub record Appending (after : List ℕ) (a : ℕ) (gs : List ℕ) (rest : ℕ) (hs : List ℕ) : Type 0 where
  pub fits : rest < 65536
  pub these : hs ++ in_line after rest ≡ gs ++ in_line after a

module _ {after : List ℕ} {a : ℕ} {gs : List ℕ} {rest : ℕ} {hs : List ℕ} (w : Appending after a gs rest hs) where
  module _ (x : ℕ) (early : Earliest after rest x) where
    pub next_in_lem : x < 16
    next_in_lem = earliest_in after rest w.fits x early

    pub rest_less : without rest (2 ^ x) < rest
    rest_less = without_less rest x next_in_lem early.member

    pub appending_room : length gs + length (in_line after a) ≤ 16 → length hs < 16
    appending_room room =
        let e = sym (length-append hs (in_line after rest)) ∙ ap length w.these ∙ length-append gs (in_line after a) in
        let y = ap length (in_line_next after rest w.fits x early) in
        omega arith

    pub appending_more : Appending after a gs (without rest (2 ^ x)) (hs ++ x ∷ [])
    appending_more = record {
      fits = le_trans rest_less (le_trans (le_step (le_refl rest)) w.fits);
      these = append_assoc hs (x ∷ []) (in_line after (without rest (2 ^ x)))
          ∙ ap (λ (ys : List ℕ). hs ++ ys) (sym (in_line_next after rest w.fits x early)) ∙ w.these;
    }

  pub appending_all : rest ≡ 0 → hs ≡ gs ++ in_line after a
  appending_all z = sym (append-nil hs) ∙ ap (λ (ys : List ℕ). hs ++ ys) (sym (in_line_none after rest z)) ∙ w.these

-- ---- layer by layer

listed_more : (after t : List ℕ) (d n : ℕ) → d ≤ n → length (listed after t d) ≤ length (listed after t n)
unfolding listed
listed_more after t d zero l = let e : d ≡ 0 = omega arith in rw e (le_refl _)
listed_more after t d (suc n) l = go (ℕ_discrete d (suc n)) (λ q. listed_more after t d n q)
  where
    go : Dec (d ≡ suc n) → (d ≤ n → length (listed after t d) ≤ length (listed after t n)) → length (listed after t d) ≤ length (listed after t n ++ in_line after (row t n))
    go (yes e) r = rw e (le_refl _)
    go (no e) r = let a = r (omega arith) in let b = length-append (listed after t n) (in_line after (row t n)) in omega arith

module _ (after t : List ℕ) (n d : ℕ) where
  pub listed_room : length (listed after t n) ≤ 16 → d < n
      → length (listed after t d) + length (in_line after (row t d)) ≤ 16
  unfolding listed
  listed_room room l =
      let a = listed_more after t (suc d) n l in
      let b = length-append (listed after t d) (in_line after (row t d)) in
      omega arith

pub listed_none : (after t : List ℕ) → [] ≡ listed after t 0
unfolding listed
listed_none after t = refl

pub listed_next : (after t : List ℕ) (d : ℕ) → listed after t d ++ in_line after (row t d) ≡ listed after t (d + 1)
unfolding listed
listed_next after t d = rw add-one

-- ---- the lemmas that the goals of a function are tried with

pub ruleset no_groups = (numbers_none, variables_none)

pub ruleset appending = (next_in_lem, rest_less, appending_more, appending_all)

pub ruleset listing = (listed_none, listed_room, listed_next)

pub ruleset placing = (count_is, inside_at, placing_none, placing_all)
