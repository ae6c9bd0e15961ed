-- What the loops over one table know so far: a gathered row, and rows changed up to x.
use mathlib.Core.Path.{◌≡◌, refl, sym, ap, ◌∙◌, subst}
use mathlib.Core.Logic.{◌⊎◌, inl, inr, ⊎_elim}
use mathlib.Core.Bool.{Bool, true, false, false≢true, not}
use mathlib.Core.List.{List}
use Prim.Native.Nat.{ℕ, zero, suc, ◌+◌, ◌<◌, ◌≤◌}
use native.Mathlib.Nat.{le_refl, le_trans, not-suc-le-zero}
use native.Mathlib.Decide.{dec_lt, ℕ_discrete}
use native.Mathlib.Omega.{arith}
use lib.ListN.{set, length, length-set, replicate, get_or-eq_default}
use lib.Dec.{eqb}
use lib.Bits.{bit_or, bit_and, and_zero_r, and_le_l, or_lt}
use lib.Seq.{get_or-set_same, get_or-set_other}
use Rattle.meaning.specs.Finite.{Yes}
use Rattle.meaning.proofs.Tests.{clash, eq_yes, yes_eq, not_yes}
use Rattle.rowbits.specs.Bit.{bit}
use Rattle.tables.specs.Tables.{row, Columns}
use Rattle.tables.specs.Rows.{Gathers, Transposed, RaisedWhere, Combined, gained_one, gained, meets, Crossed, Blank}
use Rattle.tables.proofs.Bits.{gained_up, gained_has, gained_case, one_is, one_has, none_in, or_case, or_l, or_r, in_both, both_in, some_in}
use Rattle.tables.proofs.Tested.{not_eq, eq_not}

pub below_cases : {k y : ℕ} → k < y + 1 → (k ≡ y) ⊎ (k < y)
below_cases {k} {y} h = go (ℕ_discrete k y)
  where
    go : Dec (k ≡ y) → (k ≡ y) ⊎ (k < y)
    go (yes e) = inl e
    go (no e) = inr (omega arith)

pub record Gathering (p : ℕ → Bool) (y a : ℕ) : Type 0 where
  pub from : (k : ℕ) → Yes (bit a k) → Yes (p k)
  pub to : (k : ℕ) → k < y → Yes (p k) → Yes (bit a k)

pub gather_none : (p : ℕ → Bool) → Gathering p 0 0
gather_none p = record { from = λ k t. none_in k t; to = λ k h. absurd (not-suc-le-zero h) }

pub gather_more : (p : ℕ → Bool) (y a b : ℕ) (t : Bool) → t ≡ p y → b ≡ gained_one t a y → Gathering p y a → Gathering p (y + 1) b
unfolding gained_one
gather_more p y a b t e d g = record {
  from = λ k u. ⊎_elim (g.from k) (λ w. rw (one_is y k w.1) (sym e ∙ w.0)) (gained_case t a _ k (subst (λ (i : ℕ). Yes (bit i k)) d u));
  to = λ k h u. subst (λ (i : ℕ). Yes (bit i k)) (sym d) (⊎_elim
      (λ q. gained_has t a _ k (e ∙ subst (λ (i : ℕ). Yes (p i)) q u) (rw q (one_has y)))
      (λ l. (gained_up t a _).kept k (g.to k l u)) (below_cases h));
}

pub gather_all : (p : ℕ → Bool) (y a : ℕ) → 16 ≤ y → Gathering p y a → Gathers p a
gather_all p y a h g = record { from = g.from; to = λ k l. g.to k (le_trans l h) }

pub none_meet : (t : List ℕ) → Gathers (λ y. meets (row t y) 0) 0
unfolding meets
none_meet t = record { from = λ k u. none_in k u; to = λ k l u. clash (eq_yes (and_zero_r (row t k))) u }

-- ---- rows changed up to x, each to a function of its number and of itself

pub record Rowing (new : ℕ → ℕ → ℕ) (n : ℕ) (t : List ℕ) (x : ℕ) (a : List ℕ) : Type 0 where
  pub long : length a ≡ 16
  pub done : (k : ℕ) → k < x → row a k ≡ new k (row t k)
  pub rest : (k : ℕ) → x ≤ k → row a k ≡ row t k

pub rowing_none : (new : ℕ → ℕ → ℕ) (n : ℕ) (t : List ℕ) → length t ≡ 16 → Rowing new n t 0 t
rowing_none new n t h = record { long = h; done = λ k l. absurd (not-suc-le-zero l); rest = λ k l. refl }

pub rowing_more : (new : ℕ → ℕ → ℕ) (n : ℕ) (t : List ℕ) (x : ℕ) (a : List ℕ) (v : ℕ) → x < 16 → v ≡ new x (row a x) → Rowing new n t x a → Rowing new n t (x + 1) (set a x v)
rowing_more new n t x a v h e r = record {
  long = length-set a x v ∙ r.long;
  done = λ k l. ⊎_elim
      (λ q. subst (λ (i : ℕ). row (set a x v) i ≡ new i (row t i)) (sym q)
      (get_or-set_same a x v 0 (rw r.long h) ∙ e ∙ ap (new x) (r.rest x (le_refl _))))
      (λ m. get_or-set_other a x k v 0 (λ q. omega arith) ∙ r.done k m) (below_cases l);
  rest = λ k l. get_or-set_other a x k v 0 (λ q. omega arith) ∙ r.rest k (omega arith);
}

-- two tables combined row by row
pub combined : (op : ℕ → ℕ → ℕ) → op 0 0 ≡ 0 → (t u : List ℕ) (x : ℕ) (r : List ℕ) → 16 ≤ x → x ≤ 16 → length t ≡ 16 → length u ≡ 16
    → Rowing (λ k v. op v (row u k)) 16 t x r → Combined op t u r
combined op none t u x r h l a b w = record { rows = λ k. go k (dec_lt k 16) }
  where
    go : (k : ℕ) → Dec (k < 16) → row r k ≡ op (row t k) (row u k)
    go k (yes q) = w.done k (le_trans q h)
    go k (no q) =
        let e : row t k ≡ 0 = get_or-eq_default t 0 (omega arith) in
        let d : row u k ≡ 0 = get_or-eq_default u 0 (omega arith) in
        w.rest k (omega arith) ∙ e ∙ sym none ∙ rw (e, d) refl

-- ---- columns

pub record Transposing (t : List ℕ) (y : ℕ) (a : List ℕ) : Type 0 where
  pub long : length a ≡ 16
  pub columns : (x : ℕ) → x < 16 → Gathering (λ k. bit (row t k) x) y (row a x)

pub transposing_none : (t a : List ℕ) → length a ≡ 16 → ((x : ℕ) → row a x ≡ 0) → Transposing t 0 a
transposing_none t a h z = record { long = h; columns = λ x h. subst (Gathering (λ k. bit (row t k) x) 0) (sym (z x)) (gather_none _) }

pub transposing_more : (t : List ℕ) (y : ℕ) (a : List ℕ) (x : ℕ) (b : List ℕ) → 16 ≤ x → Rowing (λ k w. gained_one (bit (row t y) k) w y) 16 a x b → Transposing t y a → Transposing t (y + 1) b
transposing_more t y a x b l s w = record { long = s.long; columns = λ k h. gather_more (λ i. bit (row t i) k) y (row a k) (row b k) (bit (row t y) k) refl (s.done k (le_trans h l)) (w.columns k h) }

pub transposed : (t : List ℕ) (y : ℕ) (a : List ℕ) → 16 ≤ y → Transposing t y a → Transposed t a
transposed t y a h w = record { columns = λ x l. gather_all _ y _ h (w.columns x l) }

pub transposed_columns : {t r : List ℕ} → Transposed t r → Columns t r
transposed_columns w x y hx hy = yes_eq _ _ ((w.columns y hy).from x) ((w.columns y hy).to x hx)

pub zeros : (n x : ℕ) → row (replicate n 0) x ≡ 0
zeros zero x = refl
zeros (suc n) zero = refl
zeros (suc n) (suc x) = zeros n x

pub was_raised : (p : ℕ → Bool) (t : List ℕ) (by x : ℕ) (r : List ℕ) → 16 ≤ x → x ≤ 16 → Rowing (λ k v. gained (p k) v by) 16 t x r → RaisedWhere p t by r
was_raised p t by x r h h2 w = record { within = λ k l. w.done k (le_trans l h); beyond = λ k l. w.rest k (le_trans h2 l) }

-- ---- rows compared with those of two other tables

pub record Crossing (t below above : List ℕ) (x any : ℕ) : Type 0 where
  pub small : any < 65536
  pub from : (j : ℕ) → Yes (bit any j) → (k : ℕ) × (k < 16) × Yes (bit (row t k) j) × (Yes (bit (row below k) j) ⊎ Yes (bit (row above k) j))
  pub to : (k j : ℕ) → k < x → Yes (bit (row t k) j) → Yes (bit (row below k) j) ⊎ Yes (bit (row above k) j) → Yes (bit any j)

pub crossing_none : (t below above : List ℕ) → Crossing t below above 0 0
crossing_none t below above = record { small = omega arith; from = λ j u. none_in j u; to = λ k j h. absurd (not-suc-le-zero h) }

pub crossing_more : (t below above : List ℕ) (x any : ℕ) → x < 16 → row t x < 65536 → Crossing t below above x any
    → Crossing t below above (x + 1) (bit_or any (bit_and (row t x) (bit_or (row below x) (row above x))))
crossing_more t below above x any h small w = record {
  small = or_lt 16 any _ w.small (let l = and_le_l (row t x) (bit_or (row below x) (row above x)) in omega arith);
  from = λ j u. ⊎_elim (w.from j) (λ v. let q = in_both (row t x) _ j v in (x, h, q.0, or_case (row below x) (row above x) j q.1)) (or_case any _ j u);
  to = λ k j l u v. ⊎_elim
      (λ e. or_r any _ j (both_in (row t x) _ j (subst (λ (i : ℕ). Yes (bit (row t i) j)) e u)
      (⊎_elim (λ y. or_l (row below x) (row above x) j (subst (λ (i : ℕ). Yes (bit (row below i) j)) e y))
      (λ y. or_r (row below x) (row above x) j (subst (λ (i : ℕ). Yes (bit (row above i) j)) e y)) v)))
      (λ m. or_l any _ j (w.to k j m u v)) (below_cases l);
}

pub was_crossed : (t below above : List ℕ) (x any : ℕ) → 16 ≤ x → Crossing t below above x any → (r : Bool) → r ≡ not (eqb any 0) → Crossed t below above r
was_crossed t below above x any h w r e = record {
  some = λ y. let k = some_in any w.small (not_eq any 0 (sym e ∙ y)) in let q = w.from k.0 k.1 in (q.0, k.0, q.1, q.2, q.3);
  none = λ z k j l u. ((λ y. not_yes (sym e ∙ z) (met k j l u (inl y))), λ y. not_yes (sym e ∙ z) (met k j l u (inr y)));
}
  where
    met : (k j : ℕ) → k < 16 → Yes (bit (row t k) j) → Yes (bit (row below k) j) ⊎ Yes (bit (row above k) j) → Yes (not (eqb any 0))
    met k j l u v = eq_not any 0 (λ z. none_in j (subst (λ (i : ℕ). Yes (bit i j)) z (w.to k j (le_trans l h) u v)))

-- a table that has nothing in common with itself
pub is_blank : (t : List ℕ) (c : Bool) → Crossed t t t c → Blank t (not c)
is_blank t true w = record { none = λ e. absurd (false≢true e); some = λ _. let q = w.some refl in (q.0, q.1, q.2, q.3) }
is_blank t false w = record { none = λ _ x y l u. (w.none refl x y l u).0 u; some = λ e. absurd (false≢true (sym e)) }
