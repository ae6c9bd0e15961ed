-- What the helpers for siblings compute, from what their loops know at the end, and what two or three of them make together.
use mathlib.Core.Path.{◌≡◌, refl, sym, ◌∙◌, subst}
use mathlib.Core.Logic.{◌≢◌, ◌⊎◌, inl, inr, ⊎_elim}
use mathlib.Core.Bool.{Bool, false, not}
use mathlib.Core.List.{List}
use Prim.Native.Nat.{ℕ, ◌+◌, ◌<◌, ◌≤◌}
use native.Mathlib.Nat.{le_trans, not-suc-le-zero}
use native.Mathlib.Decide.{dec_lt, ℕ_discrete}
use native.Mathlib.Omega.{arith}
use lib.Dec.{eqb}
use mir.Val.{Fits}
use mir.Syntax.{w16}
use lib.Bits.{bit_or, bit_xor, or_add_and, and_le_l, xor_self}
use lib.ListN.{length}
use Rattle.meaning.specs.Constraint.{Fact, below, before}
use Rattle.meaning.specs.Settled.{Settled, before_chain, before_child, after_child, same_before, same_after}
use Rattle.rowbits.specs.Bit.{bit}
use Rattle.meaning.specs.Finite.{Yes}
use Rattle.meaning.proofs.Tests.{not_yes}
use Rattle.tables.specs.Tables.{row}
use Rattle.tables.specs.Rows.{Up, United, gained}
use Rattle.tables.proofs.Bits.{or_case, or_l, or_r, or_le, none_in, up_self, up_trans, xor_zero, gained_up, gained_has, gained_case, in_row}
use Rattle.tables.proofs.Loops.{below_cases, Rowing}
use Rattle.tables.proofs.Tested.{not_eq, eq_not}
use Rattle.passes.specs.Rows.{In, Grouped, Path, step, on, ChainOf}
use Rattle.settle.specs.Siblings.{Reached, Unlike, Groupwise, Ordered, PassedOn, Parted}
use Rattle.passes.proofs.Chain.{reached_least}

-- ---- reach

-- through the numbers below z
pub record Reaching (t a b : List ℕ) (z : ℕ) (r : List ℕ) : Type 0 where
  pub long : length r ≡ 16
  pub up : (x : ℕ) → Up (row t x) (row r x)
  pub from : (x y : ℕ) → In r x y → In t x y ⊎ ((k : ℕ) × In a x k × In b k y)
  pub to : (x k y : ℕ) → x < 16 → k < z → In a x k → In b k y → In r x y

pub reaching_none : (t a b : List ℕ) → length t ≡ 16 → Reaching t a b 0 t
reaching_none t a b h = record { long = h; up = λ x. up_self _; from = λ x y u. inl u; to = λ x k y h l. absurd (not-suc-le-zero l) }

module _ (t a b : List ℕ) (z : ℕ) (r : List ℕ) (x : ℕ) (s : List ℕ) (h : 16 ≤ x) (l : x ≤ 16) (w : Rowing (λ k v. gained (bit (row a k) z) v (row b z)) 16 r x s) (g : Reaching t a b z r) where
  one_up : (k : ℕ) → Up (row r k) (row s k)
  one_up k = go (dec_lt k 16)
    where
      go : Dec (k < 16) → Up (row r k) (row s k)
      go (yes q) = subst (Up (row r k)) (sym (w.done k (le_trans q h))) (gained_up _ _ _)
      go (no q) = subst (Up (row r k)) (sym (w.rest k (omega arith))) (up_self _)

  one_from : (k y : ℕ) → In s k y → Dec (k < 16) → In t k y ⊎ ((i : ℕ) × In a k i × In b i y)
  one_from k y u (yes q) =
      ⊎_elim (g.from k y) (λ v. inr (z, v.0, v.1)) (gained_case (bit (row a k) z) (row r k) (row b z) y (subst (λ (i : ℕ). Yes (bit i y)) (w.done k (le_trans q h)) u))
  one_from k y u (no q) = g.from k y (subst (λ (i : ℕ). Yes (bit i y)) (w.rest k (omega arith)) u)

  here : (k i y : ℕ) → k < 16 → i ≡ z → In a k i → In b i y → In s k y
  here k i y q e u v =
      subst (λ (j : ℕ). Yes (bit j y)) (sym (w.done k (le_trans q h)))
      (gained_has (bit (row a k) z) (row r k) (row b z) y (subst (λ (j : ℕ). In a k j) e u) (subst (λ (j : ℕ). In b j y) e v))

  pub reaching_more : Reaching t a b (z + 1) s
  reaching_more = record {
    long = w.long;
    up = λ k. up_trans (g.up k) (one_up k);
    from = λ k y u. one_from k y u (dec_lt k 16);
    to = λ k i y q m u v. ⊎_elim (λ e. here k i y q e u v) (λ n. (one_up k).kept y (g.to k i y q n u v)) (below_cases m);
  }

pub reached : (t a b : List ℕ) (z : ℕ) (r : List ℕ) → 16 ≤ z → ((i : ℕ) → Fits w16 (row a i)) → Reaching t a b z r
    → Reached t a b r
reached t a b z r h small g = record {
  up = g.up;
  from = g.from;
  to = λ x k y q u v. g.to x k y q (le_trans (in_row (row a x) k (small x).fits u) h) u v;
}

-- ---- unlike

pub record Comparing (t u : List ℕ) (x any : ℕ) : Type 0 where
  pub none : any ≡ 0 → (k : ℕ) → k < x → row t k ≡ row u k
  pub some : any ≢ 0 → (k : ℕ) × (k < x) × (row t k ≢ row u k)

pub comparing_none : (t u : List ℕ) → Comparing t u 0 0
comparing_none t u = record { none = λ e k l. absurd (not-suc-le-zero l); some = λ e. absurd (e refl) }

pub comparing_more : (t u : List ℕ) (x any : ℕ) → Comparing t u x any → Comparing t u (x + 1) (bit_or any (bit_xor (row t x) (row u x)))
comparing_more t u x any w = record {
  none = λ e k l. ⊎_elim (λ j. subst (λ (i : ℕ). row t i ≡ row u i) (sym j) (xor_zero (row t x) (row u x) (right e))) (w.none (left e) k) (below_cases l);
  some = λ e. go e (ℕ_discrete any 0) (ℕ_discrete (row t x) (row u x));
}
  where
    left : bit_or any (bit_xor (row t x) (row u x)) ≡ 0 → any ≡ 0
    left e = let p = or_le any (bit_xor (row t x) (row u x)) in omega arith

    right : bit_or any (bit_xor (row t x) (row u x)) ≡ 0 → bit_xor (row t x) (row u x) ≡ 0
    right e =
        let p = or_add_and any (bit_xor (row t x) (row u x)) in
        let q = and_le_l any (bit_xor (row t x) (row u x)) in
        omega (arith, left e)

    same : (a : ℕ) → bit_or 0 (bit_xor a a) ≡ 0
    same a = rw (xor_self a) refl

    go : bit_or any (bit_xor (row t x) (row u x)) ≢ 0 → Dec (any ≡ 0) → Dec (row t x ≡ row u x) → (k : ℕ) × (k < x + 1) × (row t k ≢ row u k)
    go e (no n) q = let o = w.some n in (o.0, omega (arith, o.1), o.2)
    go e (yes n) (no q) = (x, omega arith, q)
    go e (yes n) (yes q) = absurd (e (rw (n, q) (same (row u x))))

pub compared : (t u : List ℕ) (x any : ℕ) → 16 ≤ x → x ≤ 16 → Comparing t u x any → (r : Bool) → r ≡ not (eqb any 0) → Unlike t u r
compared t u x any h l w r e = record {
  some = λ y. let o = w.some (not_eq any 0 (sym e ∙ y)) in (o.0, le_trans o.1 l, o.2);
  none = λ z k q. w.none (zero (ℕ_discrete any 0) z) k (le_trans q h);
}
  where
    zero : Dec (any ≡ 0) → r ≡ false → any ≡ 0
    zero (yes i) z = i
    zero (no i) z = absurd (not_yes (sym e ∙ z) (eq_not any 0 i))

-- ---- before shared and chained

-- rows that are shared stay so when they are chained
module _ {n : ℕ} {t r : List ℕ} (small : n ≤ 16) (c : ChainOf n t r) (few : (x y : ℕ) → In t x y → (x < n) × (y < n)) where
  path_few : {x y : ℕ} → Path t x y → (x < n) × (y < n)
  path_few (step u) = few _ _ u
  path_few (on p q) = ((path_few p).0, (path_few q).1)

  path_in : {x y : ℕ} → Path t x y → In r x y
  path_in (step u) = (c.up _).kept _ u
  path_in (on p q) = let h = path_few p in c.chained _ _ _ (le_trans h.0 small) h.1 (path_in p) (path_in q)

  path_first : {x y : ℕ} (u : ℕ) → u < 16 → ((z : ℕ) → In t x z → In t u z) → Path t x y → In r u y
  path_first u h e (step v) = (c.up _).kept _ (e _ v)
  path_first u h e (on p q) = c.chained _ _ _ h (path_few p).1 (path_first u h e p) (path_in q)

  path_last : {x y : ℕ} (u : ℕ) → ((z : ℕ) → In t z y → In t z u) → Path t x y → In r x u
  path_last u e (step v) = (c.up _).kept _ (e _ v)
  path_last u e (on p q) = let h = path_few p in c.chained _ _ _ (le_trans h.0 small) h.1 (path_in p) (path_last u e q)

chained_sound : {n : ℕ} {t r : List ℕ} → ChainOf n t r → (S : List Fact) → ((x y : ℕ) → In t x y → Settled n S (before x y)) → (x y : ℕ) → In r x y → Settled n S (before x y)
chained_sound {n} c S s x y u = reached_least (λ i j. Settled n S (before i j)) (λ i j k. before_chain) s (c.from x y u)

-- where each variable is alone in its group
pub ordered_alone : {n : ℕ} {t same r : List ℕ} {several : ℕ} → n ≤ 16 → Grouped same several → several ≡ 0 → ChainOf n t r → Ordered n t same r
ordered_alone {n} {t} {same} {several = several} small g z c = record {
  up = c.up;
  sound = λ S s e. chained_sound c S s;
  firsts = λ w few x y u e v. path_first small c few u (le_trans (w.few u x e).0 small) (λ k. subst (λ (i : ℕ). In t i k) (sym (is w u x e))) (c.from x y v);
  lasts = λ w few x y u e v. path_last small c few u (λ k. subst (λ (i : ℕ). In t k i) (is w y u e)) (c.from x y v);
  chained = c.chained;
}
  where
    is : Groupwise n same → (x y : ℕ) → In same x y → x ≡ y
    is w x y e = go (ℕ_discrete y x)
      where
        go : Dec (y ≡ x) → x ≡ y
        go (yes i) = sym i
        go (no i) = let h = w.few x y e in none_in y (subst (λ (k : ℕ). Yes (bit k y)) z (g.has x y (le_trans h.0 small) (le_trans h.1 small) i e))

module _ {n : ℕ} {t same lasts firsts r : List ℕ} (small : n ≤ 16) (a : Reached t t same lasts) (b : Reached lasts same lasts firsts) (c : ChainOf n firsts r) where
  module _ (S : List Fact) (s : (x y : ℕ) → In t x y → Settled n S (before x y)) (e : (x y : ℕ) → In same x y → Settled n S (below x y) × Settled n S (below y x)) where
    lasts_s : (x y : ℕ) → In lasts x y → Settled n S (before x y)
    lasts_s x y u = ⊎_elim (s x y) (λ w. let q = e w.0 y w.2 in same_after q.0 q.1 (s x w.0 w.1)) (a.from x y u)

    firsts_s : (x y : ℕ) → In firsts x y → Settled n S (before x y)
    firsts_s x y u = ⊎_elim (lasts_s x y) (λ w. let q = e x w.0 w.1 in same_before q.1 q.0 (lasts_s w.0 y w.2)) (b.from x y u)

  module _ (w : Groupwise n same) (few : (x y : ℕ) → In t x y → (x < n) × (y < n)) where
    lasts_few : (x y : ℕ) → In lasts x y → (x < n) × (y < n)
    lasts_few x y u = ⊎_elim (few x y) (λ v. ((few x v.0 v.1).0, (w.few v.0 y v.2).1)) (a.from x y u)

    firsts_few : (x y : ℕ) → In firsts x y → (x < n) × (y < n)
    firsts_few x y u = ⊎_elim (lasts_few x y) (λ v. ((w.few x v.0 v.1).0, (lasts_few v.0 y v.2).1)) (b.from x y u)

    -- the first reach shares the last place, the second the first
    lasts_last : (x y u : ℕ) → In same y u → In lasts x y → In lasts x u
    lasts_last x y u e v =
        let h = le_trans (lasts_few x y v).0 small in
        ⊎_elim (λ p. a.to x y u h p e) (λ p. a.to x p.0 u h p.1 (w.chain p.0 y u p.2 e)) (a.from x y v)

    firsts_last : (x y u : ℕ) → In same y u → In firsts x y → In firsts x u
    firsts_last x y u e v =
        ⊎_elim (λ p. (b.up x).kept u (lasts_last x y u e p))
        (λ p. b.to x p.0 u (le_trans (w.few x p.0 p.1).0 small) p.1 (lasts_last p.0 y u e p.2)) (b.from x y v)

    firsts_first : (x y u : ℕ) → In same u x → In firsts x y → In firsts u y
    firsts_first x y u e v =
        let h = le_trans (w.few u x e).0 small in
        ⊎_elim (λ p. b.to u x y h e p) (λ p. b.to u p.0 y h (w.chain u x p.0 e p.1) p.2) (b.from x y v)

  pub ordered : Ordered n t same r
  ordered = record {
    up = λ x. up_trans (a.up x) (up_trans (b.up x) (c.up x));
    sound = λ S s e. chained_sound c S (firsts_s S s e);
    firsts = λ w few x y u e v. path_first small c (firsts_few w few) u (le_trans (w.few u x e).0 small) (λ k. firsts_first w few x k u e) (c.from x y v);
    lasts = λ w few x y u e v. path_last small c (firsts_few w few) u (λ k. firsts_last w few k y u e) (c.from x y v);
    chained = c.chained;
  }

-- ---- two tables as one

module _ {t more r : List ℕ} (w : United t more r) (x y : ℕ) where
  joined : In r x y → In t x y ⊎ In more x y
  joined u = or_case (row t x) (row more x) y (subst (λ (k : ℕ). Yes (bit k y)) (w.rows x) u)

  join : In t x y ⊎ In more x y → In r x y
  join u = subst (λ (k : ℕ). Yes (bit k y)) (sym (w.rows x)) (⊎_elim (or_l (row t x) (row more x) y) (or_r (row t x) (row more x) y) u)

pub parted : {t rows columns lines r : List ℕ} → United rows columns lines → United t lines r → Parted t rows columns r
parted a b = record {
  from = λ x y u. ⊎_elim inl (λ v. inr (joined a x y v)) (joined b x y u);
  to = λ x y u. join b x y (⊎_elim inl (λ v. inr (join a x y v)) u);
}

-- ---- child passed on

pub passed_on : {t befores afters orders r : List ℕ} → United befores afters orders → Reached t t orders r → PassedOn t befores afters r
passed_on a b = record {
  up = b.up;
  sound = λ n S s e f x y u. ⊎_elim (s x y)
      (λ w. let c = s x w.0 w.1 in ⊎_elim (λ v. before_child (e w.0 y v) c) (λ v. after_child (f y w.0 v) c) (joined a w.0 y w.2)) (b.from x y u);
  later = λ x y u h e v. b.to u x y h v (join a x y (inl e));
  earlier = λ x y u h e v. b.to u y x h v (join a y x (inr e));
}
