-- Rows chained, and what the rules for itself, child and root make of the rows of below before that.
use mathlib.Core.Path.{◌≡◌, refl, sym, ◌∙◌, subst}
use mathlib.Core.Logic.{◌≢◌, ◌⊎◌, inl, inr, ⊎_elim}
use mathlib.Core.List.{List}
use Prim.Native.Nat.{ℕ, ◌+◌, ◌-◌, ◌^◌, ◌<◌, ◌≤◌}
use native.Mathlib.Nat.{le_trans, not-suc-le-zero}
use native.Mathlib.Decide.{dec_lt}
use native.Mathlib.Omega.{arith}
use mir.Val.{Fits}
use mir.Syntax.{w16}
use lib.Bits.{bit_or}
use Rattle.meaning.specs.Constraint.{Fact, child, below, root}
use Rattle.meaning.specs.Settled.{Settled, child_below, self_below, chain, root_below}
use Rattle.meaning.specs.Finite.{Yes}
use Rattle.rowbits.specs.Bit.{bit}
use Rattle.tables.specs.Tables.{row}
use Rattle.tables.specs.Rows.{Up, gained, without, Gathers, meets}
use Rattle.tables.proofs.Loops.{below_cases, Rowing}
use Rattle.tables.proofs.Bits.{or_l, or_r, or_case, up_or, up_self, up_trans, all_is, all_has, gained_up, gained_has, gained_case, one_is, one_has, without_in, in_row, meets_in, meets_out}
use Rattle.passes.specs.Rows.{In, Lifted, Path, step, on, ChainOf, Chained, WholeGroups, first_row}

pub lifted : (t : List ℕ) (y x : ℕ) (r : List ℕ) → 16 ≤ x → x ≤ 16 → Rowing (λ k v. gained (bit v y) v (row t y)) 16 t x r → Lifted t y r
lifted t y x r h h2 w = record { within = λ k l. w.done k (le_trans l h); beyond = λ k l. w.rest k (le_trans h2 l) }

-- ---- a row of below by the rules that look at no other row

first_up : (b c r x n : ℕ) → Up b (first_row b c r x n)
unfolding first_row
first_up b c r x n = up_trans (up_trans (up_or b c) (up_or _ _)) (gained_up _ _ _)

first_in : (b c r x n i : ℕ) → Yes (bit c i) ⊎ (i ≡ x) ⊎ (Yes (bit r x) × (i < n)) → Yes (bit (first_row b c r x n) i)
unfolding first_row
first_in b c r x n i (inl u) = (gained_up (bit r x) (bit_or (bit_or b c) (2 ^ x)) (2 ^ n - 1)).kept i (or_l (bit_or b c) (2 ^ x) i (or_r b c i u))
first_in b c r x n i (inr (inl e)) = (gained_up (bit r x) (bit_or (bit_or b c) (2 ^ x)) (2 ^ n - 1)).kept i (or_r (bit_or b c) (2 ^ x) i (rw e (one_has x)))
first_in b c r x n i (inr (inr u)) = gained_has (bit r x) (bit_or (bit_or b c) (2 ^ x)) (2 ^ n - 1) i u.0 (all_has n i u.1)

first_case : (b c r x n i : ℕ) → Yes (bit (first_row b c r x n) i) → Yes (bit b i) ⊎ Yes (bit c i) ⊎ (i ≡ x) ⊎ (Yes (bit r x) × (i < n))
unfolding first_row
first_case b c r x n i t =
    ⊎_elim
    (λ u. ⊎_elim (λ v. ⊎_elim inl (λ w. inr (inl w)) (or_case b c i v)) (λ v. inr (inr (inl (one_is x i v)))) (or_case _ _ i u))
    (λ u. inr (inr (inr (u.0, all_is n i u.1)))) (gained_case _ _ _ i t)

-- ---- rows chained

-- what chains and holds of the rows holds of all that they reach
pub reached_least : {t : List ℕ} (Q : ℕ → ℕ → Type 0) → ((x y z : ℕ) → Q x y → Q y z → Q x z) → ((x y : ℕ) → In t x y → Q x y) → {x y : ℕ} → Path t x y → Q x y
reached_least Q c h (step u) = h _ _ u
reached_least Q c h (on p q) = c _ _ _ (reached_least Q c h p) (reached_least Q c h q)

-- Warshall's invariant: through the variables before y the rows are chained
pub record Lifting (t : List ℕ) (y : ℕ) (a : List ℕ) : Type 0 where
  pub up : (x : ℕ) → Up (row t x) (row a x)
  pub from : (x z : ℕ) → In a x z → Path t x z
  pub chained : (x k z : ℕ) → x < 16 → k < 16 → k < y → Yes (bit (row a x) k) → Yes (bit (row a k) z) → Yes (bit (row a x) z)

pub lifting_none : (t : List ℕ) → Lifting t 0 t
lifting_none t = record { up = λ x. up_self _; from = λ x z. step; chained = λ x k z l i m. absurd (not-suc-le-zero m) }

module _ (t : List ℕ) (y : ℕ) (a b : List ℕ) (hy : y < 16) (w : Lifted a y b) (g : Lifting t y a) where
  one_up : (x : ℕ) → Up (row a x) (row b x)
  one_up x = go (dec_lt x 16)
    where
      go : Dec (x < 16) → Up (row a x) (row b x)
      go (yes h) = subst (λ (k : ℕ). Up (row a x) k) (sym (w.within x h)) (gained_up _ _ _)
      go (no h) = subst (λ (k : ℕ). Up (row a x) k) (sym (w.beyond x (omega arith))) (up_self _)

  one_case : (x z : ℕ) → x < 16 → Yes (bit (row b x) z) → Yes (bit (row a x) z) ⊎ (Yes (bit (row a x) y) × Yes (bit (row a y) z))
  one_case x z h u = gained_case _ _ _ z (subst (λ (k : ℕ). Yes (bit k z)) (w.within x h) u)

  one_from : (x z : ℕ) → In b x z → Path t x z
  one_from x z u = go (dec_lt x 16)
    where
      go : Dec (x < 16) → Path t x z
      go (yes h) = ⊎_elim (g.from x z) (λ v. on (g.from x y v.0) (g.from y z v.1)) (one_case x z h u)
      go (no h) = g.from x z (subst (λ (k : ℕ). Yes (bit k z)) (w.beyond x (omega arith)) u)

  through : (x z : ℕ) → x < 16 → Yes (bit (row a x) y) → Yes (bit (row a y) z) → Yes (bit (row b x) z)
  through x z h p q = subst (λ (k : ℕ). Yes (bit k z)) (sym (w.within x h)) (gained_has _ _ _ z p q)

  to_y : (x : ℕ) → x < 16 → Yes (bit (row b x) y) → Yes (bit (row a x) y)
  to_y x h u = ⊎_elim (λ v. v) (λ v. v.0) (one_case x y h u)

  from_y : (z : ℕ) → Yes (bit (row b y) z) → Yes (bit (row a y) z)
  from_y z u = ⊎_elim (λ v. v) (λ v. v.1) (one_case y z hy u)

  one_chained : (x k z : ℕ) → x < 16 → k < 16 → (k ≡ y) ⊎ (k < y) → Yes (bit (row b x) k) → Yes (bit (row b k) z) → Yes (bit (row b x) z)
  one_chained x k z h hk (inl e) p q =
      through x z h (to_y x h (subst (λ (i : ℕ). Yes (bit (row b x) i)) e p)) (from_y z (subst (λ (i : ℕ). Yes (bit (row b i) z)) e q))
  one_chained x k z h hk (inr l) p q = ⊎_elim
      (λ u. ⊎_elim (λ v. (one_up x).kept z (g.chained x k z h hk l u v)) (λ v. through x z h (g.chained x k y h hk l u v.0) v.1) (one_case k z hk q))
      (λ u. ⊎_elim (λ v. through x z h u.0 (g.chained y k z hy hk l u.1 v)) (λ v. through x z h u.0 v.1) (one_case k z hk q))
      (one_case x k h p)

  pub lifting_more : Lifting t (y + 1) b
  lifting_more = record {
    up = λ x. up_trans (g.up x) (one_up x);
    from = one_from;
    chained = λ x k z h hk l. one_chained x k z h hk (below_cases l);
  }

pub chain_of : (n : ℕ) → n ≤ 16 → (t : List ℕ) (y : ℕ) (r : List ℕ) → n ≤ y → Lifting t y r → ChainOf n t r
chain_of n small t y r hy g = record { up = g.up; from = g.from; chained = λ x k z h l. g.chained x k z h (omega arith) (omega arith) }

-- ---- the rows of below

module _ (n : ℕ) (small : n ≤ 16) (t children : List ℕ) (roots x : ℕ) (a r : List ℕ) (hx : n ≤ x) (hx2 : x ≤ n)
    (f : Rowing (λ k v. first_row v (row children k) roots k n) n t x a) (g : ChainOf n a r) where
  firsts_up : (k : ℕ) → Up (row t k) (row a k)
  firsts_up k = go (dec_lt k n)
    where
      go : Dec (k < n) → Up (row t k) (row a k)
      go (yes h) = subst (λ (i : ℕ). Up (row t k) i) (sym (f.done k (omega arith))) (first_up _ _ _ _ _)
      go (no h) = subst (λ (i : ℕ). Up (row t k) i) (sym (f.rest k (omega arith))) (up_self _)

  firsts_sound : (S : List Fact) → ((x y : ℕ) → Yes (bit (row t x) y) → Settled n S (below x y))
      → ((x y : ℕ) → Yes (bit (row children x) y) → Settled n S (child x y))
      → ((x : ℕ) → Yes (bit roots x) → Settled n S (root x))
      → (x y : ℕ) → Yes (bit (row a x) y) → Settled n S (below x y)
  firsts_sound S s c d k i u = go (dec_lt k n)
    where
      go : Dec (k < n) → Settled n S (below k i)
      go (no h) = s k i (subst (λ (j : ℕ). Yes (bit j i)) (f.rest k (omega arith)) u)
      go (yes h) =
          ⊎_elim (s k i)
          (λ v. ⊎_elim (λ v. child_below (c k i v))
          (λ v. ⊎_elim (λ e. subst (λ (j : ℕ). Settled n S (below k j)) (sym e) (self_below h)) (λ v. root_below (d k v.0) v.1) v) v)
          (first_case _ _ _ _ _ i (subst (λ (j : ℕ). Yes (bit j i)) (f.done k (omega arith)) u))

  into : (k i : ℕ) → k < n → Yes (bit (row children k) i) ⊎ (i ≡ k) ⊎ (Yes (bit roots k) × (i < n)) → Yes (bit (row r k) i)
  into k i h u = (g.up k).kept i (subst (λ (j : ℕ). Yes (bit j i)) (sym (f.done k (omega arith))) (first_in _ _ _ _ _ i u))

  pub chained_rows : Chained n t children roots r
  chained_rows = record {
    up = λ k. up_trans (firsts_up k) (g.up k);
    sound = λ S s c d x y u. reached_least (λ i j. Settled n S (below i j)) (λ i j k. chain) (firsts_sound S s c d) (g.from x y u);
    itself = λ k h. into k k h (inr (inl refl));
    parent = λ k i h u. into k i h (inl u);
    rooted = λ k i h u l. into k i h (inr (inr (u, l)));
    chained = λ k i z h. g.chained k i z (omega arith);
  }

-- ---- groups

pub record Grouping (same : List ℕ) (x a : ℕ) : Type 0 where
  pub has : (k y : ℕ) → k < x → y < 16 → y ≢ k → Yes (bit (row same k) y) → Yes (bit a y)

pub grouping_none : (same : List ℕ) (a : ℕ) → Grouping same 0 a
grouping_none same a = record { has = λ k y h. absurd (not-suc-le-zero h) }

pub grouping_more : (same : List ℕ) (x a one r : ℕ) → one ≡ 2 ^ x → r ≡ without (row same x) one → Grouping same x a → Grouping same (x + 1) (bit_or a r)
grouping_more same x a one r eo er g = record {
  has = λ k y h hy ne u. ⊎_elim
      (λ e. or_r a r y (subst (λ (i : ℕ). Yes (bit i y)) (sym er) (without_in (row same x) one y hy
      (subst (λ (i : ℕ). Yes (bit (row same i) y)) e u) (λ o. ne (one_is x y (subst (λ (i : ℕ). Yes (bit i y)) eo o) ∙ sym e)))))
      (λ l. or_l a r y (g.has k y l hy ne u)) (below_cases h);
}

pub whole : (same : List ℕ) (t m : ℕ) → ((i : ℕ) → Fits w16 (row same i)) → Fits w16 m
    → Gathers (λ y. meets (row same y) t) m
    → WholeGroups same t (bit_or t m)
whole same t m small ms g = record {
  kept = or_l t m;
  from = λ x u. ⊎_elim inl (λ v. let q = meets_out (row same x) t (small x).fits (g.from x v) in
      inr (in_row m x ms.fits v, q.0, q.1, q.2)) (or_case t m x u);
  to = λ x j h u v. or_r t m x (g.to x h (meets_in (row same x) t j u v));
}
