-- A join is read from the rows of z, x and y. With the parents of z all the same, any of them, y, tells whether x makes a parent join; of
-- two variables that are incomparable the smaller is found first, so it is the x of a chain join.
use mathlib.Core.Path.{◌≡◌, sym, ◌∙◌, subst}
use mathlib.Core.Logic.{⊎_elim}
use mathlib.Core.List.{List}
use mathlib.Core.Option.{some}
use Prim.Native.Nat.{ℕ, ◌-◌, ◌^◌, ◌<◌, ◌≤◌}
use native.Mathlib.Nat.{le_trans, le_of_lt}
use native.Mathlib.Decide.{dec_lt, ℕ_discrete}
use native.Mathlib.Omega.{arith}
use lib.Bits.{bit_and, bit_or}
use Rattle.meaning.specs.Tree.{Var}
use Rattle.meaning.specs.Constraint.{Fact, child, below}
use Rattle.meaning.specs.Settled.{self_below, chain, one_parent}
use Rattle.meaning.specs.Finite.{Yes}
use Rattle.meaning.specs.ReadOff.{FactSet, same}
use Rattle.meaning.specs.FixedSearch.{parent_join, chain_join, join}
use Rattle.meaning.proofs.Tests.{clash, and_left, and_right, and_both, no_neg, is_lt, lt_yes}
use Rattle.theory.specs.Search.{is_a_join, first_of}
use Rattle.rowbits.specs.Bit.{bit}
use Rattle.tables.specs.Tables.{row, has, Ready}
use Rattle.tables.specs.Rows.{Gathers, Lowest, meets, without}
use Rattle.tables.specs.declared.Facts.{Facts}
use Rattle.tables.proofs.Bits.{none_in, in_both, both_in, or_l, or_r, or_case, without_in, without_out, flip_has, flip_not, meets_in, meets_out}
use Rattle.stages.proofs.Find.{first_of_is_some}
use Rattle.stages.proofs.Stage.{NoneBefore, var_in, vars_in, vars_out, above_is, below_is}
use Rattle.chains.specs.Rows.{Incomparable}

module _ (n : ℕ) (small : n ≤ 16) (S : List Fact) (f : Facts) (r : Ready n S f) where
  abbrev h : FactSet
  h = has f

  -- the mirror says what the table says
  parent_is : (y z : Var) → y < n → z < n → bit (row f.parent z) y ≡ h (child y z)
  unfolding has
  parent_is y z hy hz = r.mirrored.parents y z (le_trans hy small) (le_trans hz small)

  -- what is above one parent is above every other
  any_parent : (x y z k : Var) → Yes (h (child y z)) → Yes (h (child k z)) → Yes (h (below x y)) → Yes (h (below x k))
  any_parent x y z k c d u = r.decides.complete (chain (r.decides.sound u) (one_parent (r.decides.sound c) (r.decides.sound d)))

  -- ---- a parent join

  module _ (z x y : Var) (hz : z < n) (hx : x < n) (hy : y < n) where
    record ParentParts : Type 0 where
      parent : Yes (h (child y z))
      above : Yes (bit (row f.above z) x)
      not_below : ¬ Yes (bit (row f.below z) x)
      not_above : ¬ Yes (h (below x y))

    parent_parts : Yes (is_a_join h parent_join z x y) → ParentParts
    unfolding is_a_join same
    parent_parts u = record {
      parent = and_left _ u;
      above = above_is n small S f r x z hx hz ∙ and_left _ (and_right _ u);
      not_below = λ t. clash (and_both (and_left _ (and_right (h (child y z)) u)) (sym (below_is n small S f r z x) ∙ t)) (and_left _ (and_right _ (and_right _ u)));
      not_above = λ t. clash t (and_right _ (and_right _ (and_right _ u)));
    }

    parts_parent : ParentParts → Yes (is_a_join h parent_join z x y)
    unfolding is_a_join same
    parts_parent p =
        and_both p.parent (and_both (sym (above_is n small S f r x z hx hz) ∙ p.above)
        (and_both (no_neg (λ s. p.not_below (below_is n small S f r z x ∙ and_right _ s))) (no_neg p.not_above)))

    -- ---- a chain join

    record ChainParts : Type 0 where
      ordered : x < y
      above_x : Yes (bit (row f.above z) x)
      above_y : Yes (bit (row f.above z) y)
      incomparable : ¬ Yes (bit (bit_or (row f.below x) (row f.above x)) y)

    chain_parts : Yes (is_a_join h chain_join z x y) → ChainParts
    unfolding is_a_join
    chain_parts u =
        let v = and_right _ u in record {
          ordered = is_lt (and_left _ u);
          above_x = above_is n small S f r x z hx hz ∙ and_left _ v;
          above_y = above_is n small S f r y z hy hz ∙ and_left _ (and_right _ v);
          incomparable = λ t. ⊎_elim (λ b. clash (sym (below_is n small S f r x y) ∙ b) (and_left _ (and_right _ (and_right _ v))))
              (λ a. clash (sym (above_is n small S f r y x hy hx) ∙ a) (and_right _ (and_right _ (and_right _ v)))) (or_case _ _ y t);
        }

    parts_chain : ChainParts → Yes (is_a_join h chain_join z x y)
    unfolding is_a_join
    parts_chain p =
        and_both (lt_yes p.ordered) (and_both (sym (above_is n small S f r x z hx hz) ∙ p.above_x) (and_both (sym (above_is n small S f r y z hy hz) ∙ p.above_y)
        (and_both (no_neg (λ t. p.incomparable (or_l (row f.below x) (row f.above x) y (below_is n small S f r x y ∙ t)))) (no_neg (λ t. p.incomparable (or_r (row f.below x) (row f.above x) y (above_is n small S f r y x hy hx ∙ t)))))))

    apart_back : ¬ Yes (bit (bit_or (row f.below x) (row f.above x)) y) → ¬ Yes (bit (bit_or (row f.below y) (row f.above y)) x)
    apart_back p t = p (⊎_elim (λ b. or_r (row f.below x) (row f.above x) y (above_is n small S f r y x hy hx ∙ sym (below_is n small S f r y x) ∙ b))
        (λ a. or_l (row f.below x) (row f.above x) y (below_is n small S f r x y ∙ sym (above_is n small S f r x y hx hy) ∙ a)) (or_case _ _ x t))

  self_together : (x : Var) → x < n → Yes (bit (bit_or (row f.below x) (row f.above x)) x)
  self_together x hx = or_l (row f.below x) (row f.above x) x (below_is n small S f r x x ∙ r.decides.complete (self_below hx))

-- ---- the parent joins at z

module _ (n : ℕ) (small : n ≤ 16) (f : Facts) (vars : ℕ) (ev : vars ≡ 2 ^ n - 1) (z : Var) (hz : z < n)
    (y : ℕ) (ly : Lowest (bit_and (row f.parent z) vars) y) where
  passed_parent : (S : List Fact) (r : Ready n S f) (i k : Var) → i < n → k < n → Yes (is_a_join (has f) parent_join z i k) → Yes (bit (bit_and (row f.parent z) vars) k)
  passed_parent S r i k hi hk u = vars_in _ vars n k ev hk (parent_is n small S f r k z hk hz ∙ (parent_parts n small S f r z i k hz hi hk u).parent)

  pub none_without_parent : 16 ≤ y → (S : List Fact) → Ready n S f → (i k : Var) → i < n → k < n → ¬ Yes (is_a_join (has f) parent_join z i k)
  none_without_parent l S r i k hi hk u = ly.none k (omega arith) (passed_parent S r i k hi hk u)

  module _ (l : y < 16) (x : ℕ) (lx : Lowest (without (bit_and (row f.above z) vars) (bit_or (row f.below z) (row f.above y))) x) where
    y_in : Yes (bit (row f.parent z) y) × (y < n)
    y_in = vars_out _ vars n y ev (ly.this l)

    passed_x : (S : List Fact) (r : Ready n S f) (i k : Var) → i < n → k < n → Yes (is_a_join (has f) parent_join z i k)
        → Yes (bit (without (bit_and (row f.above z) vars) (bit_or (row f.below z) (row f.above y))) i)
    passed_x S r i k hi hk u =
        let p = parent_parts n small S f r z i k hz hi hk u in
        without_in (bit_and (row f.above z) vars) (bit_or (row f.below z) (row f.above y)) i (le_trans hi small) (vars_in _ vars n i ev hi p.above)
        (λ t. ⊎_elim p.not_below (λ a. p.not_above (any_parent n small S f r i y z k (sym (parent_is n small S f r y z y_in.1 hz) ∙ y_in.0) p.parent
        (sym (above_is n small S f r i y hi y_in.1) ∙ a))) (or_case _ _ i t))

    pub none_without_x : 16 ≤ x → (S : List Fact) → Ready n S f → (i k : Var) → i < n → k < n → ¬ Yes (is_a_join (has f) parent_join z i k)
    none_without_x m S r i k hi hk u = lx.none i (omega arith) (passed_x S r i k hi hk u)

    module _ (m : x < 16) where
      x_out : Yes (bit (bit_and (row f.above z) vars) x) × (¬ Yes (bit (bit_or (row f.below z) (row f.above y)) x))
      x_out = without_out _ _ x m (lx.this m)

      x_in : Yes (bit (row f.above z) x) × (x < n)
      x_in = vars_out _ vars n x ev x_out.0

      pub parent_first : NoneBefore parent_join n f z → (S : List Fact) → Ready n S f → some (join parent_join z x y) ≡ first_of n (is_a_join (has f) parent_join) (join parent_join)
      parent_first before S r =
          sym (first_of_is_some n (is_a_join (has f) parent_join) (join parent_join) z x y hz x_in.1 y_in.1
          (parts_parent n small S f r z x y hz x_in.1 y_in.1 record {
            parent = sym (parent_is n small S f r y z y_in.1 hz) ∙ y_in.0;
            above = x_in.0;
            not_below = λ t. x_out.1 (or_l (row f.below z) (row f.above y) x t);
            not_above = λ t. x_out.1 (or_r (row f.below z) (row f.above y) x (above_is n small S f r x y x_in.1 y_in.1 ∙ t));
          })
          (before S r)
          (λ i k l' hk u. lx.none i l' (passed_x S r i k (le_trans l' (le_of_lt x_in.1)) hk u))
          (λ k l' u. ly.none k l' (passed_parent S r x k x_in.1 (le_trans l' (le_of_lt y_in.1)) u)))

-- ---- the chain joins at z

module _ (f : Facts) (incomparable : List ℕ) (ea : Incomparable f.below f.above incomparable) where
  apart_in : (i k : Var) → i < 16 → k < 16 → ¬ Yes (bit (bit_or (row f.below i) (row f.above i)) k) → Yes (bit (row incomparable i) k)
  apart_in i k hi hk p = subst (λ (j : ℕ). Yes (bit j k)) (sym (ea i hi)) (flip_has _ k hk p)

  apart_out : (i k : Var) → i < 16 → k < 16 → Yes (bit (row incomparable i) k) → ¬ Yes (bit (bit_or (row f.below i) (row f.above i)) k)
  apart_out i k hi hk p = flip_not _ k hk (subst (λ (j : ℕ). Yes (bit j k)) (ea i hi) p)

-- what is properly above z is comparable with all
module _ (n : ℕ) (small : n ≤ 16) (f : Facts) (vars : ℕ) (ev : vars ≡ 2 ^ n - 1) (incomparable : List ℕ) (ea : Incomparable f.below f.above incomparable)
    (loose : ℕ) (gl : Gathers (λ k. meets (row incomparable k) vars) loose) (z : Var) (hz : z < n)
    (e : without (bit_and (bit_and (row f.above z) vars) loose) (row f.below z) ≡ 0) where
  pub none_loose : (S : List Fact) → Ready n S f → (i k : Var) → i < n → k < n → ¬ Yes (is_a_join (has f) chain_join z i k)
  none_loose S r i k hi hk t =
      let p = chain_parts n small S f r z i k hz hi hk t in
      let ki = le_trans hi small in
      let apart = apart_in f incomparable ea i k ki (le_trans hk small) p.incomparable in
      let at = both_in (bit_and (row f.above z) vars) loose i (vars_in _ vars n i ev hi p.above_x) (gl.to i ki (meets_in (row incomparable i) vars k apart (var_in vars n k ev hk))) in
      none_in i (subst (λ (j : ℕ). Yes (bit j i)) e
      (without_in (bit_and (bit_and (row f.above z) vars) loose) (row f.below z) i ki at
      (λ b. p.incomparable (or_r (row f.below i) (row f.above i) k (above_is n small S f r k i hk hi ∙ over b (sym (above_is n small S f r k z hk hz) ∙ p.above_y))))))
    where
      -- one that is the same as z is below all that is above z
      over : Yes (bit (row f.below z) i) → Yes (has f (below k z)) → Yes (has f (below k i))
      over b u = r.decides.complete (chain (r.decides.sound u) (r.decides.sound (sym (below_is n small S f r z i) ∙ b)))

module _ (n : ℕ) (small : n ≤ 16) (f : Facts) (vars : ℕ) (ev : vars ≡ 2 ^ n - 1) (incomparable : List ℕ) (ea : Incomparable f.below f.above incomparable) (z : Var) (hz : z < n)
    (g : ℕ) (gp : Gathers (λ k. meets (row incomparable k) (bit_and (row f.above z) vars)) g)
    (x : ℕ) (lx : Lowest (bit_and (bit_and (row f.above z) vars) g) x) where
  abbrev u : ℕ
  u = bit_and (row f.above z) vars

  -- a member of u that is incomparable from another
  in_c : (i k : Var) → i < 16 → Yes (bit u i) → Yes (bit u k) → Yes (bit (row incomparable i) k) → Yes (bit (bit_and u g) i)
  in_c i k hi ui uk p = both_in u g i ui (gp.to i hi (meets_in (row incomparable i) u k p uk))

  passed : (S : List Fact) → Ready n S f → (i k : Var) → i < n → k < n → Yes (is_a_join (has f) chain_join z i k) → Yes (bit u i) × Yes (bit u k) × Yes (bit (row incomparable i) k)
  passed S r i k hi hk t =
      let p = chain_parts n small S f r z i k hz hi hk t in
      (vars_in _ vars n i ev hi p.above_x, vars_in _ vars n k ev hk p.above_y, apart_in f incomparable ea i k (le_trans hi small) (le_trans hk small) p.incomparable)

  pub none_apart : 16 ≤ x → (S : List Fact) → Ready n S f → (i k : Var) → i < n → k < n → ¬ Yes (is_a_join (has f) chain_join z i k)
  none_apart l S r i k hi hk t = let p = passed S r i k hi hk t in lx.none i (omega arith) (in_c i k (le_trans hi small) p.0 p.1 p.2)

  module _ (m : x < 16) (fits : row incomparable x < 65536) (y : ℕ) (ly : Lowest (bit_and u (row incomparable x)) y) where
    x_at : Yes (bit u x) × Yes (bit g x)
    x_at = in_both u g x (lx.this m)

    x_n : Yes (bit (row f.above z) x) × (x < n)
    x_n = vars_out _ vars n x ev x_at.0

    y_16 : y < 16
    y_16 = go (meets_out (row incomparable x) u fits (gp.from x x_at.1)) (dec_lt y 16)
      where
        go : (i : ℕ) × Yes (bit (row incomparable x) i) × Yes (bit u i) → Dec (y < 16) → y < 16
        go q (yes l) = l
        go q (no l) = absurd (ly.none q.0 (let i : q.0 < n = (vars_out (row f.above z) vars n q.0 ev q.2).1 in omega arith) (both_in u (row incomparable x) q.0 q.2 q.1))

    y_at : Yes (bit u y) × Yes (bit (row incomparable x) y)
    y_at = in_both u (row incomparable x) y (ly.this y_16)

    y_n : Yes (bit (row f.above z) y) × (y < n)
    y_n = vars_out _ vars n y ev y_at.0

    -- the smaller of two that are incomparable is found first
    x<y : (S : List Fact) → Ready n S f → x < y
    x<y S r = go (dec_lt x y) (ℕ_discrete x y)
      where
        go : Dec (x < y) → Dec (x ≡ y) → x < y
        go (yes q) _ = q
        go (no q) (yes e) =
            absurd (apart_out f incomparable ea x y m y_16 y_at.1 (subst (λ (k : ℕ). Yes (bit (bit_or (row f.below x) (row f.above x)) k)) e (self_together n small S f r x x_n.1)))
        go (no q) (no e) =
            absurd (lx.none y (omega arith) (in_c y x y_16 y_at.0 x_at.0
            (apart_in f incomparable ea y x y_16 m (apart_back n small S f r z x y hz x_n.1 y_n.1 (apart_out f incomparable ea x y m y_16 y_at.1)))))

    pub chain_first : NoneBefore chain_join n f z → (S : List Fact) → Ready n S f → some (join chain_join z x y) ≡ first_of n (is_a_join (has f) chain_join) (join chain_join)
    chain_first before S r =
        sym (first_of_is_some n (is_a_join (has f) chain_join) (join chain_join) z x y hz x_n.1 y_n.1
        (parts_chain n small S f r z x y hz x_n.1 y_n.1 record { ordered = x<y S r; above_x = x_n.0; above_y = y_n.0; incomparable = apart_out f incomparable ea x y m y_16 y_at.1 })
        (before S r)
        (λ i k l hk t. let p = passed S r i k (le_trans l (le_of_lt x_n.1)) hk t in lx.none i l (in_c i k (omega arith) p.0 p.1 p.2))
        (λ k l t. let p = passed S r x k x_n.1 (le_trans l (le_of_lt y_n.1)) t in ly.none k l (both_in u (row incomparable x) k p.1 p.2)))
