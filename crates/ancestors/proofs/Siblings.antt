-- The joins of siblings at y: a is properly above y and missing above x, one of the siblings of y.
use mathlib.Core.Path.{◌≡◌, refl, sym, ◌∙◌, subst}
use mathlib.Core.Logic.{⊎_elim}
use mathlib.Core.List.{List}
use mathlib.Core.Bool.{Bool, true}
use mathlib.Core.Option.{some}
use Prim.Native.Nat.{ℕ, ◌-◌, ◌^◌, ◌<◌, ◌≤◌}
use native.Mathlib.Nat.{le_trans, le_of_lt}
use native.Mathlib.Decide.{dec_lt}
use native.Mathlib.Omega.{arith}
use lib.Bits.{bit_and, bit_or}
use Rattle.meaning.specs.Tree.{Var}
use Rattle.meaning.specs.Constraint.{Fact, before}
use Rattle.meaning.specs.Finite.{Yes}
use Rattle.meaning.specs.ReadOff.{same}
use Rattle.meaning.specs.FixedSearch.{sibling_join, join}
use Rattle.meaning.proofs.Tests.{clash, and_left, and_right, and_both, or_left, or_right, or_cases, no_neg}
use Rattle.theory.specs.Search.{is_a_join, first_of}
use Rattle.rowbits.specs.Bit.{bit}
use Rattle.tables.specs.Tables.{row, has, Ready}
use Rattle.tables.specs.Rows.{Lowest, without, Blank}
use Rattle.tables.specs.declared.Facts.{Facts}
use Rattle.tables.proofs.Bits.{or_l, or_r, or_case, without_in, without_out, none_in}
use Rattle.stages.specs.Found.{join_of, StageOf}
use Rattle.ancestors.specs.Rows.{Missing}
use Rattle.std.specs.Prelude.{None}
use Rattle.stages.proofs.Find.{first_of_is_none, first_of_is_some}
use Rattle.stages.proofs.Stage.{NoneBefore, vars_in, vars_out, above_is, below_is}

module _ (n : ℕ) (small : n ≤ 16) (S : List Fact) (f : Facts) (r : Ready n S f) where
  after_is : (x y : Var) → x < n → y < n → bit (row f.after y) x ≡ has f (before x y)
  unfolding has
  after_is x y hx hy = r.mirrored.siblings x y (le_trans hx small) (le_trans hy small)

  before_is : (x y : Var) → bit (row f.before x) y ≡ has f (before x y)
  unfolding has
  before_is x y = refl

  module _ (y a x : Var) (hy : y < n) (ha : a < n) (hx : x < n) where
    record SiblingParts : Type 0 where
      sibling : Yes (bit (bit_or (row f.before y) (row f.after y)) x)
      above : Yes (bit (row f.above y) a)
      not_below : ¬ Yes (bit (row f.below y) a)
      not_above : ¬ Yes (bit (row f.below a) x)

    sibling_parts : Yes (is_a_join (has f) sibling_join y a x) → SiblingParts
    unfolding is_a_join same
    sibling_parts u =
        let v = and_right _ u in
        record {
          sibling = ⊎_elim (λ b. or_r (row f.before y) (row f.after y) x (after_is x y hx hy ∙ b))
              (λ b. or_l (row f.before y) (row f.after y) x (before_is y x ∙ b)) (or_cases _ _ (and_left _ u));
          above = above_is n small S f r a y ha hy ∙ and_left _ v;
          not_below = λ t. clash (and_both (and_left _ v) (sym (below_is n small S f r y a) ∙ t)) (and_left _ (and_right _ v));
          not_above = λ t. clash (sym (below_is n small S f r a x) ∙ t) (and_right _ (and_right _ v));
        }

    parts_sibling : SiblingParts → Yes (is_a_join (has f) sibling_join y a x)
    unfolding is_a_join same
    parts_sibling p =
        and_both (⊎_elim (λ b. or_right _ (sym (before_is y x) ∙ b)) (λ b. or_left _ (sym (after_is x y hx hy) ∙ b)) (or_case _ _ x p.sibling))
        (and_both (sym (above_is n small S f r a y ha hy) ∙ p.above)
        (and_both (no_neg (λ s. p.not_below (below_is n small S f r y a ∙ and_right _ s))) (no_neg (λ t. p.not_above (below_is n small S f r a x ∙ t)))))

    -- the mirror of not_above
    above_not : ¬ Yes (bit (row f.below a) x) → ¬ Yes (bit (row f.above x) a)
    above_not q t = q (below_is n small S f r a x ∙ sym (above_is n small S f r a x ha hx) ∙ t)

    not_of_above : ¬ Yes (bit (row f.above x) a) → ¬ Yes (bit (row f.below a) x)
    not_of_above q t = q (above_is n small S f r a x ha hx ∙ sym (below_is n small S f r a x) ∙ t)

-- the siblings of y that are variables
abbrev siblings : Facts → ℕ → Var → ℕ
siblings f vars y = bit_and (bit_or (row f.before y) (row f.after y)) vars

module _ (n : ℕ) (small : n ≤ 16) (f : Facts) (vars : ℕ) (ev : vars ≡ 2 ^ n - 1) (y : Var) (hy : y < n) where
  abbrev s : ℕ
  s = siblings f vars y

  passed_x : (S : List Fact) (r : Ready n S f) (i k : Var) → i < n → k < n → Yes (is_a_join (has f) sibling_join y i k) → Yes (bit s k)
  passed_x S r i k hi hk u = vars_in _ vars n k ev hk (sibling_parts n small S f r y i k hy hi hk u).sibling

  pub none_alone : s ≡ 0 → (S : List Fact) → Ready n S f → (i k : Var) → i < n → k < n → ¬ Yes (is_a_join (has f) sibling_join y i k)
  none_alone e S r i k hi hk u = none_in k (subst (λ (j : ℕ). Yes (bit j k)) e (passed_x S r i k hi hk u))

  abbrev over : ℕ
  over = without (bit_and (row f.above y) vars) (row f.below y)

  module _ (o : ℕ) (is_over : o ≡ over) (g : ℕ) (lacking : Missing f.above s o g) (a : ℕ) (la : Lowest g a) where
    gp : Missing f.above s over g
    gp = subst (λ (k : ℕ). Missing f.above s k g) is_over lacking

    passed_a : (S : List Fact) (r : Ready n S f) (i k : Var) → i < n → k < n → Yes (is_a_join (has f) sibling_join y i k) → Yes (bit g i)
    passed_a S r i k hi hk u =
        let p = sibling_parts n small S f r y i k hy hi hk u in
        gp.to k i (passed_x S r i k hi hk u) (without_in _ _ i (le_trans hi small) (vars_in _ vars n i ev hi p.above) p.not_below)
        (above_not n small S f r y i k hy hi hk p.not_above)

    pub none_missing : 16 ≤ a → (S : List Fact) → Ready n S f → (i k : Var) → i < n → k < n → ¬ Yes (is_a_join (has f) sibling_join y i k)
    none_missing l S r i k hi hk u = la.none i (omega arith) (passed_a S r i k hi hk u)

    module _ (m : a < 16) (x : ℕ) (lx : Lowest (without s (row f.below a)) x) where
      a_out : Yes (bit (bit_and (row f.above y) vars) a) × (¬ Yes (bit (row f.below y) a))
      a_out = without_out _ _ a m (gp.from a (la.this m)).0

      a_n : Yes (bit (row f.above y) a) × (a < n)
      a_n = vars_out _ vars n a ev a_out.0

      module _ (S : List Fact) (r : Ready n S f) where
        x_16 : x < 16
        x_16 = go (gp.from a (la.this m)).1 (dec_lt x 16)
          where
            go : (i : ℕ) × Yes (bit s i) × (¬ Yes (bit (row f.above i) a)) → Dec (x < 16) → x < 16
            go q (yes l) = l
            go q (no l) =
                let hi : q.0 < n = (vars_out (bit_or (row f.before y) (row f.after y)) vars n q.0 ev q.1).1 in
                let ki : q.0 < 16 = le_trans hi small in
                absurd (lx.none q.0 (omega arith) (without_in s (row f.below a) q.0 ki q.1 (not_of_above n small S f r y a q.0 hy a_n.1 hi q.2)))

        x_out : Yes (bit s x) × (¬ Yes (bit (row f.below a) x))
        x_out = without_out s (row f.below a) x x_16 (lx.this x_16)

        x_n : Yes (bit (bit_or (row f.before y) (row f.after y)) x) × (x < n)
        x_n = vars_out _ vars n x ev x_out.0

        sibling_at : Yes (is_a_join (has f) sibling_join y a x)
        sibling_at = parts_sibling n small S f r y a x hy a_n.1 x_n.1 record { sibling = x_n.0; above = a_n.0; not_below = a_out.1; not_above = x_out.1 }

        passed_lower : (k : Var) → k < x → ¬ Yes (is_a_join (has f) sibling_join y a k)
        passed_lower k l t =
            let hk = le_trans l (le_of_lt x_n.1) in
            let p = sibling_parts n small S f r y a k hy a_n.1 hk t in
            lx.none k l (without_in s (row f.below a) k (le_trans hk small) (passed_x S r a k a_n.1 hk t) p.not_above)

      pub sibling_first : NoneBefore sibling_join n f y → (S : List Fact) → Ready n S f → some (join sibling_join y a x) ≡ first_of n (is_a_join (has f) sibling_join) (join sibling_join)
      sibling_first early S r =
          sym (first_of_is_some n (is_a_join (has f) sibling_join) (join sibling_join) y a x hy a_n.1 (x_n S r).1 (sibling_at S r) (early S r)
          (λ i k l hk t. la.none i l (passed_a S r i k (le_trans l (le_of_lt a_n.1)) hk t)) (passed_lower S r))

-- nothing is before anything
pub none_ordered : (n : ℕ) → n ≤ 16 → (f : Facts) (b : Bool) → Blank f.before b → b ≡ true → StageOf sibling_join n f None
unfolding join_of is_a_join
none_ordered n small f b blank e S r =
    sym (first_of_is_none n (is_a_join (has f) sibling_join) (join sibling_join)
    (λ y a x hy ha hx t. ⊎_elim
    (λ u. blank.none e x y (le_trans hx small) (before_is n small S f r x y ∙ u))
    (λ u. blank.none e y x (le_trans hy small) (before_is n small S f r y x ∙ u)) (or_cases _ _ (and_left _ t))))
