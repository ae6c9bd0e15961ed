-- The joins of the document node: w is neither a root nor below the element y. Roots are the same, and so are their children, so what the lowest
-- root and its lowest child leave to no w, none leaves to one.
use mathlib.Core.Path.{◌≡◌, sym}
use mathlib.Core.Logic.{⊎_elim}
use mathlib.Core.List.{List}
use mathlib.Core.Option.{some}
use Prim.Native.Nat.{ℕ, ◌-◌, ◌^◌, ◌<◌, ◌≤◌}
use native.Mathlib.Nat.{le_trans, le_of_lt}
use native.Mathlib.Omega.{arith}
use lib.Bits.{bit_and, bit_or}
use Rattle.meaning.specs.Tree.{Var}
use Rattle.meaning.specs.Constraint.{Fact, child, below, root}
use Rattle.meaning.specs.Settled.{Settled, chain, root_below, one_element, same_parent, same_root}
use Rattle.meaning.specs.Finite.{Yes}
use Rattle.meaning.specs.ReadOff.{same}
use Rattle.meaning.specs.FixedSearch.{document_join, join}
use Rattle.meaning.proofs.Tests.{clash, and_left, and_right, and_both, no_neg}
use Rattle.theory.specs.Search.{is_a_join, first_of}
use Rattle.rowbits.specs.Bit.{bit}
use Rattle.tables.specs.Tables.{row, has, Ready}
use Rattle.tables.specs.Rows.{Lowest, without}
use Rattle.tables.specs.declared.Facts.{Facts}
use Rattle.tables.proofs.Bits.{or_l, or_r, or_case, without_in, without_out}
use Rattle.stages.proofs.Find.{first_of_is_some}
use Rattle.stages.proofs.Stage.{NoneBefore, var_in, var_out, vars_in, vars_out}

module _ (n : ℕ) (S : List Fact) (f : Facts) (g : Ready n S f) where
  out : (φ : Fact) → Yes (has f φ) → Settled n S φ
  out φ u = g.decides.sound u

  into : (φ : Fact) → Settled n S φ → Yes (has f φ)
  into φ s = g.decides.complete s

  module _ (r y w : Var) (hr : r < n) (hw : w < n) where
    record DocumentParts : Type 0 where
      document : Yes (bit f.root r)
      element : Yes (bit (row f.child r) y)
      not_root : ¬ Yes (bit f.root w)
      not_under : ¬ Yes (bit (row f.below y) w)

    -- a root is the same as r, and what is the same as r is a root
    document_parts : Yes (is_a_join (has f) document_join r y w) → DocumentParts
    unfolding is_a_join same has
    document_parts u =
        let v = and_right _ u in
        record {
          document = and_left _ u;
          element = and_left _ v;
          not_root = λ t. clash (and_both (into (below w r) (root_below (out (root w) t) hr)) (into (below r w) (root_below (out (root r) (and_left _ u)) hw)))
              (and_left _ (and_right _ v));
          not_under = λ t. clash t (and_right _ (and_right _ v));
        }

    parts_document : DocumentParts → Yes (is_a_join (has f) document_join r y w)
    unfolding is_a_join same has
    parts_document p =
        and_both p.document (and_both p.element
        (and_both (no_neg (λ s. p.not_root (into (root w) (same_root (out (below r w) (and_right _ s)) (out (below w r) (and_left _ s)) (out (root r) p.document)))))
        (no_neg p.not_under)))

  -- a child of one root is a child of every root
  any_root : (i r y : Var) → i < n → r < n → Yes (bit f.root i) → Yes (bit f.root r) → Yes (bit (row f.child i) y) → Yes (bit (row f.child r) y)
  unfolding has
  any_root i r y hi hr a b c = into (child r y) (same_parent (root_below (out (root i) a) hr) (root_below (out (root r) b) hi) (out (child i y) c))

  -- what is below one child of a root is below every other
  any_child : (r y k w : Var) → Yes (bit f.root r) → Yes (bit (row f.child r) y) → Yes (bit (row f.child r) k) → Yes (bit (row f.below y) w) → Yes (bit (row f.below k) w)
  unfolding has
  any_child r y k w a b c d = into (below k w) (chain (one_element (out (root r) a) (out (child r k) c) (out (child r y) b)) (out (below y w) d))

-- ---- from the lowest root, its lowest child and the lowest w that these leave

module _ (n : ℕ) (small : n ≤ 16) (f : Facts) (vars : ℕ) (ev : vars ≡ 2 ^ n - 1) (r : ℕ) (lr : Lowest (bit_and f.root vars) r) where
  passed_root : (S : List Fact) (g : Ready n S f) (i k l : Var) → i < n → l < n → Yes (is_a_join (has f) document_join i k l) → Yes (bit (bit_and f.root vars) i)
  passed_root S g i k l hi hl u = vars_in _ vars n i ev hi (document_parts n S f g i k l hi hl u).document

  pub none_without_root : 16 ≤ r → NoneBefore document_join n f n
  none_without_root m S g i k l hi hk hl u = lr.none i (omega arith) (passed_root S g i k l hi hl u)

  module _ (mr : r < 16) (y : ℕ) (ly : Lowest (bit_and (row f.child r) vars) y) where
    r_in : Yes (bit f.root r) × (r < n)
    r_in = vars_out _ vars n r ev (lr.this mr)

    -- the child of another root's join
    moved : (S : List Fact) (g : Ready n S f) (i k l : Var) → i < n → l < n → Yes (is_a_join (has f) document_join i k l) → Yes (bit (row f.child r) k)
    moved S g i k l hi hl u = let p = document_parts n S f g i k l hi hl u in any_root n S f g i r k hi r_in.1 p.document r_in.0 p.element

    passed_child : (S : List Fact) (g : Ready n S f) (i k l : Var) → i < n → k < n → l < n → Yes (is_a_join (has f) document_join i k l) → Yes (bit (bit_and (row f.child r) vars) k)
    passed_child S g i k l hi hk hl u = vars_in _ vars n k ev hk (moved S g i k l hi hl u)

    pub none_without_child : 16 ≤ y → NoneBefore document_join n f n
    none_without_child m S g i k l hi hk hl u = ly.none k (omega arith) (passed_child S g i k l hi hk hl u)

    module _ (my : y < 16) (w : ℕ) (lw : Lowest (without vars (bit_or f.root (row f.below y))) w) where
      y_in : Yes (bit (row f.child r) y) × (y < n)
      y_in = vars_out _ vars n y ev (ly.this my)

      passed_w : (S : List Fact) (g : Ready n S f) (i k l : Var) → i < n → l < n → Yes (is_a_join (has f) document_join i k l)
          → Yes (bit (without vars (bit_or f.root (row f.below y))) l)
      passed_w S g i k l hi hl u =
          let p = document_parts n S f g i k l hi hl u in
          without_in vars (bit_or f.root (row f.below y)) l (le_trans hl small) (var_in vars n l ev hl)
          (λ t. ⊎_elim p.not_root (λ b. p.not_under (any_child n S f g r y k l r_in.0 y_in.0 (moved S g i k l hi hl u) b)) (or_case _ _ l t))

      pub none_left : 16 ≤ w → NoneBefore document_join n f n
      none_left m S g i k l hi hk hl u = lw.none l (omega arith) (passed_w S g i k l hi hl u)

      module _ (mw : w < 16) where
        w_out : Yes (bit vars w) × (¬ Yes (bit (bit_or f.root (row f.below y)) w))
        w_out = without_out _ _ w mw (lw.this mw)

        w_n : w < n
        w_n = var_out vars n w ev w_out.0

        pub document_first : (S : List Fact) → Ready n S f → some (join document_join r y w) ≡ first_of n (is_a_join (has f) document_join) (join document_join)
        document_first S g =
            sym (first_of_is_some n (is_a_join (has f) document_join) (join document_join) r y w r_in.1 y_in.1 w_n
            (parts_document n S f g r y w r_in.1 w_n record {
              document = r_in.0;
              element = y_in.0;
              not_root = λ t. w_out.1 (or_l f.root (row f.below y) w t);
              not_under = λ t. w_out.1 (or_r f.root (row f.below y) w t);
            })
            (λ i k l h hk hl u. lr.none i h (passed_root S g i k l (le_trans h (le_of_lt r_in.1)) hl u))
            (λ k l h hl u. ly.none k h (passed_child S g r k l r_in.1 (le_trans h (le_of_lt y_in.1)) hl u))
            (λ l h u. lw.none l h (passed_w S g r y l r_in.1 (le_trans h (le_of_lt w_n)) u)))
