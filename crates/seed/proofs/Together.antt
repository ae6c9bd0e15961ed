-- The tables put together from the gathered records: they hold what they should.
use mathlib.Core.Path.{◌≡◌, refl, sym, ap, ◌∙◌, subst}
use mathlib.Core.Logic.{◌↔◌, ◌⊎◌, inl, inr, ⊎_elim}
use mathlib.Core.Bool.{Bool}
use mathlib.Core.List.Memᴰ
use mathlib.Core.List.{List, [], Memᴰ}
use Prim.Native.Nat.{ℕ, ◌+◌, ◌*◌, ◌<◌, ◌≤◌}
use native.Mathlib.Decide.{dec_lt}
use native.Mathlib.Omega.{arith}
use lib.Bits.{bit_or}
use lib.ListN.{drop}
use Rattle.rowbits.specs.Bit.{bit}
use Rattle.meaning.specs.Tree.{Var}
use Rattle.meaning.specs.Constraint.{Constraint, is_child, is_below, is_strictly_below, is_same, is_differ, is_root, is_leaf, is_before, vars, Fact, child, below, differ, before, root, leaf, label, facts_of}
use Rattle.meaning.specs.Settled.{Settled, given, child_differ, before_differ, differ_back}
use Rattle.meaning.specs.Marking.{kind}
use Rattle.meaning.specs.Finite.{Yes, pick}
use Rattle.meaning.proofs.Tests.{yes_eq}
use Rattle.meaning.proofs.Constraints.{facts_inside}
use Rattle.constraints.specs.Record.{kind_of, constraint_as}
use Rattle.tables.specs.Tables.{row, has, Seeded}
use Rattle.tables.specs.declared.Facts.{Facts}
use Rattle.tables.proofs.Bits.{or_case, or_l, or_r, none_in}
use Rattle.tables.proofs.Labels.{label_is, label_has}
use Rattle.seed.specs.Seeds.{kind_row, both_ways, RowsOf, TogetherOf, SaidDiffer, Sown, GivesTwoLabels}
use Rattle.seed.proofs.Codes.{left, right, name, spelt_as, Source, source, sourced}
use Rattle.seed.proofs.Gathering.{Gathered}
use Rattle.seed.proofs.Seeding.{Seeding}

-- the 16 rows are a relation
record Tells (rows : ℕ → ℕ) (P : ℕ → ℕ → Type 0) : Type 0 where
  from : (x y : ℕ) → x < 16 → Yes (bit (rows x) y) → P x y
  to : (x y : ℕ) → P x y → (x < 16) × Yes (bit (rows x) y)

unite : {g h : ℕ → ℕ} {P Q : ℕ → ℕ → Type 0} → Tells g P → Tells h Q → Tells (λ x. bit_or (g x) (h x)) (λ x y. P x y ⊎ Q x y)
unite {g} {h} a b = record {
  from = λ x y l u. ⊎_elim (λ v. inl (a.from x y l v)) (λ v. inr (b.from x y l v)) (or_case (g x) (h x) y u);
  to = λ x y. ⊎_elim (λ p. let w = a.to x y p in (w.0, or_l (g x) (h x) y w.1)) (λ q. let w = b.to x y q in (w.0, or_r (g x) (h x) y w.1));
}

-- and so is a table of them
abbrev Bits : List ℕ → (ℕ → ℕ → Type 0) → Type 0
Bits r P = (x y : ℕ) → Yes (bit (row r x) y) ↔ P x y

told : {g : ℕ → ℕ} {r : List ℕ} {P : ℕ → ℕ → Type 0} → RowsOf g r → Tells g P → Bits r P
told {r = r} {P = P} w a x y = (λ u. from u (dec_lt x 16), λ p. let v = a.to x y p in subst (λ (j : ℕ). Yes (bit j y)) (sym (w.within x v.0)) v.1)
  where
    from : Yes (bit (row r x) y) → Dec (x < 16) → P x y
    from u (yes h) = a.from x y h (subst (λ (j : ℕ). Yes (bit j y)) (w.within x h) u)
    from u (no h) = none_in y (subst (λ (j : ℕ). Yes (bit j y)) (w.beyond x (omega arith)) u)

-- a record of these numbers spells c, whose numbers they are, whatever its label
abbrev Spells : ℕ → ℕ → ℕ → ℕ → Constraint → Type 0
Spells k x y l c = (constraint_as (kind_of k) x y l ≡ c) × (kind c ≡ k) × (left c ≡ x) × (right c ≡ y)

module _ (cs : List Constraint) (i : ℕ) (over : drop i cs ≡ []) (small : (c : Constraint) → Memᴰ c cs → (left c < 16) × (right c < 16)) where
  -- the only constraint of its numbers
  same_in : {k x y : ℕ} {c d : Constraint} → ((l : ℕ) → Spells k x y l d) → Memᴰ c cs → kind c ≡ k → left c ≡ x → right c ≡ y → Memᴰ d cs
  same_in {c = c} w m a b e = subst (λ (d : Constraint). Memᴰ d cs) (spelt_as c a b e ∙ (w (name c)).0) m

  -- a constraint of kind k and these two others
  abbrev Given : (Constraint → ℕ) → (Constraint → ℕ) → ℕ → ℕ → ℕ → Type 0
  Given p q k x y = (c : Constraint) × Memᴰ c cs × (kind c ≡ k) × (p c ≡ x) × (q c ≡ y)

  module _ (p q : Constraint → ℕ) (low : (c : Constraint) → Memᴰ c cs → p c < 16) (t : List ℕ) (g : Gathered cs i p q t) (k : ℕ) where
    part : Tells (kind_row t k) (Given p q k)
    part = record { from = given_from; to = λ x y w. (subst (λ (j : ℕ). j < 16) w.3 (low w.0 w.1), given_in x y w) }
      where
        given_from : (x y : ℕ) → x < 16 → Yes (bit (kind_row t k x) y) → Given p q k x y
        given_from x y h u =
            let w = g.from _ y u in
            let e = w.2 in
            let l = low w.0 w.1 in
            (w.0, w.1, omega arith, omega arith, w.3)

        given_in : (x y : ℕ) → Given p q k x y → Yes (bit (kind_row t k x) y)
        given_in x y w =
            let u : Yes (bit (row t (kind w.0 * 16 + p w.0)) (q w.0)) = ⊎_elim (λ n. absurd (Memᴰ.not-nil (rw over at n))) (λ b. b) (g.to w.0 w.1) in
            rw (sym w.2, sym w.3, sym w.4) u

  module _ (rows columns names : List ℕ) (s : Seeding cs i rows columns names) where
    abbrev Of : (Var → Var → Constraint) → ℕ → ℕ → Type 0
    Of d x y = Memᴰ (d x y) cs

    abbrev Back : (Var → Var → Constraint) → ℕ → ℕ → Type 0
    Back d x y = Of d y x

    abbrev Both : (Var → Var → Constraint) → ℕ → ℕ → Type 0
    Both d x y = Of d x y ⊎ Back d x y

    abbrev Unlike : ℕ → ℕ → Type 0
    Unlike x y = (Both is_child x y ⊎ Both is_before x y) ⊎ (Both is_strictly_below x y ⊎ Both is_differ x y)

    by_row : (k : ℕ) → Tells (kind_row rows k) (Given left right k)
    by_row k = part left right (λ c m. (small c m).0) rows s.by_row k

    by_column : (k : ℕ) → Tells (kind_row columns k) (Given right left k)
    by_column k = part right left (λ c m. (small c m).1) columns s.by_column k

    -- kind k is d
    module _ (k : ℕ) (d : Var → Var → Constraint) (w : (x y l : ℕ) → Spells k x y l (d x y)) where
      rows_are : Tells (kind_row rows k) (Of d)
      rows_are = record {
        from = λ x y h u. let g = (by_row k).from x y h u in same_in (w x y) g.1 g.2 g.3 g.4;
        to = λ x y m. let a = w x y 0 in (by_row k).to x y (d x y, m, a.1, a.2, a.3);
      }

      columns_are : Tells (kind_row columns k) (Back d)
      columns_are = record {
        from = λ y x h u. let g = (by_column k).from y x h u in same_in (w x y) g.1 g.2 g.4 g.3;
        to = λ y x m. let a = w x y 0 in (by_column k).to y x (d x y, m, a.1, a.3, a.2);
      }

      both_are : Tells (both_ways rows columns k) (Both d)
      both_are = unite rows_are columns_are

    -- kind k is d, of one variable
    column_is : (k : ℕ) (d : Var → Constraint) → ((x l : ℕ) → Spells k x 0 l (d x)) → (x : ℕ) → Yes (bit (kind_row columns k 0) x) ↔ Memᴰ (d x) cs
    column_is k d w x = (
      λ u. let g = (by_column k).from 0 x (omega arith) u in same_in (w x) g.1 g.2 g.4 g.3,
      λ m. let a = w x 0 in ((by_column k).to 0 x (d x, m, a.1, a.3, a.2)).1,
    )

    module _ (f : Facts) (w : TogetherOf rows columns names f) where
      child_are : Bits f.child (Of is_child)
      unfolding kind constraint_as kind_of pick
      child_are = told w.child_rows (rows_are 1 is_child (λ x y l. (refl, refl, refl, refl)))

      parent_are : Bits f.parent (Back is_child)
      unfolding kind constraint_as kind_of pick
      parent_are = told w.parent_rows (columns_are 1 is_child (λ x y l. (refl, refl, refl, refl)))

      before_are : Bits f.before (Of is_before)
      unfolding kind constraint_as kind_of pick
      before_are = told w.before_rows (rows_are 9 is_before (λ x y l. (refl, refl, refl, refl)))

      after_are : Bits f.after (Back is_before)
      unfolding kind constraint_as kind_of pick
      after_are = told w.after_rows (columns_are 9 is_before (λ x y l. (refl, refl, refl, refl)))

      below_are : Bits f.below (λ x y. Source cs (below x y))
      unfolding kind constraint_as kind_of pick
      below_are =
          told w.below_rows
          (unite (rows_are 2 is_below (λ x y l. (refl, refl, refl, refl)))
          (unite (rows_are 3 is_strictly_below (λ x y l. (refl, refl, refl, refl))) (both_are 4 is_same (λ x y l. (refl, refl, refl, refl)))))

      differ_are : Bits f.differ Unlike
      unfolding kind constraint_as kind_of pick
      differ_are =
          told w.differ_rows
          (unite (unite (both_are 1 is_child (λ x y l. (refl, refl, refl, refl))) (both_are 9 is_before (λ x y l. (refl, refl, refl, refl))))
          (unite (both_are 3 is_strictly_below (λ x y l. (refl, refl, refl, refl))) (both_are 5 is_differ (λ x y l. (refl, refl, refl, refl)))))

      root_is : (x : ℕ) → Yes (bit f.root x) ↔ Memᴰ (is_root x) cs
      unfolding kind constraint_as kind_of pick
      root_is x = rw w.root_row (column_is 6 is_root (λ x l. (refl, refl, refl, refl)) x)

      leaf_is : (x : ℕ) → Yes (bit f.leaf x) ↔ Memᴰ (is_leaf x) cs
      unfolding kind constraint_as kind_of pick
      leaf_is x = rw w.leaf_row (column_is 7 is_leaf (λ x l. (refl, refl, refl, refl)) x)

      label_are : (x l : ℕ) → Yes (has f (label x l)) ↔ Source cs (label x l)
      label_are x l = (
        λ u. let v = label_is f x l u in s.labels.from x l (ap (λ (t : List ℕ). row t x) (sym w.names_kept) ∙ v.0) v.1,
        λ m. ⊎_elim (λ n. absurd (Memᴰ.not-nil (rw over at n)))
            (λ v. label_has f x l (ap (λ (t : List ℕ). row t x) w.names_kept ∙ v.0 ∙ m.2) (λ z. v.1 (m.2 ∙ z))) (s.labels.to x m.0 m.1),
      )

      apart_to : (x y : ℕ) → Unlike x y → Sown (facts_of cs) (differ x y)
      apart_to x y =
          ⊎_elim
          (⊎_elim (⊎_elim (λ m. inl (inr (inl (sourced cs (child x y) m)))) (λ m. inr (inr (inl (sourced cs (child y x) m)))))
          (⊎_elim (λ m. inl (inr (inr (sourced cs (before x y) m)))) (λ m. inr (inr (inr (sourced cs (before y x) m))))))
          (⊎_elim (⊎_elim (λ m. inl (inl (sourced cs (differ x y) (inl m)))) (λ m. inr (inl (sourced cs (differ y x) (inl m)))))
          (⊎_elim (λ m. inl (inl (sourced cs (differ x y) (inr m)))) (λ m. inr (inl (sourced cs (differ y x) (inr m))))))

      apart_from : (x y : ℕ) → Sown (facts_of cs) (differ x y) → Unlike x y
      apart_from x y =
          ⊎_elim
          (⊎_elim (λ m. inr (⊎_elim (λ b. inl (inl b)) (λ b. inr (inl b)) (source cs (differ x y) m)))
          (⊎_elim (λ m. inl (inl (inl (source cs (child x y) m)))) (λ m. inl (inr (inl (source cs (before x y) m))))))
          (⊎_elim (λ m. inr (⊎_elim (λ b. inl (inr b)) (λ b. inr (inr b)) (source cs (differ y x) m)))
          (⊎_elim (λ m. inl (inl (inr (source cs (child y x) m)))) (λ m. inl (inr (inr (source cs (before y x) m))))))

      -- what gives a fact
      by_source : {b : Bool} (φ : Fact) → Yes b ↔ Source cs φ → Yes b ↔ Memᴰ φ (facts_of cs)
      by_source φ v = (λ u. sourced cs φ (v.0 u), λ m. v.1 (source cs φ m))

      pub exact : (φ : Fact) → Yes (has f φ) ↔ Sown (facts_of cs) φ
      unfolding has
      exact (child x y) = by_source (child x y) (child_are x y)
      exact (below x y) = by_source (below x y) (below_are x y)
      exact (differ x y) = (λ u. apart_to x y ((differ_are x y).0 u), λ m. (differ_are x y).1 (apart_from x y m))
      exact (before x y) = by_source (before x y) (before_are x y)
      exact (root x) = by_source (root x) (root_is x)
      exact (leaf x) = by_source (leaf x) (leaf_is x)
      exact (label x l) = by_source (label x l) (label_are x l)

      pub one_label : ¬ GivesTwoLabels (facts_of cs)
      one_label t = t.unlike (sym (named t.one t.gives_one) ∙ named t.other t.gives_other)
        where
          named : (l : ℕ) → Memᴰ (label t.variable l) (facts_of cs) → row f.label t.variable ≡ l
          named l m = (label_is f t.variable l ((exact (label t.variable l)).1 m)).0

      holds : (φ : Fact) → Memᴰ φ (facts_of cs) → Sown (facts_of cs) φ
      holds (child x y) m = m
      holds (below x y) m = m
      holds (differ x y) m = inl (inl m)
      holds (before x y) m = m
      holds (root x) m = m
      holds (leaf x) m = m
      holds (label x l) m = m

      settled : {n : ℕ} (φ : Fact) → Sown (facts_of cs) φ → Settled n (facts_of cs) φ
      settled (child x y) m = given m
      settled (below x y) m = given m
      settled {n} (differ x y) m = ⊎_elim (said x y) (λ k. differ_back (said y x k)) m
        where
          said : (u v : ℕ) → SaidDiffer (facts_of cs) u v → Settled n (facts_of cs) (differ u v)
          said u v = ⊎_elim given (⊎_elim (λ k. child_differ (given k)) (λ k. before_differ (given k)))
      settled (before x y) m = given m
      settled (root x) m = given m
      settled (leaf x) m = given m
      settled (label x l) m = given m

      pub seeded : (n : ℕ) → vars cs ≤ n → Seeded n (facts_of cs) f
      unfolding has
      seeded n l = record {
        inside = facts_inside n cs l;
        held = λ φ m. (exact φ).1 (holds φ m);
        sound = λ φ u. settled φ ((exact φ).0 u);
        child_differ = λ x y u. (exact (differ x y)).1 (inl (inr (inl ((exact (child x y)).0 u))));
        before_differ = λ x y u. (exact (differ x y)).1 (inl (inr (inr ((exact (before x y)).0 u))));
        turned = λ x y u. (exact (differ y x)).1 (⊎_elim inr inl ((exact (differ x y)).0 u));
        parents = λ x y hx hy. yes_eq _ _ (λ u. (child_are x y).1 ((parent_are y x).0 u)) (λ u. (parent_are y x).1 ((child_are x y).0 u));
        siblings = λ x y hx hy. yes_eq _ _ (λ u. (before_are x y).1 ((after_are y x).0 u)) (λ u. (after_are y x).1 ((before_are x y).0 u));
      }
