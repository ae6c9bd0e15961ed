-- The loops over y and z: what x has taken so far of its group.
use mathlib.Core.Path.{◌≡◌, refl, sym, ◌∙◌, subst}
use mathlib.Core.Logic.{◌≢◌, inl, inr, ⊎_elim}
use mathlib.Core.Bool.{Bool, false, ◌&&◌, not, false≢true}
use mathlib.Core.List.{List}
use Prim.Native.Nat.{ℕ, ◌^◌}
use native.Mathlib.Decide.{ℕ_discrete}
use lib.Dec.{eqb}
use lib.Bits.{bit_and}
use Rattle.meaning.specs.Finite.{Yes}
use Rattle.meaning.proofs.Tests.{is_eq, eq_yes, pick_yes, pick_no, not_yes}
use Rattle.rowbits.specs.Bit.{bit}
use Rattle.tables.specs.Tables.{row}
use Rattle.tables.specs.Rows.{Lowest, without}
use Rattle.tables.proofs.Bits.{none_in, or_case, or_l, or_r, in_both, both_in, gained_up, gained_has, gained_case}
use Rattle.tables.proofs.Tested.{and_yes, yes_and, not_eq, eq_not}
use Rattle.tables.proofs.Members.{Passed, passed_more, passed_all, next_named}
use Rattle.sharing.specs.Shares.{Clashing, WithRows, WithGroup, share_at, Taking, Twin, Taken}
use Rattle.sharing.specs.declared.Share.{Share}
use Rattle.sharing.specs.declared.Shares.{Shares}

-- ---- labels

pub labels_clash : (l m : ℕ) → Clashing l m ((not (eqb l 0) && not (eqb m 0)) && not (eqb l m))
labels_clash l m = record {
  clash = λ e. let p = and_yes _ _ e in let q = and_yes _ _ p.0 in (not_eq l 0 q.0, not_eq m 0 q.1, not_eq l m p.1);
  free = λ e a b. go e a b (ℕ_discrete l m);
}
  where
    go : ((not (eqb l 0) && not (eqb m 0)) && not (eqb l m)) ≡ false → l ≢ 0 → m ≢ 0 → Dec (l ≡ m) → l ≡ m
    go e a b (yes q) = q
    go e a b (no q) = absurd (not_yes e (yes_and _ _ (yes_and _ _ (eq_not l 0 a) (eq_not m 0 b)) (eq_not l m q)))

-- ---- nothing taken is lost

pub record Grown (s r : Share) : Type 0 where
  pub child : (j : ℕ) → Yes (bit s.child j) → Yes (bit r.child j)
  pub parent : (j : ℕ) → Yes (bit s.parent j) → Yes (bit r.parent j)
  pub differ : (j : ℕ) → Yes (bit s.differ j) → Yes (bit r.differ j)
  pub label : s.label ≢ 0 → r.label ≡ s.label

pub grown_none : (s : Share) → Grown s s
grown_none s = record { child = λ j u. u; parent = λ j u. u; differ = λ j u. u; label = λ z. refl }

pub grown_trans : {q s r : Share} → Grown q s → Grown s r → Grown q r
grown_trans g h = record {
  child = λ j u. h.child j (g.child j u);
  parent = λ j u. h.parent j (g.parent j u);
  differ = λ j u. h.differ j (g.differ j u);
  label = λ z. let e = g.label z in h.label (λ n. z (sym e ∙ n)) ∙ e;
}

-- bits of a row that is known
by : {a b : ℕ} (j : ℕ) → a ≡ b → Yes (bit b j) → Yes (bit a j)
by j e u = subst (λ (k : ℕ). Yes (bit k j)) (sym e) u

of : {a b : ℕ} (j : ℕ) → a ≡ b → Yes (bit a j) → Yes (bit b j)
of j e u = subst (λ (k : ℕ). Yes (bit k j)) e u

rows_grown : {s r : Share} {c p d l : ℕ} → WithRows s c p d l r → Grown s r
rows_grown {s} {r} {c} {p} {d} {l} e = record {
  child = λ j u. by j e.child (or_l s.child c j u);
  parent = λ j u. by j e.parent (or_l s.parent p j u);
  differ = λ j u. by j e.differ (or_l s.differ d j u);
  label = λ z. e.label ∙ pick_no _ _ (λ u. z (is_eq u));
}

module _ (same : List ℕ) (t : Shares) (own : ℕ) where
  -- nothing is taken yet
  pub taking_none : (s : Share) → (s.child ≡ 0) × ((s.parent ≡ 0) × ((s.differ ≡ 0) × (s.label ≡ 0)))
      → Taking same t own s
  taking_none s (c, (p, (d, l))) = record {
    child = λ j u. none_in j (of j c u);
    parent = λ j u. none_in j (of j p u);
    differ = λ j u. none_in j (of j d u);
    label = λ z. absurd (z l);
  }

  -- the rows of y are added, before the loop over z
  pub added : {s r : Share} (y : ℕ) → Taking same t own s → Yes (bit own y)
      → WithRows s (row t.child y) (row t.parent y) (row t.differ y) (row t.label y) r → Taking same t own r
  added {s} {r} y w at e = record {
    child = λ j u. ⊎_elim (w.child j) (λ v. (y, at, inl v)) (or_case s.child (row t.child y) j (of j e.child u));
    parent = λ j u. ⊎_elim (w.parent j) (λ v. (y, at, inl v)) (or_case s.parent (row t.parent y) j (of j e.parent u));
    differ = λ j u. ⊎_elim (w.differ j) (λ v. (y, at, inl v)) (or_case s.differ (row t.differ y) j (of j e.differ u));
    label = λ z. named (ℕ_discrete s.label 0);
  }
    where
      named : Dec (s.label ≡ 0) → (i : ℕ) × Yes (bit own i) × (row t.label i ≡ r.label)
      named (yes n) = (y, at, sym (e.label ∙ pick_yes _ _ (eq_yes n)))
      named (no n) = let q = w.label n in (q.0, q.1, q.2 ∙ sym ((rows_grown e).label n))

  module _ (x visits : ℕ) where
    twin_up : {f s r : Share} {z : ℕ} → Grown s r → Twin same x f s z → Twin same x f r z
    twin_up g w = record {
      apart = w.apart;
      child = λ u j v. g.child j (w.child u j v);
      parent = λ u j v. g.parent j (w.parent u j v);
      differ = λ j v. g.differ j (w.differ j v);
    }

    taken_up : {s r : Share} {i : ℕ} → Grown s r → Taken same t x visits s i → Taken same t x visits r i
    taken_up g w = record {
      child = λ j u. g.child j (w.child j u);
      parent = λ j u. g.parent j (w.parent j u);
      differ = λ j u. g.differ j (w.differ j u);
      label = λ z. let q = w.label z in g.label (λ n. z (sym q ∙ n)) ∙ q;
      twins = λ z u v. twin_up g (w.twins z u v);
    }

    -- ---- the loop over z

    -- what the loop over z knows: q is what x had when it began
    abbrev pub Zs : ℕ → Share → Share → ℕ → Type 0
    Zs y q s zs = Taking same t own s × Passed (Twin same x (share_at t y) s) (bit_and (row t.differ y) visits) zs × Grown q s

    pub z_step : (q s r : Share) (y zs z : ℕ) (c p : Bool) → Zs y q s zs → Yes (bit own y) → zs ≢ 0 → Lowest zs z → bit (row same z) x ≡ false
        → c ≡ bit (row t.child y) z → p ≡ bit (row t.parent y) z → WithGroup s c p (row same z) r → Zs y q r (without zs (2 ^ z))
    z_step q s r y zs z c p (w, passed, g) at some low n ec ep e = (
      record {
        child = λ j u. ⊎_elim (w.child j) (λ v. (y, at, inr (z, sym ec ∙ v.0, v.1))) (gained_case c s.child (row same z) j (of j e.child u));
        parent = λ j u. ⊎_elim (w.parent j) (λ v. (y, at, inr (z, sym ep ∙ v.0, v.1))) (gained_case p s.parent (row same z) j (of j e.parent u));
        differ = λ j u. ⊎_elim (w.differ j) (λ v. (y, at, inr (z, (in_both (row t.differ y) visits z (next_named _ _ zs z passed some low)).0, v))) (or_case s.differ (row same z) j (of j e.differ u));
        label = λ n. let q = w.label (λ k. n (e.label ∙ k)) in (q.0, q.1, q.2 ∙ sym e.label);
      },
      passed_more _ _ zs z passed some low _ (λ i. twin_up up) record {
        apart = λ u. false≢true (sym n ∙ u);
        child = λ u j v. by j e.child (gained_has c s.child (row same z) j (ec ∙ u) v);
        parent = λ u j v. by j e.parent (gained_has p s.parent (row same z) j (ep ∙ u) v);
        differ = λ j v. by j e.differ (or_r s.differ (row same z) j v);
      },
      grown_trans g up,
    )
      where
        up : Grown s r
        up = record {
          child = λ j u. by j e.child ((gained_up c s.child (row same z)).kept j u);
          parent = λ j u. by j e.parent ((gained_up p s.parent (row same z)).kept j u);
          differ = λ j u. by j e.differ (or_l s.differ (row same z) j u);
          label = λ n. e.label;
        }

    -- ---- the loop over y

    abbrev pub Ys : Share → ℕ → Type 0
    Ys s ys = Taking same t own s × Passed (Taken same t x visits s) own ys

    pub y_step : (s q r : Share) (ys y zs : ℕ) → Ys s ys → ys ≢ 0 → Lowest ys y → Clashing s.label (row t.label y) false
        → WithRows s (row t.child y) (row t.parent y) (row t.differ y) (row t.label y) q → zs ≡ 0 → Zs y q r zs → Ys r (without ys (2 ^ y))
    y_step s q r ys y zs (_, w) some low nc e none (taking, p, g) = (
      taking,
      passed_more _ _ ys y w some low _ (λ i. taken_up (grown_trans (rows_grown e) g)) record {
        child = λ j u. g.child j (by j e.child (or_r s.child _ j u));
        parent = λ j u. g.parent j (by j e.parent (or_r s.parent _ j u));
        differ = λ j u. g.differ j (by j e.differ (or_r s.differ _ j u));
        label = λ z. let n = named z (ℕ_discrete s.label 0) in g.label (λ k. z (sym n ∙ k)) ∙ n;
        twins = λ z u v. passed_all _ _ zs p none z (both_in (row t.differ y) visits z u v);
      },
    )
      where
        named : row t.label y ≢ 0 → Dec (s.label ≡ 0) → q.label ≡ row t.label y
        named z (yes n) = e.label ∙ pick_yes _ _ (eq_yes n)
        named z (no n) = (rows_grown e).label n ∙ nc.free refl n z
