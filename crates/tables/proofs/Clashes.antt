-- What it is for facts to have no clash, and that tables that decide a settled set have none just where that set has none; and what the tests of
-- the document node, and of before against below, say.
use mathlib.Core.Path.{◌≡◌, refl, sym, ap, ◌∙◌}
use mathlib.Core.Logic.{◌≢◌, ◌⊎◌, inl, inr, ⊎_elim}
use mathlib.Core.Bool.{Bool, true, false, false≢true, not, ◌&&◌, ◌||◌}
use mathlib.Core.List.{List}
use Prim.Native.Nat.{ℕ, ◌<◌, ◌≤◌}
use native.Mathlib.Nat.{le_trans}
use lib.Dec.{eqb}
use Rattle.meaning.specs.Constraint.{Fact, below, before, root, leaf, label}
use Rattle.meaning.specs.Settled.{Settled, Clash, differs, labels, above_sibling, under_sibling, leaf_document, label_document}
use Rattle.meaning.specs.Finite.{Yes, ◌and◌, ◌or◌}
use Rattle.meaning.specs.ReadOff.{Decides}
use Rattle.meaning.specs.Closed.{Within}
use Rattle.meaning.proofs.Tests.{clash, yes_case, and_left, and_right, and_both, or_left, or_right, or_cases, is_eq, eq_yes}
use Rattle.tables.specs.Tables.{has, Columns, Sound}
use Rattle.tables.specs.Rows.{meets, on_document, LabelOf, Crossed, Blank}
use Rattle.tables.specs.declared.Facts.{Facts}
use Rattle.tables.specs.Free.{Clear, Bare, Free}
use Rattle.tables.proofs.Helpers.{and_is, or_is, not_is}
use Rattle.tables.proofs.Bits.{meets_out, meets_in}
use Rattle.tables.proofs.Labels.{label_has, label_is}

module _ (n : ℕ) (S : List Fact) (f : Facts) (d : Decides n S (has f)) where
  pub free_clash : Free (λ φ. Yes (has f φ)) → ¬ Clash n S
  free_clash h (differs {x} c) = h.apart x (d.complete c)
  free_clash h (labels {x} {l} {m} a b z) = z (sym (label_is f x l (d.complete a)).0 ∙ (label_is f x m (d.complete b)).0)
  free_clash h (above_sibling {x} {y} a b) = h.clear.not_above x y (d.complete a) (d.complete b)
  free_clash h (under_sibling {x} {y} a b) = h.clear.not_under x y (d.complete a) (d.complete b)
  free_clash h (leaf_document {x} a b) = h.bare.no_leaf x (d.complete a) (d.complete b)
  free_clash h (label_document {x} {l} a b) = h.bare.no_label x l (d.complete a) (d.complete b)

  pub clash_free : ¬ Clash n S → Free (λ φ. Yes (has f φ))
  clash_free k = record {
    apart = λ x u. k (differs (d.sound u));
    clear = record { not_above = λ x y u v. k (above_sibling (d.sound u) (d.sound v)); not_under = λ x y u v. k (under_sibling (d.sound u) (d.sound v)) };
    bare = record { no_leaf = λ x u v. k (leaf_document (d.sound u) (d.sound v)); no_label = λ x l u v. k (label_document (d.sound u) (d.sound v)) };
  }

-- ---- the test of leaf and label on the document node

module _ (roots leaves group l : ℕ) where
  pub is_on_document : (p q : Bool) → p ≡ meets roots group → q ≡ meets leaves group → (p && (q || not (eqb l 0))) ≡ on_document roots leaves group l
  unfolding on_document
  is_on_document p q d e = rw (← d, ← e) (and_is p (q || not (eqb l 0)) ∙ ap (λ (r : Bool). p and r) (or_is q (not (eqb l 0)) ∙ ap (λ (r : Bool). q or r) (not_is (eqb l 0))))

  pub on_document_lem : Yes (on_document roots leaves group l) → Yes (meets roots group) × (Yes (meets leaves group) ⊎ (l ≢ 0))
  unfolding on_document
  on_document_lem y = (and_left _ y, ⊎_elim inl (λ z. inr (λ e. clash (eq_yes e) z)) (or_cases _ _ (and_right _ y)))

  pub no_leaf_on : ¬ Yes (on_document roots leaves group l) → Yes (meets roots group) → ¬ Yes (meets leaves group)
  unfolding on_document
  no_leaf_on n y z = n (and_both y (or_left _ z))

  pub no_label_on : ¬ Yes (on_document roots leaves group l) → Yes (meets roots group) → l ≡ 0
  unfolding on_document
  no_label_on n y = ⊎_elim is_eq (λ z. absurd (n (and_both y (or_right _ z)))) (yes_case (eqb l 0))

-- with the label of the roots, of whole tables
module _ (f : Facts) (l : ℕ) (o : LabelOf f.label f.root l) where
  pub document_clash : (n : ℕ) (S : List Fact) → Sound n S f → f.leaf < 65536 → Yes (on_document f.root f.leaf f.root l) → Clash n S
  unfolding has
  document_clash n S sound small y =
      ⊎_elim (λ m. let w = meets_out _ _ small m in leaf_document (sound (root w.0) w.2) (sound (leaf w.0) w.1))
      (λ z. let w = o.some z in label_document (sound (root w.0) w.1) (sound (label w.0 l) (label_has f w.0 l w.2 z)))
      (on_document_lem _ _ _ _ y).1

  pub document_bare : ¬ Yes (on_document f.root f.leaf f.root l) → Bare (λ φ. Yes (has f φ))
  unfolding has
  document_bare z = record {
    no_leaf = λ x r k. no_leaf_on _ _ _ l z (meets_in _ _ x r r) (meets_in _ _ x k r);
    no_label = λ x m r k. let q = label_is f x m k in q.1 (sym q.0 ∙ o.none (no_label_on _ _ _ l z (meets_in _ _ x r r)) x r);
  }

-- ---- the test of before against below

-- a table that has nothing has nothing in common with others
pub blank_crossed : (t b a : List ℕ) (r : Bool) → Blank t r → not r ≡ false → Crossed t b a false
blank_crossed t b a true h e = record { some = λ z. absurd (false≢true z); none = λ _ x y l u. absurd (h.none refl x y l u) }
blank_crossed t b a false h e = absurd (false≢true (sym e))

module _ (n : ℕ) (few : n ≤ 16) (f : Facts) (columns : Columns f.below f.above) (within : (φ : Fact) → Yes (has f φ) → Within n φ) (r : Bool)
    (t : Crossed f.before f.below f.above r) where
  pub crossed_clash : (S : List Fact) → ((φ : Fact) → Yes (has f φ) → Settled n S φ) → r ≡ true → Clash n S
  unfolding has
  crossed_clash S sound e =
      let w = t.some e in
      let x = w.0 in
      let y = w.1 in
      let h = within (before x y) w.3 in
      ⊎_elim (λ u. above_sibling (sound (before x y) w.3) (sound (below x y) u))
      (λ u. under_sibling (sound (before x y) w.3) (sound (below y x) (sym (columns y x (le_trans h.1 few) w.2) ∙ u))) w.4

  pub uncrossed_clear : r ≡ false → Clear (λ φ. Yes (has f φ))
  unfolding has
  uncrossed_clear e = record {
    not_above = λ x y u v. (t.none e x y (le_trans (within (before x y) u).0 few) u).0 v;
    not_under = λ x y u v. let h = within (before x y) u in
        (t.none e x y (le_trans h.0 few) u).1 (columns y x (le_trans h.1 few) (le_trans h.0 few) ∙ v);
  }
