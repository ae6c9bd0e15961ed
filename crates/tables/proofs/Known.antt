-- A fact that is settled already changes nothing when it is given.
use mathlib.Core.Path.{sym, subst}
use mathlib.Core.Logic.{⊎_elim}
use mathlib.Core.List.Memᴰ
use mathlib.Core.List.{List, ◌∷◌}
use Prim.Native.Nat.{ℕ}
use Rattle.meaning.specs.Constraint.{Fact}
use Rattle.meaning.specs.Settled.{Settled, given, Clash, differs, labels, above_sibling, under_sibling, leaf_document, label_document}
use Rattle.meaning.specs.Closed.{Within}
use Rattle.meaning.proofs.Least.{settled_least, settled_rules, settled_mono, settled_within}
use Rattle.tables.specs.Tables.{Ready}
use Rattle.tables.specs.declared.Facts.{Facts}

module _ (n : ℕ) (T : List Fact) (φ : Fact) (s : Settled n T φ) where
  more_same : {f : Fact} → Settled n (φ ∷ T) f → Settled n T f
  more_same = settled_least n (φ ∷ T) (Settled n T) (settled_rules n T) (λ f m. ⊎_elim (λ e. subst (Settled n T) (sym e) s) given (Memᴰ.cases_cons m))

  fewer_same : {f : Fact} → Settled n T f → Settled n (φ ∷ T) f
  fewer_same = settled_mono n T (φ ∷ T) (λ g m. Memᴰ.tail m)

  clash_same : Clash n (φ ∷ T) → Clash n T
  clash_same (differs d) = differs (more_same d)
  clash_same (labels a b e) = labels (more_same a) (more_same b) e
  clash_same (above_sibling b d) = above_sibling (more_same b) (more_same d)
  clash_same (under_sibling b d) = under_sibling (more_same b) (more_same d)
  clash_same (leaf_document b d) = leaf_document (more_same b) (more_same d)
  clash_same (label_document b d) = label_document (more_same b) (more_same d)

  pub ready_more : {g : Facts} → Ready n T g → Ready n (φ ∷ T) g
  ready_more r = record {
    inside = λ f m. ⊎_elim (λ e. subst (Within n) (sym e) (settled_within n T r.inside s)) (r.inside f) (Memᴰ.cases_cons m);
    free = λ c. r.free (clash_same c);
    decides = record { sound = λ y. fewer_same (r.decides.sound y); complete = λ d. r.decides.complete (more_same d) };
    mirrored = r.mirrored;
  }
