-- A pass that looks at the document node: a leaf or a label on it is a clash.
use mathlib.Core.Path.{◌≡◌, sym, ◌∙◌}
use mathlib.Core.Bool.{Bool, true, false, false≢true}
use Prim.Native.Nat.{ℕ, ◌<◌}
use Rattle.tables.specs.declared.Facts.{Facts}
use Rattle.tables.specs.Rows.{LabelOf, on_document}
use Rattle.tables.proofs.Clashes.{document_clash, document_bare}
use Rattle.passes.specs.Steps.{StepOf, Clashes, PassRules, BareRules}
use Rattle.passes.specs.declared.Stepped.{Stepped}

module _ {n : ℕ} {f : Facts} {r : Stepped} (w : StepOf (PassRules n) n f r) (l : ℕ)
    (o : LabelOf r.facts.label r.facts.root l) (p : Bool)
    (e : p ≡ on_document r.facts.root r.facts.leaf r.facts.root l) where
  pub bare_step : p ≡ false → StepOf (BareRules n) n f r
  bare_step d = record {
    seeded = w.seeded;
    closed = λ m S s. record {
      passed = w.closed m S s;
      bare = document_bare r.facts l o
          (λ y. false≢true (sym d ∙ e ∙ y));
    };
    grown = w.grown;
  }

  pub document_clashes : r.facts.leaf < 65536 → p ≡ true → Clashes n f
  document_clashes small d S s = document_clash r.facts l o n S (w.seeded S s).sound small (sym e ∙ d)
