-- One line of the search, step by step: what it reports at each return, from what the two alternatives report.
use mathlib.Core.Path.{◌≡◌, refl, ap, subst}
use mathlib.Core.Logic.{◌≢◌}
use mathlib.Core.Bool.{Bool, false}
use mathlib.Core.List.{List, ◌++◌}
use mathlib.Core.Option.{none}
use Rattle.std.specs.Prelude.{Option, Some}
use Rattle.std.specs.Prelude as std
use Prim.Native.Nat.{ℕ, ◌+◌, ◌≤◌, ◌<◌}
use native.Mathlib.Decide.{dec_le}
use native.Mathlib.Omega.{arith}
use Rattle.meaning.specs.Constraint.{Fact}
use Rattle.meaning.specs.FixedSearch.{first_alternative, second_alternative, Outcome, in_none, in_tree}
use Rattle.meaning.specs.Closed.{Inside}
use Rattle.theory.specs.Search.{first_join, search}
use Rattle.theory.proofs.Absent.{Adds}
use Rattle.theory.proofs.Steps.{EndsAs, search_clash, search_solved, search_first, search_second, adds_first, adds_second}
use Rattle.tables.specs.Tables.{has, Ready}
use Rattle.tables.specs.declared.Facts.{Facts}
use Rattle.enter.specs.Entered.{EnteredOf}
use Rattle.search.specs.Searching.{facts, Enters, Alternatives, Line, without_tree, TreeRows, Reports, Report}
use Rattle.search.specs.declared.Below.{Below}
use Rattle.search.specs.declared.Shown.{Shown}
use Rattle.search.specs.declared.End.TheVariants.{Tree, None, Spent}
use Rattle.search.specs.declared.Searched.{Searched}
use Rattle.search.proofs.Reporting.{WasNone, reports_none, reports_tree, reports_spent, reports_search, was_none}

-- ---- the two alternatives

-- the tables after an alternative
entered_line : (n : ℕ) (S : List Fact) (f : Facts) → Ready n S f → (p : Below) (apart : Bool) (A : List Fact) → Inside n (A ++ S) → Enters n S p apart A
    → (e : Option Facts) → EnteredOf n f (facts p apart) e → Line n (A ++ S) e
entered_line n S f r p apart A ins w std.None g = record { inside = ins; settled = w.clash (g S r) }
entered_line n S f r p apart A ins w (Some e) g = record { inside = ins; settled = w.ready (g S r) }

module _ (n : ℕ) (S : List Fact) (f : Facts) (w : Ready n S f) (p q : Below) (apart : Bool) (t : Alternatives n S f p q apart) where
  abbrev pub S₁ : List Fact
  S₁ = first_alternative t.join ++ S

  abbrev pub S₂ : List Fact
  S₂ = second_alternative t.join ++ S

  adds₁ : Adds n S (first_alternative t.join)
  adds₁ = adds_first n S w.inside w.free (has f) w.decides t.join t.is_first

  adds₂ : Adds n S (second_alternative t.join)
  adds₂ = adds_second n S w.inside w.free (has f) w.decides t.join t.is_first

  -- what they start from
  pub first_line : (e : Option Facts) → EnteredOf n f (facts p false) e → Line n S₁ e
  first_line e g = entered_line n S f w p false _ adds₁.inside t.first e g

  pub second_line : (e : Option Facts) → EnteredOf n f (facts q apart) e → Line n S₂ e
  second_line e g = entered_line n S f w q apart _ adds₂.inside t.second e g

  -- how the search ends, from how they end
  found : {R : List Fact} → (search n S₁).outcome ≡ in_tree R → EndsAs n S (in_tree R) (1 + (search n S₁).count)
  found e = search_first n S w.inside w.free (has f) w.decides t.join t.is_first (record { outcome = e; count = refl })

  went_on : (search n S₁).outcome ≡ in_none → EndsAs n S (search n S₂).outcome (2 + (search n S₁).count + (search n S₂).count)
  went_on e =
      search_second n S w.inside w.free (has f) w.decides t.join t.is_first (record { outcome = e; count = refl })
      (record { outcome = refl; count = refl })

  -- at the least the first is entered and searched
  more : 1 + (search n S₁).count ≤ (search n S).count
  more = go (search n S₁).outcome refl
    where
      go : (o : Outcome) → (search n S₁).outcome ≡ o → 1 + (search n S₁).count ≤ (search n S).count
      go in_none e = let c = (went_on e).count in omega arith
      go (in_tree R) e = let c = (found e).count in omega arith

-- ---- what a line reports, with k alternatives entered before

module _ (A n k : ℕ) (S : List Fact) where
  pub line_clash : Line n S std.None → k ≤ A → Report A n k S (without_tree None k)
  line_clash l h = reports_search A n S (search_clash n S l.inside l.settled) k k _ (omega arith) (reports_none A n k _ h refl)

  module _ (f : Facts) (w : Ready n S f) where
    pub line_solved : first_join n (has f) ≡ none → k ≤ A → (s : Shown) → TreeRows n S s → Report A n k S (record { count = k; end = Tree s })
    line_solved e h s g =
        reports_search A n S (search_solved n S w.inside w.free (has f) w.decides e) k k _ (omega arith) (reports_tree A n k _ S s h refl refl g)

    module _ (p q : Below) (apart : Bool) (t : Alternatives n S f p q apart) where
      pub line_spent : k ≡ A → Report A n k S (without_tree Spent k)
      line_spent e = let m = more n S f w p q apart t in reports_spent A n _ _ _ (omega arith) (ap (without_tree Spent) e)

      -- from the first alternative's report
      module _ (r : Searched) (g : Report A n (k + 1) (S₁ n S f w p q apart t) r) where
        -- a tree, or spent
        pub line_first : r.end ≢ None → Report A n k S r
        line_first d = go (dec_le (k + 1 + (search n (S₁ n S f w p q apart t)).count) A) (search n (S₁ n S f w p q apart t)).outcome refl
          where
            go : Dec (k + 1 + (search n (S₁ n S f w p q apart t)).count ≤ A) → (o : Outcome) → (search n (S₁ n S f w p q apart t)).outcome ≡ o → Report A n k S r
            go (no l) o e = let m = more n S f w p q apart t in reports_spent A n _ _ r (omega arith) (g.spent (omega arith))
            go (yes l) in_none e = absurd (d (ap (λ (z : Searched). z.end) (g.none l e)))
            go (yes l) (in_tree R) e =
                reports_search A n S (found n S f w p q apart t e) k (k + 1 + (search n (S₁ n S f w p q apart t)).count) r (omega arith)
                (subst (λ (o : Outcome). Reports A n o (k + 1 + (search n (S₁ n S f w p q apart t)).count) r) e g)

        module _ (e : r.end ≡ None) where
          first_none : WasNone A n (search n (S₁ n S f w p q apart t)).outcome (k + 1 + (search n (S₁ n S f w p q apart t)).count) r
          first_none = was_none A n _ _ r g e

          pub first_counted : (k < r.count) × (r.count ≤ A)
          first_counted = let v = first_none in (omega arith, omega arith)

          pub line_spent_second : r.count ≡ A → Report A n k S (without_tree Spent r.count)
          line_spent_second d =
              let v = first_none in
              let y = (went_on n S f w p q apart t v.is).count in
              reports_spent A n _ _ _ (omega arith) (ap (without_tree Spent) d)

          pub line_second : (z : Searched) → Report A n (r.count + 1) (S₂ n S f w p q apart t) z → Report A n k S z
          line_second z h =
              let v = first_none in
              reports_search A n S (went_on n S f w p q apart t v.is) k (r.count + 1 + (search n (S₂ n S f w p q apart t)).count) z (omega arith) h
