-- Reports: what each end of a line reports, and what a report tells of the search that it reports.
use mathlib.Core.Path.{◌≡◌, refl, sym, ap, subst, ◌∙◌}
use mathlib.Core.List.{List}
use Prim.Native.Nat.{ℕ, ◌+◌, ◌≤◌, ◌<◌}
use native.Mathlib.Decide.{dec_le}
use native.Mathlib.Omega.{arith}
use Rattle.meaning.specs.Constraint.{Fact}
use Rattle.meaning.specs.FixedSearch.{Outcome, in_none, in_tree}
use Rattle.theory.proofs.Steps.{EndsAs}
use Rattle.search.specs.Searching.{without_tree, TreeRows, Reports, Report}
use Rattle.search.specs.declared.Shown.{Shown}
use Rattle.search.specs.declared.End.{End}
use Rattle.search.specs.declared.End.TheVariants.{Tree, None, Spent}
use Rattle.search.specs.declared.Searched.{Searched}

no_tree_none : {R : List Fact} → in_tree R ≡ in_none → ⊥
no_tree_none e = let z : ◌≡◌ {A = ℕ} 0 1 = cc in omega arith

end_of : {r : Searched} {e : End} {c : ℕ} → r ≡ without_tree e c → r.end ≡ e
end_of d = ap (λ (z : Searched). z.end) d

module _ (A n : ℕ) where
  pub reports_none : (c : ℕ) (r : Searched) → c ≤ A → r ≡ without_tree None c → Reports A n in_none c r
  reports_none c r l e = record { spent = λ h. absurd (omega arith); none = λ h o. e; tree = λ h o. absurd (no_tree_none (sym o)) }

  pub reports_tree : (c : ℕ) (r : Searched) (R : List Fact) (s : Shown) → c ≤ A → r.end ≡ Tree s → r.count ≡ c → TreeRows n R s → Reports A n (in_tree R) c r
  reports_tree c r R s l e k g =
      record { spent = λ h. absurd (omega arith); none = λ h o. absurd (no_tree_none o); tree = λ h {R = Q} o. (s, e, k, same Q o g) }
    where
      same : (Q : List Fact) → in_tree R ≡ in_tree Q → TreeRows n R s → TreeRows n Q s
      same Q o g = let d : R ≡ Q = cc in rw d at g

  pub reports_spent : (o : Outcome) (c : ℕ) (r : Searched) → A < c → r ≡ without_tree Spent A → Reports A n o c r
  reports_spent o c r l e = record { spent = λ h. e; none = λ h q. absurd (omega arith); tree = λ h q. absurd (omega arith) }

  -- the same report of the search of S
  pub reports_search : (S : List Fact) {o : Outcome} {c : ℕ} → EndsAs n S o c → (k d : ℕ) (r : Searched) → k + c ≡ d → Reports A n o d r → Report A n k S r
  reports_search S w k d r e p = rw (w.outcome, w.count, e) p

  -- ---- what a report tells

  pub record WasTree (o : Outcome) (c : ℕ) (r : Searched) (s : Shown) : Type 0 where
    pub tree : List Fact
    pub is : o ≡ in_tree tree
    pub within : c ≤ A
    pub rows : TreeRows n tree s
    pub counted : r.count ≡ c

  pub record WasNone (o : Outcome) (c : ℕ) (r : Searched) : Type 0 where
    pub is : o ≡ in_none
    pub within : c ≤ A
    pub counted : r.count ≡ c

  module _ (o : Outcome) (c : ℕ) (r : Searched) (p : Reports A n o c r) where
    pub was_tree : (s : Shown) → r.end ≡ Tree s → WasTree o c r s
    was_tree s e = go (dec_le c A) o refl
      where
        same : (t : Shown) → r.end ≡ Tree t → t ≡ s
        same t d = let x : Tree t ≡ Tree s = sym d ∙ e in cc

        go : Dec (c ≤ A) → (q : Outcome) → o ≡ q → WasTree o c r s
        go (no l) q d = let w = end_of (p.spent (omega arith)) in let z : ◌≡◌ {A = ℕ} 0 1 = cc in absurd (omega arith)
        go (yes l) in_none d = let w = end_of (p.none l d) in let z : ◌≡◌ {A = ℕ} 0 1 = cc in absurd (omega arith)
        go (yes l) (in_tree R) d = let t = p.tree l d in
            record { tree = R; is = d; within = l; counted = t.2; rows = subst (TreeRows n R) (same t.0 t.1) t.3 }

    pub was_none : r.end ≡ None → WasNone o c r
    was_none e = go (dec_le c A) o refl
      where
        go : Dec (c ≤ A) → (q : Outcome) → o ≡ q → WasNone o c r
        go (no l) q d = let w = end_of (p.spent (omega arith)) in let z : ◌≡◌ {A = ℕ} 0 1 = cc in absurd (omega arith)
        go (yes l) in_none d = record { is = d; within = l; counted = ap (λ (z : Searched). z.count) (p.none l d) }
        go (yes l) (in_tree R) d = let w = (p.tree l d).1 in let z : ◌≡◌ {A = ℕ} 0 1 = cc in absurd (omega arith)

    pub was_spent : r.end ≡ Spent → A < c
    was_spent e = go (dec_le c A) o refl
      where
        go : Dec (c ≤ A) → (q : Outcome) → o ≡ q → A < c
        go (no l) q d = omega arith
        go (yes l) in_none d = let w = end_of (p.none l d) in let z : ◌≡◌ {A = ℕ} 0 1 = cc in absurd (omega arith)
        go (yes l) (in_tree R) d = let w = (p.tree l d).1 in let z : ◌≡◌ {A = ℕ} 0 1 = cc in absurd (omega arith)
