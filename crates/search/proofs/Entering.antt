-- Entering one below fact enters either alternative of a join, since a fact that is settled already changes nothing when it is given (tables/proofs/Known);
-- but for the differ fact of a chain join's second.
use mathlib.Core.Path.{◌≡◌, refl, sym, ap, subst, ◌∙◌}
use mathlib.Core.Logic.{⊎_elim}
use mathlib.Core.Bool.{Bool, true, false, false≢true}
use mathlib.Core.List.Memᴰ
use mathlib.Core.List.{List, [], ◌∷◌, Memᴰ}
use mathlib.Core.Option.{some}
use Rattle.std.specs.Prelude.{Option, Some, None}
use Prim.Native.Nat.{ℕ}
use Rattle.meaning.specs.Constraint.{Fact, differ}
use Rattle.meaning.specs.Settled.{Settled}
use Rattle.meaning.specs.FixedSearch.{Join, join, IsJoin, ChainJoin, first_alternative, second_alternative}
use Rattle.meaning.specs.Finite.{Yes}
use Rattle.meaning.proofs.Least.{settled_mono, clash_mono}
use Rattle.theory.proofs.Absent.{first_adds, second_adds}
use Rattle.theory.proofs.Search.{first_join_found}
use Rattle.tables.specs.Tables.{has, Ready}
use Rattle.tables.specs.declared.Facts.{Facts}
use Rattle.tables.proofs.Known.{ready_more}
use Rattle.stages.specs.Found.{Found, kind_of, join_of}
use Rattle.joins.specs.Found.{FoundOf}
use Rattle.stages.specs.declared.Join as coded-join
use Rattle.stages.specs.declared.JoinKind as coded
use Rattle.enter.specs.Entered.{Forked}
use Rattle.search.specs.Searching.{fact, Enters, StepOf}
use Rattle.search.specs.declared.Below.{Below}
use Rattle.search.specs.declared.Split.{Split}

-- the fact itself, and with differ
pub enters_one : (n : ℕ) (S : List Fact) (p : Below) → Enters n S p false (fact p ∷ [])
enters_one n S p = record { one = Memᴰ.head refl; ready = λ r. r; clash = λ c. c }

pub enters_apart : (n : ℕ) (S : List Fact) (p : Below) → Enters n S p true (fact p ∷ differ p.lower.0 p.upper.0 ∷ [])
enters_apart n S p = record { one = Memᴰ.head refl; ready = λ r. r; clash = λ c. c }

-- and one that is settled already
pub enters_two : (n : ℕ) (S : List Fact) (p : Below) (φ : Fact) → Settled n S φ → Enters n S p false (φ ∷ fact p ∷ [])
enters_two n S p φ s = record {
  one = Memᴰ.tail (Memᴰ.head refl);
  ready = ready_more n (fact p ∷ S) φ (settled_mono n S (fact p ∷ S) (λ g m. Memᴰ.tail m) s);
  clash = clash_mono n (fact p ∷ S) (φ ∷ fact p ∷ S) (λ g m. Memᴰ.tail m);
}

-- the same in the other order: what is given is a set
module _ (n : ℕ) (S : List Fact) (p : Below) (φ : Fact) where
  turned : (a b g : Fact) → Memᴰ g (a ∷ b ∷ S) → Memᴰ g (b ∷ a ∷ S)
  turned a b g m =
      ⊎_elim (λ e. Memᴰ.tail (Memᴰ.head e)) (λ t. ⊎_elim (λ e. Memᴰ.head e) (λ u. Memᴰ.tail (Memᴰ.tail u)) (Memᴰ.cases_cons t)) (Memᴰ.cases_cons m)

  ready_turned : {g : Facts} → Ready n (φ ∷ fact p ∷ S) g → Ready n (fact p ∷ φ ∷ S) g
  ready_turned r = record {
    inside = λ f m. r.inside f (turned (fact p) φ f m);
    free = λ c. r.free (clash_mono n (fact p ∷ φ ∷ S) (φ ∷ fact p ∷ S) (turned (fact p) φ) c);
    decides = record {
      sound = λ y. settled_mono n (φ ∷ fact p ∷ S) (fact p ∷ φ ∷ S) (turned φ (fact p)) (r.decides.sound y);
      complete = λ d. r.decides.complete (settled_mono n (fact p ∷ φ ∷ S) (φ ∷ fact p ∷ S) (turned (fact p) φ) d);
    };
    mirrored = r.mirrored;
  }

  pub enters_first : Settled n S φ → Enters n S p false (fact p ∷ φ ∷ [])
  enters_first s =
      let e = enters_two n S p φ s in
      record { one = Memᴰ.head refl; ready = λ r. ready_turned (e.ready r); clash = λ c. clash_mono n (φ ∷ fact p ∷ S) (fact p ∷ φ ∷ S) (turned φ (fact p)) (e.clash c) }

-- ---- where the second alternative keeps its variables apart

pub never_apart : {A : Type 0} → Yes false → A
never_apart y = absurd (false≢true y)

pub chain_forked : (n : ℕ) (T : List Fact) (f : Facts) → Ready n T f → (z x y : ℕ) → ChainJoin n T z x y → Forked f y x
chain_forked n T f t z x y q = record {
  under = z;
  above_a = t.decides.complete q.above_y;
  above_b = t.decides.complete q.above_x;
  not_above = λ u. q.not_above (t.decides.sound u);
}

-- ---- the step from the first join found, for any S that the tables are ready for

pub joined : {r : Found} {j : coded-join.Join} {k : coded.JoinKind} → r ≡ Some j → j.kind ≡ k
    → join_of r ≡ some (join (kind_of k) j.z.0 j.x.0 j.y.0)
unfolding join_of
joined e d = rw (e, d)

-- the second alternative of each kind
pub step_taken : (n : ℕ) (f : Facts) (p : Below) (a b : Below × Bool) → a ≡ b → StepOf n f (Some (record { first = p; second = b.0; apart = b.1 }))
    → StepOf n f (Some (record { first = p; second = a.0; apart = a.1 }))
step_taken n f p a b e s = subst (λ (x : Below × Bool). StepOf n f (Some (record { first = p; second = x.0; apart = x.1 }))) (sym e) s

module _ (n : ℕ) (f : Facts) (r : Found) (found : FoundOf n f r) where
  pub step_solved : r ≡ None → (s : Option Split) → s ≡ None → StepOf n f s
  unfolding join_of
  step_solved e s d = subst (StepOf n f) (sym d) (λ S g. sym (found S g) ∙ ap join_of e)

  -- a join of any kind, with what its two alternatives enter
  pub step_split : (T : List Fact) → Ready n T f → (j : Join) → join_of r ≡ some j → (p q : Below) (apart : Bool) → (Yes apart → IsJoin n T j → Forked f q.upper.0 q.lower.0)
      → ((S : List Fact) → IsJoin n S j → Enters n S p false (first_alternative j) × Enters n S q apart (second_alternative j)) → StepOf n f (Some (record { first = p; second = q; apart = apart }))
  step_split T t j e p q apart forked enters =
      let a = (first_adds n T t.inside j (is_join T t)).inside (fact p) (Memᴰ.append_left T (enters T (is_join T t)).0.one) in
      let b = (second_adds n T t.inside j (is_join T t)).inside (fact q) (Memᴰ.append_left T (enters T (is_join T t)).1.one) in (
        record { upper = a.0; lower = a.1 },
        record { upper = b.0; lower = b.1 },
        λ y. forked y (is_join T t),
        λ S g. record { join = j; is_first = sym (found S g) ∙ e; first = (enters S (is_join S g)).0; second = (enters S (is_join S g)).1 },
      )
    where
      is_join : (S : List Fact) → Ready n S f → IsJoin n S j
      is_join S g = (first_join_found n S g.inside (has f) g.decides j (sym (found S g) ∙ e)).is_join
