-- The kinds are asked in the order of their list, each where those before it have no join.
use mathlib.Core.Path.{◌≡◌, refl, sym}
use mathlib.Core.Option.{Option}
use Prim.Native.Nat.{ℕ, suc}
use Rattle.std.specs.Prelude.{Some, None, MatchOption}
use Rattle.meaning.specs.ReadOff.{FactSet}
use Rattle.meaning.specs.FixedSearch.{Join, join}
use Rattle.meaning.proofs.Joins.{kind_at}
use Rattle.theory.specs.Find.{first, or_else}
use Rattle.theory.specs.Search.{is_a_join, first_of, first_join}
use Rattle.tables.specs.Tables.{has}
use Rattle.tables.specs.declared.Facts.{Facts}
use Rattle.stages.specs.Found.{Found, join_of}
use Rattle.chains.specs.Rows.{ParentIn, ChainIn}
use Rattle.ancestors.specs.Rows.{SiblingIn, DocumentIn}
use Rattle.joins.specs.Found.{FoundOf}

module _ (n : ℕ) (h : FactSet) where
  -- the first join of the kind at place i
  abbrev at : ℕ → Option Join
  at i = first_of n (is_a_join h (kind_at i)) (join (kind_at i))

  -- r is the first join of the first i kinds: of all of them, of first_join
  abbrev FirstIn : ℕ → Found → Type 0
  FirstIn i r = join_of r ≡ first i at

  no_kind : FirstIn 0 None
  unfolding join_of first
  no_kind = refl

  -- the next kind is asked where no join was found
  next_kind : {P : Type 0} (i : ℕ) (r q : Found) → FirstIn i r → MatchOption r P (λ j. q ≡ Some j) → (P → join_of q ≡ at i) → FirstIn (suc i) q
  unfolding join_of first or_else
  next_kind i None q u w p = rw (sym u) (p w)
  next_kind i (Some j) q u w p = rw (← u, w) refl

-- the stages' answers in turn, of tables with their own rows
pub in_turn : {P Q R : Type 0} (n : ℕ) (f : Facts) (one two three four : Found) → ParentIn n f.parent f.below f.above one
    → MatchOption one P (λ j. two ≡ Some j) → (P → ChainIn n f.below f.above two)
    → MatchOption two Q (λ j. three ≡ Some j) → (Q → SiblingIn n f.before f.after f.below f.above three)
    → MatchOption three R (λ j. four ≡ Some j) → (R → DocumentIn n f.child f.below f.root four) → FoundOf n f four
unfolding first_join
in_turn n f one two three four a b p c q d r S w =
    let parents = next_kind n (has f) 0 None one (no_kind n (has f)) (a f S w) (λ e. e) in
    let chains = next_kind n (has f) 1 one two parents b (λ e. p e f S w) in
    let siblings = next_kind n (has f) 2 two three chains c (λ e. q e f S w) in
    next_kind n (has f) 3 three four siblings d (λ e. r e f S w)
