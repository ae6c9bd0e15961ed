-- A round of settling: a pass, and where it leaves no more, the rules of siblings. f is what came in, g what the round
-- began with.
use mathlib.Core.Path.{◌≡◌}
use mathlib.Core.Bool.{Bool, true, false}
use mathlib.Core.List.{List}
use Prim.Native.Nat.{ℕ, ◌≤◌}
use lib.ListN.{length}
use Rattle.meaning.specs.Constraint.{Fact}
use Rattle.tables.specs.Tables.{Seeded}
use Rattle.tables.specs.Rows.{Blank, Transposed}
use Rattle.tables.specs.declared.Facts.{Facts}
use Rattle.passes.specs.Steps.{Clashes, StepOf, BareRules}
use Rattle.passes.specs.declared.Stepped.{Stepped}
use Rattle.settle.specs.Siblings.{Unlike, PassedOn, Parted, InOrder, Crossing, Uncrossed}
use Rattle.settle.specs.Settling.{Settles}
use Rattle.settle.specs.declared.Order.{Order}
use Rattle.settle.proofs.Sibling.{Rowed, Columned, ordering, passing, ordered_clash, ordered_seeded, ordered_passed}
use Rattle.settle.proofs.Sibling.{ordered_bare, ordered_closed, both_seeded, no_siblings}
use Rattle.settle.proofs.Ending.{ready}

-- f is settled from where g is
abbrev pub Kept : ℕ → Facts → Facts → Type 0
Kept n f g = (S : List Fact) → Seeded n S f → Seeded n S g

module _ {n : ℕ} {f g : Facts} {p : Stepped} (few : n ≤ 16) (kept : Kept n f g) (w : StepOf (BareRules n) n g p) where
  pub passed_on : Kept n f p.facts
  passed_on S s = w.seeded S (kept S s)

  module _ (still : p.more ≡ false) where
    closed : (S : List Fact) → Seeded n S f → BareRules n p.facts
    closed S s = w.closed still S (kept S s)

    pub blank_settles : {b : Bool} → Blank p.facts.before b → b ≡ true → Settles n f p.facts
    blank_settles k e S s =
        let h = passed_on S s in let c = closed S s in ready n S p.facts h c.passed c.bare (no_siblings few h k e)

    pub rowed : (S : List Fact) × Seeded n S f → {befores : List ℕ}
        → InOrder n p.facts.before p.facts.below p.facts.above befores
        → Rowed n p.facts befores
    rowed s i = record { few = few; columns = (closed s.0 s.1).passed.ancestors; order = i }

    pub order_clashes : Crossing n p.facts.before p.facts.below p.facts.above → Clashes n f
    order_clashes c S s = ordered_clash (rowed (S, s) c.order) S (passed_on S s) c.crossed

    module _ {r : Order} (u : Uncrossed n p.facts.before p.facts.below p.facts.above r)
        (long : length r.after ≡ 16) where
      columned : Columned r.before r.after
      columned = record { columns = u.columns; long = long }

      module _ {differs childs : List ℕ} (d : Parted p.facts.differ r.before r.after differs)
          (c : PassedOn p.facts.child r.before r.after childs) where
        pub order_settles : {b : Bool} → Unlike p.facts.child childs b → b ≡ false
            → Settles n f (ordering p.facts r.before r.after differs)
        order_settles k e S s =
            let o = rowed (S, s) u.order in
            let h = passed_on S s in
            let a = (closed S s).passed in
            ready n S _ (ordered_seeded o S h columned d) (ordered_passed o S h columned d u.crossed a)
            (ordered_bare o S h columned d (closed S s).bare)
            (ordered_closed o S h columned d u.crossed a c k e)

        pub order_kept : {parents aparts : List ℕ} → Transposed childs parents → length parents ≡ 16
            → Parted differs childs parents aparts
            → Kept n f (passing (ordering p.facts r.before r.after differs) childs parents aparts)
        order_kept t l a S s = both_seeded (rowed (S, s) u.order) d c columned t l a S (passed_on S s)
