use mathlib.Core.Path.{◌≡◌, sym, subst}
use mathlib.Core.List.{List}
use Prim.Native.Nat.{ℕ}
use Rattle.tables.specs.Rows.{Union}
use Rattle.grouping.specs.Rows.{Gap}
use Rattle.grouping.specs.Grouping.{Pending}
use Rattle.merge.proofs.Entered.{ready_top, begun, merged_clash, merged_well}
use Rattle.merge.proofs.enter_same.Goals as goal

union_at : (t : List ℕ) (j k r : ℕ) → j ≡ k → Union t k r → Union t j r
union_at t j k r e h = subst (λ (i : ℕ). Union t i r) (sym e) h

pub loop-x-init : goal.loop-x-init
loop-x-init c = record {
  pending = λ T p. p;
  top = λ _. ready_top _ _ _ c.requires.joining.1;
  apart = λ z.
      let h = c.two_with_gap-x.ensures.some z in
      (subst (Gap _) (sym h.0) h.1, union_at _ _ _ _ h.0 c.union_two-lower.ensures, union_at _ _ _ _ h.0 c.union_two-upper.ensures);
}

pub next_round-requires : goal.next_round-requires
next_round-requires c = let h = c.loop-x.invariant.apart c.loop-x-test.true in (h.1, h.2)

pub returns-in_err-r : goal.returns-in_err-r
returns-in_err-r c =
    rw c.from_residual.ensures
    (merged_clash _ _ _ _ c.args.n.few c.requires.a_lt_n.0 c.requires.a_lt_n.1 _ c.two_with_gap-x.ensures
    (λ T p. c.in_err-r.ensures _ T (c.loop-x.invariant.pending T p)))

pub loop-x-smaller : goal.loop-x-smaller
loop-x-smaller c = c.in_ok-r.ensures.falls (c.loop-x.invariant.apart c.loop-x-test.true).0

-- what the round says of its next set it says of pending tables: these are so for the set that the call is about
pub loop-x-preserved : goal.loop-x-preserved
loop-x-preserved c =
    let r = c.in_ok-r.ensures in
    let j = c.requires.joining in
    let start = begun _ _ _ _ c.args.n.few c.requires.a_lt_n.0 c.requires.a_lt_n.1 _ c.two_with_gap-x.ensures j.0 j.1 j.2 in
    let p = c.loop-x.invariant.pending _ start in
    record {
      pending = λ T p. r.goes_on _ T (c.loop-x.invariant.pending T p);
      top = r.top _ _ p;
      apart = λ z. (r.gap _ _ p z, c.union_rows-lower.ensures, c.union_rows-upper.ensures);
    }

pub returns : goal.returns
returns c =
    merged_well _ _ _ _ c.args.n.few c.requires.a_lt_n.0 c.requires.a_lt_n.1 _ c.two_with_gap-x.ensures
    _ (c.loop-x.invariant.top c.loop-x-test.false)
    (λ T p. subst (λ (k : ℕ). Pending c.args.n.count T k c.loop-x.g) c.loop-x-test.false (c.loop-x.invariant.pending T p))
