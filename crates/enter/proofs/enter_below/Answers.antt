-- `enter::enter_below` meets its contract: by rows or by merging, as the test says; with differ before below.
use lib.ListN.{get_or}
use mir.Val.{Fits}
use mir.Syntax.{w16}
use mathlib.Core.List.{List, ◌∷◌}
use mathlib.Core.Path.{ap, refl, sym, ◌∙◌, subst}
use mathlib.Core.Bool.{not, false}
use Prim.Native.Nat.{ℕ}
use borrow.Author.Rules.{rules}
use Rattle.meaning.specs.Constraint.{Fact, below}
use Rattle.tables.specs.Tables.{has, Ready}
use Rattle.tables.specs.Rows.{Crossed}
use Rattle.tables.proofs.Clashes.{blank_crossed}
use Rattle.std.specs.Prelude.{Option, None, Some}
use Rattle.tables.specs.declared.Facts.{Facts}
use Rattle.merge.specs.Merging.{MergedOf}
use Rattle.enter.specs.Entered.{entering, EnteredOf}
use Rattle.enter.proofs.Apart.{differing, differ_ready, differ_known}
use Rattle.enter.proofs.Enter.{not_above, widened, raised_ready, raised_clash, clash_entering, follows, entered_same}
use Rattle.enter.proofs.enter_below.Goals as goal
use Rattle.enter.proofs.enter_below.Goals.{After-enter_same, Joined-else-not-blank}
use Rattle.enter.proofs.enter_below.Goals.{else-not-blank-via-then-not-blank+else-crossed, else-not-blank-via-else-not-blank}

-- below(a, b) by rows, in tables that may have other rows of differ
by_rows : (c : Joined-else-not-blank) (S : List Fact) (d : List ℕ) → Ready c.args.n.count S (differing c.args.f d)
    → Ready c.args.n.count (below c.args.a.0 c.args.b.0 ∷ S)
    (widened (differing c.args.f d) c.raise-below.result c.raise-above.result)
by_rows c S d r =
    let up : Fits w16 (get_or c.args.f.above c.args.a.0 0) = search rules in
    let down : Fits w16 (get_or c.args.f.below c.args.b.0 0) = search rules in
    let uncrossed : Crossed c.args.f.before c.raise-below.result c.raise-above.result false =
    elim c.else-not-blank.branch [
      | else-not-blank-via-then-not-blank+else-crossed w ↦ subst (Crossed _ _ _) w.if-crossed.false w.crossed.ensures
      | else-not-blank-via-else-not-blank w ↦ blank_crossed _ _ _ _ c.blank.ensures (ap not w.if-not-blank.false)
    ] in
    raised_ready _ c.args.n.few S _ _ _ c.requires.a_lt_n.0 c.requires.a_lt_n.1 r up.fits down.fits
    _ _ c.raise-below.ensures c.raise-above.ensures
    _ _ c.has.ensures c.meet.ensures c.if-has-meet.false _ uncrossed refl

pub enter_same-requires-clause-joining : goal.enter_same-requires-clause-joining
enter_same-requires-clause-joining c =
    let up : Fits w16 (get_or c.args.f.above c.args.a.0 0) = search rules in
    let S = c.requires.ready in (
      S.0,
      S.1,
      follows _ _ _ _ c.args.n.few c.requires.a_lt_n.0 up.fits
          _ _ c.has.ensures c.meet.ensures c.if-has-meet.true _ S.1,
    )

same : (c : After-enter_same) → (r : Option Facts) → MergedOf c.args.n.count c.args.f c.args.a.0 c.args.b.0 r
    → EnteredOf c.args.n.count c.args.f (entering c.args.a.0 c.args.b.0 c.args.apart) r
same c r m =
    let up : Fits w16 (get_or c.args.f.above c.args.a.0 0) = search rules in
    entered_same _ _ _ _ c.args.n.few c.requires.a_lt_n.0 up.fits _ _ c.has.ensures c.meet.ensures c.if-has-meet.true
    _ c.requires.ready.1 _ c.requires.forked r m

pub returns-in_err-merged : goal.returns-in_err-merged
returns-in_err-merged c =
    rw c.from_residual.ensures (same (goal.at.returns-in_err-merged c).After-enter_same None c.in_err-merged.ensures)

pub returns-then-has-meet : goal.returns-then-has-meet
returns-then-has-meet c = same (goal.at.returns-then-has-meet c).After-enter_same (Some _) c.in_ok-merged.ensures

pub returns-then-crossed : goal.returns-then-crossed
returns-then-crossed c S r =
    let up : Fits w16 (get_or c.args.f.above c.args.a.0 0) = search rules in
    let down : Fits w16 (get_or c.args.f.below c.args.b.0 0) = search rules in
    clash_entering _ S _ _ c.args.apart
    (raised_clash _ c.args.n.few S _ _ _ c.requires.a_lt_n.0 c.requires.a_lt_n.1 r up.fits down.fits
    _ _ c.raise-below.ensures c.raise-above.ensures
    _ _ c.has.ensures c.meet.ensures c.if-has-meet.false _ c.crossed.ensures c.if-crossed.true)

-- first differ(b, a), then below(a, b)
pub returns-then-not-has : goal.returns-then-not-has
returns-then-not-has c S r =
    let small = λ (i : ℕ). let h : Fits w16 (get_or c.args.f.below i 0) = search rules in h.fits in
    rw c.if-apart.true (by_rows (goal.at.returns-then-not-has c).Joined-else-not-blank _ _
    (differ_ready _ c.args.n.few S _ _ _ c.requires.a_lt_n.0 c.requires.a_lt_n.1 small r
    (not_above _ _ _ _ _ c.has.ensures c.meet.ensures c.if-has-meet.false) _ c.parted-differ.ensures))

-- where they differ already, below(a, b) alone
pub returns-else-not-has : goal.returns-else-not-has
unfolding has
returns-else-not-has c S r =
    rw c.if-apart.true (by_rows (goal.at.returns-else-not-has c).Joined-else-not-blank _ _
    (differ_known _ S _ _ _ r (sym c.has-then-apart.ensures ∙ c.if-not-has.false)))

pub returns-else-apart : goal.returns-else-apart
returns-else-apart c S r =
    rw c.if-apart.false (by_rows (goal.at.returns-else-apart c).Joined-else-not-blank S c.args.f.differ r)
