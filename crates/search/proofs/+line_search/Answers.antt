use mathlib.Core.Path.{◌≡◌, subst}
use mathlib.Core.List.{List}
use Prim.Native.Nat.{ℕ, ◌≤◌, ◌<◌}
use native.Mathlib.Omega.{arith}
use Rattle.std.specs.Prelude.{Option}
use Rattle.meaning.specs.Constraint.{Fact}
use Rattle.tables.specs.declared.Facts.{Facts}
use Rattle.search.specs.Searching.{Line, tables_of}
use Rattle.search.proofs.Entering.{never_apart}
use Rattle.search.proofs.Lines.{first_line, second_line, first_counted, line_clash, line_solved, line_spent, line_first, line_spent_second, line_second}
use Rattle.search.proofs.+line_search.Goals as goal

-- ---- a line

pub line-returns-in_default : goal.line-returns-in_default
line-returns-in_default t c =
    let a = c.args in
    let f = tables_of a.child a.parent a.below a.above a.differ a.before a.after a.label a.root a.leaf in
    λ S w. line_solved _ _ _ S _ w (c.in_default.ensures S w) c.requires.count_bound _ (f, w)

pub line-returns-then-count-allowance : goal.line-returns-then-count-allowance
line-returns-then-count-allowance t c = λ S w.
    line_spent _ _ _ S _ w _ _ _ (c.in-Some.ensures.3 S w) c.if-count-allowance.true

pub line-enter_below-entered-requires : goal.line-enter_below-entered-requires
line-enter_below-entered-requires t c =
    let split = c.in-Some.ensures in
    record { a_lt_n = (split.0.upper, split.0.lower); ready = c.requires.ready; forked = never_apart }

pub line-search-ended-requires : goal.line-search-ended-requires
line-search-ended-requires t c =
    let w = c.requires.ready.1 in
    let left = c.if-count-allowance.false in
    let most = c.requires.count_bound in
    (omega (arith, c.decreases), (omega arith, (_, first_line _ _ _ w _ _ _ (c.in-Some.ensures.3 _ w) _ c.enter_below-entered.ensures)))

pub line-returns-in_default-end : goal.line-returns-in_default-end
line-returns-in_default-end t c = λ S w.
    let alternatives = c.in-Some.ensures.3 S w in
    line_first _ _ _ S _ w _ _ _ alternatives _
    (c.search-ended.ensures _ (first_line _ S _ w _ _ _ alternatives _ c.enter_below-entered.ensures)) c.in_default-end.not-None

pub line-returns-then-used-allowance : goal.line-returns-then-used-allowance
line-returns-then-used-allowance t c = λ S w.
    let alternatives = c.in-Some.ensures.3 S w in
    line_spent_second _ _ _ S _ w _ _ _ alternatives _
    (c.search-ended.ensures _ (first_line _ S _ w _ _ _ alternatives _ c.enter_below-entered.ensures)) c.in-None.is
    c.if-used-allowance.true

pub line-enter_below-entered-requires-2 : goal.line-enter_below-entered-requires-2
line-enter_below-entered-requires-2 t c =
    let split = c.in-Some.ensures in
    record { a_lt_n = (split.1.upper, split.1.lower); ready = c.requires.ready; forked = split.2 }

-- the first alternative has ended in none: fewer than the allowance are entered by then, and more than before
pub line-overflow_add-used : goal.line-overflow_add-used
line-overflow_add-used t c =
    let w = c.requires.ready.1 in
    let alternatives = c.in-Some.ensures.3 _ w in
    let used : (c.args.count < c.search-ended.result.count) × (c.search-ended.result.count ≤ c.args.allowance) =
    first_counted _ _ _ _ _ w _ _ _ alternatives _
    (c.search-ended.ensures _ (first_line _ _ _ w _ _ _ alternatives _ c.enter_below-entered.ensures)) c.in-None.is in
    omega (arith, used, c.if-used-allowance.false, c.ranges.allowance)

pub line-search-ended-requires-2 : goal.line-search-ended-requires-2
line-search-ended-requires-2 t c =
    let w = c.requires.ready.1 in
    let alternatives = c.in-Some.ensures.3 _ w in
    let used : (c.args.count < c.search-ended.result.count) × (c.search-ended.result.count ≤ c.args.allowance) =
    first_counted _ _ _ _ _ w _ _ _ alternatives _
    (c.search-ended.ensures _ (first_line _ _ _ w _ _ _ alternatives _ c.enter_below-entered.ensures)) c.in-None.is in
    let left = c.if-used-allowance.false in
    (omega (arith, c.decreases), (omega arith, (_, second_line _ _ _ w _ _ _ alternatives _ c.enter_below-entered-2.ensures)))

pub line-returns : goal.line-returns
line-returns t c = λ S w.
    let alternatives = c.in-Some.ensures.3 S w in
    line_second _ _ _ S _ w _ _ _ alternatives _
    (c.search-ended.ensures _ (first_line _ S _ w _ _ _ alternatives _ c.enter_below-entered.ensures)) c.in-None.is _
    (c.search-ended-2.ensures _ (second_line _ S _ w _ _ _ alternatives _ c.enter_below-entered-2.ensures))

-- ---- a search

-- what it starts from, where that is tables or none
line_as : {n : ℕ} {S : List Fact} {s t : Option Facts} → s ≡ t → Line n S s → Line n S t
line_as {n} {S} e l = subst (Line n S) e l

pub search-returns-in_default : goal.search-returns-in_default
search-returns-in_default t c = λ S l. line_clash _ _ _ S (line_as c.in_default.is l) c.requires.count_bound

pub search-line-requires : goal.search-line-requires
search-line-requires t c =
    (omega (arith, c.decreases), (c.requires.count_bound, (_, (line_as c.in-Some.is c.requires.line.1).settled)))

pub search-returns : goal.search-returns
search-returns t c = λ S l. c.line.ensures S (line_as c.in-Some.is l).settled
