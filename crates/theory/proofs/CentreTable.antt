-- The rows of the table hold of the meaning: the computed draw keeps the promise, which leaves no other answer, so it is enough that computing gives
-- each row's answer and list.
use mathlib.Core.Path.{◌≡◌, refl, ap, subst, ◌∙◌}
use mathlib.Core.List.{List, map, Memᴰ}
use Rattle.meaning.specs.declared.Centre.{Centre}
use Rattle.meaning.specs.Finite.{pick, ◌and◌}
use Rattle.meaning.specs.Centres.{sum_of, claimed, others, undrawn, drawn_by_all, Drawn, with_draw, added, list_after, DrawPromise}
use Rattle.theory.specs.Centres.{capped, is_sound, drawing_from, drawing}
use Rattle.theory.specs.CentreTable.{Row, Holds, table}
use Rattle.theory.proofs.Rows.{rows_hold}
use Rattle.theory.proofs.Centres.{drawing_keeps, drawing_unique, after_unique}

abbrev answers : Row → Drawn × List Centre
answers row = let r = drawing row.total row.list row.by row.amount in (r, list_after r row.list row.by row.amount)

abbrev stated : Row → Drawn × List Centre
stated row = (row.answer, row.after)

table_computed : map answers table ≡ map stated table
unfolding table drawing drawing_from is_sound capped claimed others undrawn drawn_by_all sum_of list_after added with_draw pick ◌and◌
table_computed = refl

row_holds : (row : Row) → answers row ≡ stated row → Holds row
row_holds row e = record {
  promised = subst (λ (p : Drawn × List Centre). DrawPromise row.total row.list row.by row.amount p.0 p.1) e drawing_keeps;
  only = λ p. (drawing_unique p ∙ ap (λ (q : Drawn × List Centre). q.0) e, after_unique p ∙ ap (λ (q : Drawn × List Centre). q.1) e);
}

pub table_holds : (row : Row) → Memᴰ row table → Holds row
table_holds = rows_hold answers stated Holds row_holds table table_computed
