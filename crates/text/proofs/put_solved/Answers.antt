-- Verdict by verdict.
use Rattle.std.proofs.Common.{◌≤◌, arith, length-append, sym, ap, rules}
use Rattle.std.proofs.Math.Seq.{length-take-le}
use Rattle.meaning.specs.Ascii.{ascii}
use Rattle.meaning.specs.Text.{decimal, numbered, solved_text}
use Rattle.lent.proofs.Stores.{put_then}
use Rattle.putting.proofs.Numbers.{count_digits}
use Rattle.text.specs.Verdicts.{bytes_of, solver_text}
use Rattle.text.proofs.Tellings.{text_put}
use Rattle.text.proofs.put_solved.Goals as goal

pub slice_bounds-file-end : goal.slice_bounds-file-end
unfolding bytes_of
slice_bounds-file-end c =
    let most : c.in-Tree.bytes ≤ 136 = omega (arith, ap bytes_of c.in-Tree.is) in
    omega (arith, most, length-take-le c.in-Tree.bytes c.args.answer.now (omega (arith, most)))

pub records-requires : goal.records-requires
unfolding ascii bytes_of
records-requires c =
    let most : c.in-Tree.bytes ≤ 136 = omega (arith, ap bytes_of c.in-Tree.is) in
    let few = length-take-le c.in-Tree.bytes c.args.answer.now (omega (arith, most)) in
    omega (
      arith,
      most,
      few,
      length-append (decimal c.in-Tree.count) (ascii "\n"),
      count_digits c.in-Tree.count
          (omega arith),
    )

pub returns-in-Tree-clause-put : goal.returns-in-Tree-clause-put
unfolding ascii numbered solved_text solver_text bytes_of
returns-in-Tree-clause-put c = text_put c.args.answer.now (sym c.in-Tree.is)
    (put_then c.line.ensures.put c.records.ensures.put)

pub returns-in-None-clause-put : goal.returns-in-None-clause-put
unfolding ascii numbered solved_text solver_text
returns-in-None-clause-put c = text_put c.args.answer.now (sym c.in-None.is) c.line-in-None.ensures.put

pub returns-in-Spent-clause-put : goal.returns-in-Spent-clause-put
unfolding ascii numbered solved_text solver_text
returns-in-Spent-clause-put c = text_put c.args.answer.now (sym c.in-Spent.is) c.line-in-Spent.ensures.put

pub returns-in-Refused-clause-put : goal.returns-in-Refused-clause-put
unfolding solved_text solver_text
returns-in-Refused-clause-put c = text_put c.args.answer.now (sym c.in-Refused.is) (search rules)
