-- `merge::union_two` meets its contract: what is in the union is in one of the two rows.
use mir.Val.{Fits}
use mir.Syntax.{w16}
use Rattle.tables.specs.Tables.{row}
use Rattle.merge.proofs.Loops.{is_union_two}
use borrow.Author.Rules.{rules}
use Rattle.merge.proofs.union_two.Goals as goal

pub returns : goal.returns
returns c =
    let v : Fits w16 (row c.args.t c.args.a) = search rules in
    let w : Fits w16 (row c.args.t c.args.b) = search rules in
    is_union_two c.args.t c.args.a c.args.b c.requires.0 c.requires.1 v.fits w.fits
