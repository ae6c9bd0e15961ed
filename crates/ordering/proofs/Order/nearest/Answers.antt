-- `ordering::Order::nearest` meets its contract: each that is asked is a variable, and the first that passes is meant.
use Rattle.std.proofs.lemmas.Iterator.{YieldsList-from_slice, IsFirst-from_position, index_from_first}
use Rattle.std.proofs.lemmas.Iterator.Adapters.{serves_from_places}
use Rattle.std.specs.Option.{unwrap_or}
use mathlib.Core.Path.{◌≡◌, sym, ap, ◌∙◌}
use mathlib.Core.Bool.{true, false}
use mathlib.Core.List.{List, map}
use Prim.Native.Nat.{◌<◌}
use borrow.Author.Rules.{rules}
use borrow.Author.Tests.{tests}
use Rattle.ids.specs.declared.Var.{Var}
use Rattle.meaning.specs.Finite.{position}
use Rattle.ordering.specs.Rows.{near}
use Rattle.ordering.proofs.Listing.{taken, taken_count, taken_inside, groups_taken, first_none, first_here, first_next}
use Rattle.ordering.proofs.Order.nearest.Goals as goal

pub position-requires-clause-callable : goal.position-requires-clause-callable
position-requires-clause-callable c =
    let o = c.args.self.now in
    serves_from_places (YieldsList-from_slice (taken o) cc) (λ x q k. search rules)
    (λ x k l e. let h : x.now.0 < 16 = taken_inside o k x.now l e in search rules)

pub returns : goal.returns
returns c =
    let o = c.args.self.now in
    let p = near c.args.ancestry.now.below c.args.ancestry.now.above c.args.over in
    let yes = λ (v : Var). p v.0 ≡ true in
    let no = λ (v : Var). p v.0 ≡ false in
    let first = IsFirst-from_position _ _ c.position.result yes no c.position.ensures.ran
    (YieldsList-from_slice (taken o) cc) (λ x q k. search (rules, tests)) (λ x q k. search (rules, tests)) in
    let found = index_from_first (λ (vs : List Var). position p (map (λ (v : Var). v.0) vs)) yes no (first_none p)
    (λ x xs e. first_here p _ _ e) (λ x xs e. first_next p _ _ e) (taken o) c.position.result first in
    c.unwrap_or.ensures ∙ ap (unwrap_or c.position.result) (sym (taken_count o)) ∙ sym found
    ∙ ap (position p) (sym (groups_taken o))
