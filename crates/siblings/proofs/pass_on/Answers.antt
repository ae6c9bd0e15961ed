-- `siblings::pass_on` meets its contract: with no sibling all is as it was.
use mathlib.Core.Path.{refl}
use mathlib.Core.Logic.{inl}
use Rattle.siblings.proofs.Loops.{none_spread, none_turned}
use Rattle.siblings.proofs.pass_on.Goals as goal

pub returns-then-earlier-later-eq0 : goal.returns-then-earlier-later-eq0
returns-then-earlier-later-eq0 c =
    let none = c.if-earlier-later-eq0.true in
    record {
      earlier = _;
      later = _;
      b = _;
      a = _;
      shares = record {
        is_earlier = c.union_rows-earlier.ensures;
        is_later = c.union_rows-later.ensures;
        shared_before = none_turned _ _ _ _ none;
        shared_after = none_spread _ _ _ _ none;
      };
      passes = inl (none, refl);
    }
