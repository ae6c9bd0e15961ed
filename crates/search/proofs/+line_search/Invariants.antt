-- `line` and `search` report what the fixed search is, within the allowance. They end since every alternative is counted: what is left of the
-- allowance falls.
use Prim.Native.Nat.{◌+◌, ◌-◌}
use Rattle.search.proofs.+line_search.Given as goal

abbrev pub decreases-line : goal.decreases-line
decreases-line l = (l.allowance - l.count) + (l.allowance - l.count)

abbrev pub decreases-search : goal.decreases-search
decreases-search l = (l.allowance - l.count) + (l.allowance - l.count) + 1
