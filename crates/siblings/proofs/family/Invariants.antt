-- `siblings::family` meets its contract: what is there is led to from the group, and grows until it leads to nothing else.
use Prim.Native.Nat.{◌-◌}
use Rattle.siblings.proofs.Loops.{Relating}
use Rattle.siblings.proofs.family.Given as goal

abbrev pub invariant-loop-before : goal.invariant-loop-before
invariant-loop-before l = Relating l.before l.after l.group l.all

abbrev pub decreases-loop-before : goal.decreases-loop-before
decreases-loop-before l = 65536 - l.all
