use Rattle.std.proofs.Common.{◌≡◌, drop}
use Rattle.theory.specs.Reader.{front}
use Rattle.axes.proofs.named.Given as goal

-- what is left of the name stands behind what is left of the bytes exactly if the name stands at their front
abbrev pub invariant-loop-i : goal.invariant-loop-i
invariant-loop-i l = front (drop l.i l.s) (drop l.i l.name) ≡ front l.s l.name
