-- `constraints::judge` meets its contract: at every record what it keeps is what the meaning's pass keeps of the records read, so that this and
-- the records to come give the file's answer (meaning/specs/OnePass).
use Prim.Native.Nat.{◌*◌}
use Rattle.constraints.proofs.OnePass.{Keeps}
use Rattle.constraints.proofs.judge.Given as goal

abbrev pub invariant-loop-kind : goal.invariant-loop-kind
invariant-loop-kind l = Keeps l.file (l.kind-index * 4) l.highest
