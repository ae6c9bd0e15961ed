-- The text of a verdict is that of the same verdict by another name.
use mathlib.Core.Path.{◌≡◌, subst}
use mathlib.Core.List.{List}
use Prim.Native.Nat.{ℕ}
use lib.ListN.{take}
use Rattle.lent.specs.Putting.{Put}
use Rattle.solver.specs.declared.Verdict.{Verdict}
use Rattle.text.specs.Verdicts.{bytes_of, solver_text}

pub text_put : (answer : List ℕ) {v r : Verdict} {before after : List ℕ} {at end : ℕ} → v ≡ r
    → Put before at (solver_text v (take (bytes_of v) answer)) end after → Put before at
    (solver_text r (take (bytes_of r) answer)) end after
text_put answer {before = before} {after} {at} {end} e p = subst
    (λ (x : Verdict). Put before at (solver_text x (take (bytes_of x) answer)) end after) e p
