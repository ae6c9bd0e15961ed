-- What a reader answers: how many bytes of the buffer it filled, or that reading failed.
use Rattle.std.specs.Prelude.{List, ℕ, Result, Ok, Err}
use Rattle.std.specs.Counts.{IsPrefixLen}

abbrev pub Fills : {E : Type 0} → Result ℕ E → List ℕ → Type 0
Fills (Ok n) buffer = IsPrefixLen n buffer
Fills (Err e) buffer = Unit {0}
