use Rattle.std.proofs.Common.{◌≡◌, ℕ, ◌+◌, ◌*◌, ◌≤◌, List, ◌++◌, drop}
use Rattle.meaning.specs.Files.{quads}
use Rattle.meaning.specs.Text.{record_lines}
use Rattle.putting.specs.Pages.{Same, Puts}
use Rattle.putting.proofs.Page.records.Given as goal

-- The lines of the records passed are put, and the others follow.
abbrev pub invariant-loop-kind : goal.invariant-loop-kind
invariant-loop-kind l =
    record {
      same : Same l.fn.self l.self;
      short : l.self.at ≤ l.fn.self.at + l.kind-index * 17;
      lines : (text : List ℕ) × Puts l.fn.self text l.self ×
          (record_lines (quads l.answer) ≡ text ++ record_lines (drop l.kind-index (quads l.answer)));
    }
