-- What it is to put a text into a buffer.
use Rattle.std.specs.Prelude.{◌≡◌, List, ℕ, ◌+◌, ◌≤◌, length}
use Rattle.std.proofs.lemmas.List.Edits.{sets}

-- the text stands from `at` on, up to r; every other byte is as it was
pub record Put (before : List ℕ) (at : ℕ) (text : List ℕ) (r : ℕ) (after : List ℕ) : Type 0 where
  pub end : r ≡ at + length text
  pub stored : after ≡ sets before at text
  pub within : r ≤ length before
  pub same_length : length after ≡ length before
