-- The library's tests of ASCII bytes are those of labels and paths.
use mathlib.Core.Path.{◌≡◌}
use Prim.Native.Nat.{ℕ}
use native.Mathlib.Omega.{arith}
use Rattle.std.specs.Char.{is_ascii_lowercase, is_ascii_alphabetic, to_ascii_lowercase}
use Rattle.std.proofs.lemmas.Bool.Decides.{nat_tests}
use Rattle.meaning.specs.Finite.{pick, ◌and◌, ◌or◌}
use Rattle.meaning.specs.Tree.{is_capital, folded}
use Rattle.meaning.specs.Paths.{is_small, is_letter}

pub folded_ascii : (l : ℕ) → to_ascii_lowercase l ≡ folded l
unfolding folded is_capital pick ◌and◌
folded_ascii l = grind (arith, nat_tests)

pub small_ascii : (b : ℕ) → is_ascii_lowercase b ≡ is_small b
unfolding is_small ◌and◌
small_ascii b = grind (arith, nat_tests)

pub letter_ascii : (b : ℕ) → is_ascii_alphabetic b ≡ is_letter b
unfolding is_letter is_small is_capital ◌or◌ ◌and◌
letter_ascii b = grind (arith, nat_tests)
