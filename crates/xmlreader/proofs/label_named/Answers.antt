-- By whether the name is _.
use mathlib.Core.Path.{◌≡◌, sym}
use Prim.Native.Nat.{ℕ}
use Rattle.meaning.proofs.Tests.{pick_yes, pick_no, is_eq, eq_yes}
use Rattle.theory.specs.Xml.{label_named}
use Rattle.xmlreader.proofs.label_named.Goals as goal

blank_label : (name : ℕ) → name ≡ 95 → 0 ≡ label_named name
unfolding label_named
blank_label name e = sym (pick_yes 0 name (eq_yes e))

letter_label : (name : ℕ) → (name ≡ 95 → ⊥) → name ≡ label_named name
unfolding label_named
letter_label name n = sym (pick_no 0 name (λ y. n (is_eq y)))

pub returns-then-name-eq95 : goal.returns-then-name-eq95
returns-then-name-eq95 c = blank_label c.args.name c.if-name-eq95.true

pub returns-else-name-eq95 : goal.returns-else-name-eq95
returns-else-name-eq95 c = letter_label c.args.name c.if-name-eq95.false
