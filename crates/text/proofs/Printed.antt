-- What `solve` prints of two files that get one answer is the same text, and what `mark` prints of one answer too.
use mathlib.Core.Path.{◌≡◌, sym, ap, ◌∙◌}
use mathlib.Core.List.{List, ◌++◌}
use Prim.Native.Nat.{ℕ}
use lib.ListN.{length, drop}
use Rattle.meaning.specs.Constraint.{Constraint}
use Rattle.meaning.specs.Files.{accepted, judge}
use Rattle.meaning.specs.Text.{solved_text, marked_text}
use Rattle.meaning.specs.Promises.{OneAnswer}
use Rattle.meaning.specs.Shuffled.{AnotherOrder}
use Rattle.meaning.specs.Capitals.{EqualButForCase}
use Rattle.meaning.proofs.Shuffled.{same_solved}
use Rattle.meaning.proofs.Capitals.{case_aside}
use Rattle.putting.specs.Fronts.{Fronted}
use Rattle.text.specs.Printing.{SolvedAs, MarkedAs}

one_text : {text other before after later : List ℕ} {r s : ℕ} → other ≡ text → Fronted text before r after → Fronted other before s later → (s ≡ r) × (later ≡ after)
one_text {text} {before = before} {s = s} e u v =
    let n = v.bytes ∙ ap length e ∙ sym u.bytes in
    (n, v.wrote ∙ ap (λ (t : List ℕ). t ++ drop s before) e ∙ ap (λ (k : ℕ). text ++ drop k before) n ∙ sym u.wrote)

printed_one : {A r s : ℕ} {file other before after later : List ℕ} → OneAnswer file other
    → SolvedAs A file before r after → SolvedAs A other before s later → (s ≡ r) × (later ≡ after)
printed_one one u v = one_text (ap solved_text (one.answers (λ l. l, λ l. l) u.promise v.promise).0) u.text v.text

-- records in another order
pub printed_same : {A r s : ℕ} {file other before after later : List ℕ} {cs : List Constraint} → AnotherOrder file other → judge file ≡ accepted cs
    → SolvedAs A file before r after → SolvedAs A other before s later → (s ≡ r) × (later ≡ after)
printed_same p e = printed_one ((same_solved p).answers e)

-- labels in another case
pub printed_case : {A r s : ℕ} {file other before after later : List ℕ} → EqualButForCase file other
    → SolvedAs A file before r after → SolvedAs A other before s later → (s ≡ r) × (later ≡ after)
printed_case e = printed_one (case_aside e).solved

pub printed_mark : {r s : ℕ} {file other answer drawn before after later : List ℕ} → EqualButForCase file other → EqualButForCase answer drawn
    → MarkedAs file answer before r after → MarkedAs other drawn before s later → (s ≡ r) × (later ≡ after)
printed_mark e d u v = one_text (ap marked_text ((case_aside e).marked d u.promise v.promise)) u.text v.text
