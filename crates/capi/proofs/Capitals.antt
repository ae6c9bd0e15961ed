-- What C is told of files that are equal but for the case of their labels, and of texts that are so but for that of their tests.
use mathlib.Core.Path.{◌≡◌, sym, ap, ◌∙◌}
use mathlib.Core.List.{List}
use Prim.Native.Nat.{ℕ, ◌≤◌}
use lib.ListN.{length}
use Rattle.meaning.specs.Paths.{Path, OfForm}
use Rattle.meaning.specs.Results.{told, Fill, fill_refused, fill_written, marked_number, fill_number}
use Rattle.meaning.specs.Promises.{SameRoom}
use Rattle.meaning.specs.Capitals.{EqualButForCase, small_text, ReadAlike}
use Rattle.meaning.proofs.RecasedFiles.{length_kept}
use Rattle.meaning.proofs.Capitals.{case_aside}
use Rattle.theory.proofs.PathCapitals.{texts_aside}
use Rattle.capi.specs.Solves.{Solves}
use Rattle.capi.specs.Grades.{Grades}
use Rattle.capi.specs.Translates.{Translates}
use Rattle.capi.specs.Told.{ToldSame}
use Rattle.capi.proofs.Told.{told_one}

pub told_case : {A r s : ℕ} {file other buffer after lent later : List ℕ} → A ≤ 4294967295 → EqualButForCase file other → SameRoom buffer lent
    → Solves A file buffer r after → Solves A other lent s later → ToldSame buffer after lent later r s
told_case most e = told_one most (case_aside e).solved

pub told_mark : {r s : ℕ} {file other answer drawn : List ℕ} → EqualButForCase file other → EqualButForCase answer drawn
    → Grades file answer r → Grades other drawn s → s ≡ r
told_mark e d u v = v.number ∙ ap marked_number ((case_aside e).marked d u.promise v.promise) ∙ sym u.number

read_number : (r s : Fill) → ReadAlike r s → fill_number s ≡ fill_number r
unfolding fill_number
read_number (fill_refused q) s e = ap fill_number e
read_number (fill_written bs) s w = ap fill_number w.1 ∙ ap (λ (n : ℕ). told 0 n 0) (sym (length_kept bs w.0 w.2))

-- what is written is equal but for case: TextsCaseAside.read
pub told_text : {r s : ℕ} {text other buffer after lent later : List ℕ} {ps qs : List Path} → small_text text ≡ small_text other
    → OfForm text ps → OfForm other qs → 1024 ≤ length buffer → 1024 ≤ length lent → Translates text buffer r after → Translates other lent s later → s ≡ r
told_text e f g l m u v = v.number ∙ read_number _ _ ((texts_aside e).read f g l m u.promise v.promise) ∙ sym u.number
