-- What a program reads is enough: the first 1,025 bytes of a constraint file or of a text of paths get the answer of the whole.
use mathlib.Core.Path.{◌≡◌, sym, ap, ◌∙◌}
use mathlib.Core.List.{List}
use Prim.Native.Nat.{ℕ, ◌≤◌, ◌<◌}
use native.Mathlib.Decide.{dec_le}
use native.Mathlib.Omega.{arith}
use lib.ListN.{length, take}
use lib.Seq.{length-take-le, take_all}
use lib.Dec.{leb}
use Rattle.meaning.specs.Finite.{pick}
use Rattle.meaning.specs.Paths.{Path}
use Rattle.meaning.specs.Files.{Judged, refused, judge}
use Rattle.meaning.specs.Results.{fill_refused}
use Rattle.meaning.specs.Text.{bytes_read}
use Rattle.meaning.proofs.Tests.{pick_no, is_le}
use Rattle.meaning.proofs.Records.{long_refused}
use Rattle.theory.specs.Programs.{solved_by, solver, marked_by, marker}
use Rattle.theory.specs.PathReader.{text_paths, answer_of, read_paths}
use Rattle.theory.specs.Reader.{Got, nothing}

-- what refuses every longer file needs no more
read_enough : {A : Type 0} (f : List ℕ → A) (none : A) → ((file : List ℕ) → 1024 < length file → f file ≡ none) → (file : List ℕ) → f (take bytes_read file) ≡ f file
read_enough {A} f none long file = by (dec_le (length file) 1025)
  where
    by : Dec (length file ≤ 1025) → f (take 1025 file) ≡ f file
    by (yes l) = ap f (take_all 1025 file l)
    by (no l) = let n = length-take-le 1025 file (omega arith) in long (take 1025 file) (omega arith) ∙ sym (long file (omega arith))

judge_read : (file : List ℕ) → judge (take bytes_read file) ≡ judge file
judge_read = read_enough judge (refused 1) long_refused

pub solver_read : (A : ℕ) (file buffer : List ℕ) → solver A (take bytes_read file) buffer ≡ solver A file buffer
unfolding solver
solver_read A file buffer = ap (λ (j : Judged). solved_by A j buffer) (judge_read file)

pub marker_read : (file answer : List ℕ) → marker (take bytes_read file) answer ≡ marker file answer
unfolding marker
marker_read file answer = ap (λ (j : Judged). marked_by j answer) (judge_read file)

no_text : (text : List ℕ) → 1024 < length text → text_paths text ≡ nothing
unfolding text_paths
no_text text l = pick_no _ _ (λ y. let m : length text ≤ 1024 = is_le y in omega arith)

pub paths_read : (text buffer : List ℕ) → read_paths (take bytes_read text) buffer ≡ read_paths text buffer
unfolding read_paths
paths_read text buffer = ap (λ (g : Got (List Path)). pick (leb 1024 (length buffer)) (answer_of g) (fill_refused 7)) (read_enough text_paths nothing no_text text)
