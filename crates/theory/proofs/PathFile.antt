-- The bytes written for lines of at most 16 variables are a constraint file that questions 1 to 6 accept, and its constraints are the records:
-- they are at most 46, of variables below 16, with letters as labels.
use mathlib.Core.Path.{◌≡◌, refl, ap, ◌∙◌}
use mathlib.Core.List.{List, [], ◌∷◌, map, Memᴰ}
use Prim.Native.Nat.{◌*◌, ◌%◌, ◌≤◌}
use native.Mathlib.Nat.{le_trans, mul-mod_left}
use native.Mathlib.Omega.{arith}
use lib.ListN.{length}
use Rattle.meaning.specs.Tree.{Label}
use Rattle.meaning.specs.Finite.{Yes}
use Rattle.meaning.specs.Constraint.{Constraint, named}
use Rattle.meaning.specs.Files.{Quad, quads, quad_of, accepted, judge}
use Rattle.meaning.specs.Paths.{is_letter, Path}
use Rattle.meaning.specs.PathRecords.{blank_sheet, records_of, variables_of, record_bytes, file_bytes}
use Rattle.meaning.proofs.Constraints.{on_label_of}
use Rattle.meaning.proofs.Records.{Askable, file_accepted}
use Rattle.meaning.proofs.PathSheets.{letter_range, Lettered, blank_fine, lines_grown}
use Rattle.meaning.proofs.PathCounts.{records_few, records_most}

pub file_length : (cs : List Constraint) → length (file_bytes cs) ≡ length cs * 4
unfolding file_bytes record_bytes
file_length [] = refl
file_length (c ∷ cs) = let h = file_length cs in omega arith

file_quads : (cs : List Constraint) → quads (file_bytes cs) ≡ map quad_of cs
unfolding file_bytes record_bytes quads
file_quads [] = refl
file_quads (c ∷ cs) = ap (λ (qs : List Quad). quad_of c ∷ qs) (file_quads cs)

records_low : (ps : List Path) → variables_of ps ≤ 16 → (c : Constraint) → Memᴰ c (records_of ps) → named c ≤ 16
unfolding records_of variables_of
records_low ps h c m = le_trans ((lines_grown ps blank_sheet blank_fine).fine.low c m) h

records_lettered : (ps : List Path) (c : Constraint) → Memᴰ c (records_of ps) → Lettered c
unfolding records_of
records_lettered ps c m = (lines_grown ps blank_sheet blank_fine).fine.lettered c m

records_askable : (ps : List Path) → variables_of ps ≤ 16 → (c : Constraint) → Memᴰ c (records_of ps) → Askable c
records_askable ps h c m =
    record { few = records_low ps h c m; labelled = on_label_of c (λ (l : Label) (y : Yes (is_letter l)). let k = (letter_range l y).0 in omega arith) (records_lettered ps c m) }

-- questions 1 to 6 let the bytes in, with the records as constraints; their n is the number of variables (PathCounts: variables_are)
pub bytes_accepted : (ps : List Path) → length ps ≤ 8 → variables_of ps ≤ 16 → judge (file_bytes (records_of ps)) ≡ accepted (records_of ps)
bytes_accepted ps l h =
    let e = file_length (records_of ps) in
    let few = records_few ps in
    file_accepted (record {
      short = omega arith;
      whole = ap (λ k. k % 4) e ∙ mul-mod_left (length (records_of ps)) 4;
      of = record { records = file_quads (records_of ps); askable = records_askable ps h };
    })

-- at most 45 records
pub bytes_few : (ps : List Path) → 1 ≤ length ps → length ps ≤ 8 → variables_of ps ≤ 16 → length (file_bytes (records_of ps)) ≤ 180
bytes_few ps k l h = let e = file_length (records_of ps) in let m = records_most ps k in omega arith
