-- What the readers of a path and of the steps of a line answer: the bytes left of the text, and a sheet of bytes that
-- follows the meaning's sheet of records.
use Rattle.std.specs.Prelude.{◌≡◌, Bool, true, false, List, ℕ, ◌+◌, ◌*◌, ◌<◌, length, Option, None, Some}
use Rattle.meaning.specs.Tree.{Var}
use Rattle.meaning.specs.Paths.{Step}
use Rattle.meaning.specs.PathRecords.{Sheet, path_sheet, steps_sheet, step_sheet, end_sheet}
use Rattle.theory.specs.PathReader.{path_at, steps_at, step_at, brackets_at}
use Rattle.theory.specs.Reader.{Got, nothing, got}
use Rattle.sheet.specs.Bytes.{Bytes, numbered_in, Follows, For}

-- r has the bytes behind what was got, and b follows its sheet; r is nothing where nothing was got
abbrev pub ReadTo : {A : Type 0} → (A → Sheet) → Got A → Option (List ℕ) → Bytes → Type 0
ReadTo f nothing r b = r ≡ None
ReadTo f (got a rest) r b = (r ≡ Some rest) × Follows (f a) b

-- from the bytes s and the sheet b to the bytes r and the sheet c, whatever sheet of records b follows, with fuel above
-- the code's measure
abbrev pub PathRead : List ℕ → ℕ → Bytes → Option (List ℕ) → Bytes → Type 0
PathRead s x b r c =
    (v : Sheet) (X : Var) (k : ℕ) → Follows v b → For v x X → 4 * length s + 3 < k
    → ReadTo (λ p. path_sheet p X v) (path_at k s) r c

abbrev pub StepsRead : List ℕ → ℕ → Bytes → Option (List ℕ) → Bytes → Type 0
StepsRead s x b r c =
    (v : Sheet) (X : Var) (k : ℕ) → Follows v b → For v x X → 4 * length s + 2 < k
    → ReadTo (λ ss. steps_sheet ss X v) (steps_at k s) r c

abbrev pub StepRead : List ℕ → ℕ → ℕ → Bytes → Option (List ℕ) → Bytes → Type 0
StepRead s x y b r c =
    (v : Sheet) (X Y : Var) (k : ℕ) → Follows v b → For v x X → For v y Y → 4 * length s + 1 < k
    → ReadTo (λ m. step_sheet m X Y v) (step_at k s) r c

-- after what has been read of a step
abbrev pub BracketsRead : List ℕ → ℕ → Bytes → Option (List ℕ) → Bytes → Type 0
BracketsRead s y b r c =
    (v : Sheet) (m : Step) (X Y : Var) (k : ℕ) → Follows (step_sheet m X Y v) b → For (step_sheet m X Y v) y Y
    → 4 * length s < k
    → ReadTo (λ q. step_sheet q X Y v) (brackets_at k m s) r c

-- the number of a line's step, and the sheet after it has been given away, by whether the line goes on
abbrev pub end_number : Bool → Bytes → ℕ
end_number true b = b.next
end_number false b = 0

abbrev pub end_numbered : Bool → Bytes → Bytes
end_numbered true b = numbered_in b
end_numbered false b = b

-- the steps of a line
abbrev pub EndRead : List ℕ → ℕ → Bytes → Option (List ℕ) → Bytes → Type 0
EndRead s x b r c =
    (v : Sheet) (X : Var) (k : ℕ) → Follows v b → For v x X → 4 * length s + 2 < k
    → ReadTo (λ ss. end_sheet ss X v) (steps_at k s) r c
