-- What the readers of a line and of the lines of a text answer: of a line the bytes left, of lines whether they are
-- read to the end of the text, and a sheet of bytes that follows the meaning's sheet of records.
use Rattle.std.specs.Prelude.{◌≡◌, List, ℕ, ◌+◌, ◌*◌, ◌<◌, length, Option, Result, Ok, Err}
use Rattle.meaning.specs.PathRecords.{Sheet, line_sheet, lines_sheet}
use Rattle.questions.specs.declared.Question.{Question}
use Rattle.questions.specs.Number.{numbered}
use Rattle.theory.specs.PathReader.{path_at, lines_at}
use Rattle.theory.specs.Reader.{Got, nothing, got}
use Rattle.sheet.specs.Bytes.{Bytes, Follows}
use Rattle.steps.specs.Reading.{ReadTo}

abbrev pub LineRead : List ℕ → Bytes → Option (List ℕ) → Bytes → Type 0
LineRead s b r c =
    (v : Sheet) (k : ℕ) → Follows v b → 4 * length s + 3 < k → ReadTo (λ p. line_sheet p v) (path_at k s) r c

-- read to the end, or refused by 13
abbrev pub AllRead : {A : Type 0} → (A → Sheet) → Got A → Result (Unit {0}) Question → Bytes → Type 0
AllRead f nothing r b = numbered r ≡ Err 13
AllRead f (got a rest) r b = (r ≡ Ok tt) × Follows (f a) b

abbrev pub LinesRead : List ℕ → ℕ → Bytes → Result (Unit {0}) Question → Bytes → Type 0
LinesRead s n b r c = (v : Sheet) → Follows v b → AllRead (λ ps. lines_sheet ps v) (lines_at n s) r c
