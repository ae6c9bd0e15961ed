-- The computed reader gives each row's answer: one statement, by computing.
use mathlib.Core.Path.{◌≡◌, refl}
use mathlib.Core.List.{map}
use Rattle.meaning.specs.Tree.{is_capital}
use Rattle.meaning.specs.Finite.{pick, ◌and◌, ◌or◌}
use Rattle.meaning.specs.Ascii.{ascii}
use Rattle.meaning.specs.Paths.{is_small, is_letter, axis_text}
use Rattle.meaning.specs.PathRecords.{variables_of, records_of, file_bytes}
use Rattle.meaning.specs.Results.{Fill}
use Rattle.theory.specs.PathReader.{after_name, axis_at, test_by, test_at, move_at, path_at, lines_at, text_paths, paths_answer, answer_of, fuel}
use Rattle.theory.specs.Reader.{front}
use Rattle.theory.specs.PathTable.{Row, table}

abbrev pub computed : Row → Fill
computed row = answer_of (text_paths row.text)

abbrev pub stated : Row → Fill
stated row = row.answer

pub table_computed : map computed table ≡ map stated table
unfolding table ascii answer_of text_paths lines_at fuel path_at move_at test_at test_by axis_at after_name front axis_text is_letter is_small is_capital pick ◌and◌ ◌or◌ paths_answer variables_of records_of file_bytes
table_computed = refl
