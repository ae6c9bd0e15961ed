-- The number of each question of docs/FORMAT.md, and an answer with the number in place of the question.
use Rattle.std.specs.Prelude.{ℕ, Result, Ok, Err}
use Rattle.questions.specs.declared.Question.{Question}
use Rattle.questions.specs.declared.Question.TheVariants.{FileLength, FileRecords, Kind, Variable, Label, Unused, Buffer, AnswerRecords, RecordOrder, NodeCount, Nodes, Places, PathsForm, PathsVariables, Nameable, XmlForm, XmlBuffer, Centres, Cap, Total}

abbrev pub number : Question → ℕ
number FileLength = 1
number FileRecords = 2
number Kind = 3
number Variable = 4
number Label = 5
number Unused = 6
number Buffer = 7
number AnswerRecords = 8
number RecordOrder = 9
number NodeCount = 10
number Nodes = 11
number Places = 12
number PathsForm = 13
number PathsVariables = 14
number Nameable = 15
number XmlForm = 16
number XmlBuffer = 17
number Centres = 18
number Cap = 19
number Total = 20

-- an answer, with the number of the question that refuses
abbrev pub numbered : {A : Type 0} → Result A Question → Result A ℕ
numbered (Ok a) = Ok a
numbered (Err q) = Err (number q)
