-- What solver, marker and path reader promise, of any bytes: demands 1 to 3 in two records, and questions set as paths in a third; and what it is for
-- two files to get one answer.
use Rattle.std.specs.Prelude.{◌≡◌, ◌↔◌, ℕ, ◌+◌, ◌≤◌, ◌<◌, length}
use mathlib.Core.List.{List, Memᴰ}
use Rattle.meaning.specs.Tree.{Node, Assignment, Tree, IsTree}
use Rattle.meaning.specs.Constraint.{Constraint, MeetsAll, CanBeMet, vars}
use Rattle.meaning.specs.ReadOff.{NodeRecord, tree_of}
use Rattle.meaning.specs.Demand.{Answer, a_tree, Demand3}
use Rattle.meaning.specs.Marking.{Mark, met, Marks}
use Rattle.meaning.specs.Files.{NoCapitals, refused, accepted, judge, refused_answer, accepted_answer, judge_answer, assigned}
use Rattle.meaning.specs.Results.{Solved, solver_refuses, solver_answers, Marked, marker_refuses, marker_answers, written, Fill, fill_refused, fill_written, fill_wrote}
use Rattle.meaning.specs.Paths.{Path, OfForm}
use Rattle.meaning.specs.Selection.{Selects, SomeTreeSelects}
use Rattle.meaning.specs.PathRecords.{records_of, variables_of, file_bytes}

-- a mark of an accepted tree and assignment: the first unmet constraint, or met exactly when all are met
pub record RightMark (n : ℕ) (cs : List Constraint) (vs : List NodeRecord) (ps : List Node) (m : Mark) : Type 0 where
  pub is_tree : IsTree (tree_of vs)
  pub marks : Marks (tree_of vs) (assigned ps) cs m
  pub only : {k : Mark} → Marks (tree_of vs) (assigned ps) cs k → k ≡ m
  pub met_iff : (m ≡ met) ↔ MeetsAll n (tree_of vs) (assigned ps) cs

-- an answer file that the marker accepts and says met of
pub record GoodFile (n : ℕ) (cs : List Constraint) (bs : List ℕ) : Type 0 where
  pub tree_nodes : List NodeRecord
  pub tree_places : List Node
  pub reads : judge_answer n bs ≡ accepted_answer tree_nodes tree_places
  pub few : length tree_nodes ≤ n + 2
  pub right : RightMark n cs tree_nodes tree_places met
  pub short : length bs ≤ 136
  -- "The solver's trees carry the small letter"
  pub small : NoCapitals bs

pub record Answered (A n : ℕ) (cs : List Constraint) (a : Answer) : Type 0 where
  pub demand_3 : Demand3 A n cs a
  pub good_file : {c : ℕ} {bs : List ℕ} → a ≡ a_tree c bs → GoodFile n cs bs

-- r is the answer to a constraint file and a lent buffer under the allowance A, and `after` is the buffer afterwards
pub record SolverPromise (A : ℕ) (file buffer : List ℕ) (r : Solved) (after : List ℕ) : Type 0 where
  -- refused by the first question that is answered no; question 7 comes last
  pub refuses : {q : ℕ} → judge file ≡ refused q → r ≡ solver_refuses q
  pub short_buffer : {cs : List Constraint} → judge file ≡ accepted cs → length buffer < 136 → r ≡ solver_refuses 7
  -- every other input is accepted and brought to an end
  pub answers : {cs : List Constraint} → judge file ≡ accepted cs → 136 ≤ length buffer → (a : Answer) × (r ≡ solver_answers a) × Answered A (vars cs) cs a
  -- every byte of the buffer
  pub wrote : after ≡ written r buffer
  pub same_length : length after ≡ length buffer

-- r is the marker's answer to a constraint file and an answer file
pub record MarkerPromise (file answer : List ℕ) (r : Marked) : Type 0 where
  pub refuses : {q : ℕ} → judge file ≡ refused q → r ≡ marker_refuses q
  pub refuses_answer : {cs : List Constraint} {q : ℕ} → judge file ≡ accepted cs → judge_answer (vars cs) answer ≡ refused_answer q → r ≡ marker_refuses q
  pub answers : {cs : List Constraint} {vs : List NodeRecord} {ps : List Node} → judge file ≡ accepted cs → judge_answer (vars cs) answer ≡ accepted_answer vs ps
      → (m : Mark) × (r ≡ marker_answers m) × RightMark (vars cs) cs vs ps m

-- question 7 passes both buffers, or neither
abbrev pub SameRoom : List ℕ → List ℕ → Type 0
SameRoom buffer lent = (136 ≤ length buffer) ↔ (136 ≤ length lent)

-- two files get one answer under one allowance: the same verdict and count, and the same bytes in whatever is lent for each, or the same refusal
pub record OneAnswer (file other : List ℕ) : Type 0 where
  pub answers : {A : ℕ} {buffer after lent later : List ℕ} {r s : Solved} → SameRoom buffer lent
      → SolverPromise A file buffer r after → SolverPromise A other lent s later → (s ≡ r) × (after ≡ written r buffer) × (later ≡ written r lent)

-- the records of some lines are a constraint file of at most 45 records, and "can be met if and only if some tree has a node selected by every
-- line"; of one tree, these nodes are those where variable 0 can stand
pub record RightRecords (ps : List Path) : Type 0 where
  pub accepts : judge (file_bytes (records_of ps)) ≡ accepted (records_of ps)
  pub short : length (file_bytes (records_of ps)) ≤ 180
  pub met_iff : CanBeMet (vars (records_of ps)) (records_of ps) ↔ SomeTreeSelects ps
  pub ends_iff : {t : Tree} → IsTree t → {v : Node} → v < t.size
      → ((p : Path) → Memᴰ p ps → Selects t p v) ↔ ((a : Assignment) × (a 0 ≡ v) × MeetsAll (vars (records_of ps)) t a (records_of ps))

-- r is the path reader's answer to a text and a lent buffer, and `after` is the buffer afterwards
pub record PathsPromise (text buffer : List ℕ) (r : Fill) (after : List ℕ) : Type 0 where
  -- 7, asked before 13
  pub short_buffer : length buffer < 1024 → r ≡ fill_refused 7
  -- 13: the text is not of this form
  pub no_form : 1024 ≤ length buffer → ((ps : List Path) → ¬ OfForm text ps) → r ≡ fill_refused 13
  -- 14: it needs more than 16 variables
  pub too_many : 1024 ≤ length buffer → {ps : List Path} → OfForm text ps → 16 < variables_of ps → r ≡ fill_refused 14
  -- every other text is read, as these paths and no others
  pub writes : 1024 ≤ length buffer → {ps : List Path} → OfForm text ps → variables_of ps ≤ 16 → (r ≡ fill_written (file_bytes (records_of ps))) × RightRecords ps
  pub only : {ps qs : List Path} → OfForm text ps → OfForm text qs → ps ≡ qs
  -- every byte of the buffer
  pub wrote : after ≡ fill_wrote r buffer
  pub same_length : length after ≡ length buffer
