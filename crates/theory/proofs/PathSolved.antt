-- Path reader and solver together: where each keeps its promise, 'none' means that no tree has a node selected by every line, neither one of
-- docs/FORMAT.md nor one of source 004, and 'tree' that some tree has. The records written are a constraint file, which can be met exactly then.
use mathlib.Core.Path.{◌≡◌, sym, subst}
use mathlib.Core.List.{List}
use Prim.Native.Nat.{ℕ, ◌≤◌}
use native.Mathlib.Decide.{dec_le}
use native.Mathlib.Omega.{arith}
use lib.ListN.{length}
use Rattle.meaning.specs.Demand.{a_tree, a_none}
use Rattle.meaning.specs.Paths.{Path, OfForm}
use Rattle.meaning.specs.Selection.{SomeTreeSelects, SomeAnyTreeSelects}
use Rattle.meaning.specs.PathRecords.{records_of, variables_of, file_bytes}
use Rattle.meaning.specs.Results.{Solved, solver_answers, fill_written}
use Rattle.meaning.specs.Promises.{SolverPromise, PathsPromise}
use Rattle.meaning.proofs.Said.{said_none, said_tree}
use Rattle.theory.proofs.PathAnyTree.{selected_iff_any_selected}
use Rattle.theory.proofs.PathPromise.{right_records}

module _ {A : ℕ} {buffer after : List ℕ} {r : Solved} {text : List ℕ} {ps : List Path} (form : OfForm text ps) (few : variables_of ps ≤ 16)
    (solved : SolverPromise A (file_bytes (records_of ps)) buffer r after) where
  pub solved_none : {c : ℕ} → r ≡ solver_answers (a_none c) → ¬ SomeTreeSelects ps
  solved_none {c} q h = let right = right_records form few in said_none solved right.accepts (c, q) (right.met_iff.1 h)

  pub solved_none_any : {c : ℕ} → r ≡ solver_answers (a_none c) → ¬ SomeAnyTreeSelects ps
  solved_none_any q h = solved_none q ((selected_iff_any_selected ps).1 h)

  pub solved_tree : {c : ℕ} {bs : List ℕ} → r ≡ solver_answers (a_tree c bs) → SomeTreeSelects ps
  solved_tree q = let right = right_records form few in right.met_iff.0 (said_tree solved right.accepts q)

-- ---- from the text

-- what the path reader writes for a text of these paths
written_records : {text lent left file : List ℕ} {ps : List Path} → PathsPromise text lent (fill_written file) left → OfForm text ps
    → (variables_of ps ≤ 16) × (file_bytes (records_of ps) ≡ file)
written_records {text} {lent} {left} {file} {ps} read form = go (dec_le 1024 (length lent)) (dec_le (variables_of ps) 16)
  where
    go : Dec (1024 ≤ length lent) → Dec (variables_of ps ≤ 16) → (variables_of ps ≤ 16) × (file_bytes (records_of ps) ≡ file)
    go (no short) few = absurd (let e = read.short_buffer (omega arith) in let z : ◌≡◌ {A = ℕ} 0 1 = cc in omega arith)
    go (yes room) (no many) = absurd (let e = read.too_many room form (omega arith) in let z : ◌≡◌ {A = ℕ} 0 1 = cc in omega arith)
    go (yes room) (yes few) = (few, let e = (read.writes room form few).0 in cc)

module _ {A : ℕ} {text lent left file buffer after : List ℕ} {r : Solved} {ps : List Path} (form : OfForm text ps) (read : PathsPromise text lent (fill_written file) left)
    (solved : SolverPromise A file buffer r after) where
  solved_records : SolverPromise A (file_bytes (records_of ps)) buffer r after
  solved_records = subst (λ (bs : List ℕ). SolverPromise A bs buffer r after) (sym (written_records read form).1) solved

  pub paths_none : {c : ℕ} → r ≡ solver_answers (a_none c) → ¬ SomeAnyTreeSelects ps
  paths_none q = solved_none_any form (written_records read form).0 solved_records q

  pub paths_tree : {c : ℕ} {bs : List ℕ} → r ≡ solver_answers (a_tree c bs) → SomeTreeSelects ps
  paths_tree q = solved_tree form (written_records read form).0 solved_records q
