-- Capitals (docs/FORMAT.md): what solver and marker owe to files that are equal but for the case of their labels, and the path reader to texts that are
-- equal but for the case of their tests. One of two files or texts may be the other with its capitals made small (proofs/Capitals: made_small;
-- proofs/PathCapitals: small_form).
use Rattle.std.specs.Prelude.{◌≡◌, ◌↔◌, ℕ, ◌≤◌, length}
use mathlib.Core.List.{List, map, Memᴰ}
use Rattle.meaning.specs.Tree.{Node, folded, Tree}
use Rattle.meaning.specs.Files.{small_labels}
use Rattle.meaning.specs.Paths.{Path, OfForm}
use Rattle.meaning.specs.Selection.{Selects}
use Rattle.meaning.specs.PathRecords.{records_of, variables_of, file_bytes}
use Rattle.meaning.specs.Results.{Marked, Fill, fill_refused, fill_written}
use Rattle.meaning.specs.Promises.{MarkerPromise, PathsPromise, OneAnswer}

-- ---- files

abbrev pub EqualButForCase : List ℕ → List ℕ → Type 0
EqualButForCase file other = small_labels file ≡ small_labels other

-- of any bytes, also of files that are refused
pub record CaseAside (file other : List ℕ) : Type 0 where
  pub solved : OneAnswer file other
  -- with answer files that are equal but for case too
  pub marked : {answer drawn : List ℕ} {r s : Marked} → EqualButForCase answer drawn
      → MarkerPromise file answer r → MarkerPromise other drawn s → s ≡ r

-- ---- texts of paths

-- a text with its capitals made small; in a text of paths only tests have any
abbrev pub small_text : List ℕ → List ℕ
small_text = map folded

-- lines that differ in the case of their tests alone: as many variables, records that are equal but for case, and in every tree the same nodes
-- selected by every line
pub record LinesCaseAside (ps qs : List Path) : Type 0 where
  pub variables : variables_of ps ≡ variables_of qs
  pub records : EqualButForCase (file_bytes (records_of ps)) (file_bytes (records_of qs))
  pub selected : (t : Tree) (v : Node) → ((p : Path) → Memᴰ p ps → Selects t p v) ↔ ((q : Path) → Memᴰ q qs → Selects t q v)

-- the same refusal, or records that are equal but for case
abbrev pub ReadAlike : Fill → Fill → Type 0
ReadAlike (fill_refused q) s = s ≡ fill_refused q
ReadAlike (fill_written bs) s = (cs : List ℕ) × (s ≡ fill_written cs) × EqualButForCase bs cs

-- of texts of the form of paths; names of axes in capitals are not
pub record TextsCaseAside (text other : List ℕ) : Type 0 where
  pub lines : {ps qs : List Path} → OfForm text ps → OfForm other qs → LinesCaseAside ps qs
  -- question 7 passes both buffers
  pub read : {ps qs : List Path} {lent left buffer after : List ℕ} {r s : Fill} → OfForm text ps → OfForm other qs
      → 1024 ≤ length lent → 1024 ≤ length buffer → PathsPromise text lent r left → PathsPromise other buffer s after → ReadAlike r s
