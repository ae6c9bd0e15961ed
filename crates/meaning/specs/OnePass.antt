-- One pass (docs/FORMAT.md): questions 3 to 6 and n, record by record. Between two records only the number refused is kept, or else n so far.
use Rattle.std.specs.Prelude.{◌≡◌, List, [], ◌∷◌, ◌++◌, ℕ, ◌%◌, ◌≤◌, max, length, eqb, leb}
use Rattle.meaning.specs.Constraint.{named, vars}
use Rattle.meaning.specs.Finite.{pick}
use Rattle.meaning.specs.Files.{Quad, quads, Whole, JudgedRecord, bad, good, judge_quad, Judged, refused, accepted, judge}

-- all that is kept between two records
pub data NumberOrN : Type 0 where
  number_refused : ℕ → NumberOrN
  so_far : ℕ → NumberOrN

-- a file's number or n
unfoldable pub kept_of : Judged → NumberOrN
kept_of (refused q) = number_refused q
kept_of (accepted cs) = so_far (vars cs)

-- what a record's questions leave of it
unfoldable pub counting : ℕ → JudgedRecord → NumberOrN
counting n (bad q) = number_refused q
counting n (good c) = so_far (max n (named c))

-- one record more
unfoldable pub keep : NumberOrN → Quad → NumberOrN
keep (number_refused q) r = number_refused q
keep (so_far n) r = counting n (judge_quad r)

-- the later records, from what is kept: a left fold
unfoldable pub onwards : NumberOrN → List Quad → NumberOrN
onwards k [] = k
onwards k (r ∷ rs) = onwards (keep k r) rs

-- a file is split between two records, into those read and those to come
pub record FromHere (read coming : List ℕ) : Type 0 where
  -- what is kept of the records read is what a file of them alone would be given, its number or n
  pub kept : onwards (so_far 0) (quads read) ≡ kept_of (judge read)
  -- this and the later records give the file's
  pub gives : onwards (kept_of (judge read)) (quads coming) ≡ kept_of (judge (read ++ coming))
  -- and nothing else of the records read matters: any others of which the same is kept would do
  pub alone : (others : List ℕ) → Whole others → length (others ++ coming) ≤ 1024 → kept_of (judge others) ≡ kept_of (judge read)
      → kept_of (judge (others ++ coming)) ≡ kept_of (judge (read ++ coming))

pub record OnePass (file : List ℕ) : Type 0 where
  -- of any bytes: 1 and 2 are told by the length, all else by one pass
  pub is_pass : kept_of (judge file) ≡ pick (leb (length file) 1024) (pick (eqb (length file % 4) 0) (onwards (so_far 0) (quads file)) (number_refused 2)) (number_refused 1)
  -- "from any record on, these and the later records alone give the file's number or n", where 1 and 2 are passed
  pub from_any_record : length file ≤ 1024 → Whole file → {read coming : List ℕ} → file ≡ read ++ coming → Whole read → FromHere read coming
