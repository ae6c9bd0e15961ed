-- What the programs print of an answer, in ASCII (docs/FORMAT.md, "The programs"): a line with the verdict and, of a tree, a line for each record
-- of its answer file. `paths`, `toxml` and `fromxml` write the bytes that their answer has instead, for other programs to read.
use Rattle.std.specs.Prelude.{List, [], ◌∷◌, ◌++◌, ℕ, zero, suc, ◌+◌, ◌/◌, ◌%◌, eqb}
use Prim.Native.String.{String}
use Rattle.meaning.specs.Finite.{pick}
use Rattle.meaning.specs.Ascii.{ascii}
use Rattle.meaning.specs.Demand.{a_tree, a_none, a_spent}
use Rattle.meaning.specs.Marking.{met, unmet}
use Rattle.meaning.specs.Files.{Quad, quads}
use Rattle.meaning.specs.Results.{Solved, solver_refuses, solver_answers, Marked, marker_refuses, marker_answers, Fill, fill_refused, fill_written}

-- "Program `solve` reads up to 1,025 bytes of standard input, with allowance 1,000,000": one byte more than question 1 lets in, and than a text
-- of paths has; `paths` reads as many
abbrev pub bytes_read : ℕ
bytes_read = 1025

abbrev pub solve_allowance : ℕ
solve_allowance = 1000000

-- ---- numbers

-- what stands before the last digit, unless that is 0
unfoldable pub before_last : ℕ → (Unit {0} → List ℕ) → List ℕ
before_last zero digits = []
before_last (suc k) digits = digits tt

-- the digits of n, at most k of them
unfoldable pub digits_of : ℕ → ℕ → List ℕ
digits_of zero n = []
digits_of (suc k) n = before_last (n / 10) (λ _. digits_of k (n / 10)) ++ ((48 + n % 10) ∷ [])

-- n in decimal: no number has more digits than its successor counts
unfoldable pub decimal : ℕ → List ℕ
decimal n = digits_of (suc n) n

-- ---- lines

unfoldable pub numbered : String → ℕ → List ℕ
numbered word n = ascii word ++ (decimal n ++ ascii "\n")

-- "`node` number parent label; `var` variable node"
unfoldable pub record_line : Quad → List ℕ
record_line q =
    pick (eqb q.first 1)
    (ascii "node " ++ (decimal q.second ++ (ascii " " ++ (decimal q.third ++ numbered " " q.fourth))))
    (ascii "var " ++ (decimal q.second ++ numbered " " q.third))

unfoldable pub record_lines : List Quad → List ℕ
record_lines [] = []
record_lines (q ∷ qs) = record_line q ++ record_lines qs

unfoldable pub kind_name : ℕ → String
kind_name k =
    pick (eqb k 1) "child"
    (pick (eqb k 2) "below"
    (pick (eqb k 3) "strictly-below"
    (pick (eqb k 4) "same"
    (pick (eqb k 5) "differ"
    (pick (eqb k 6) "root"
    (pick (eqb k 7) "leaf"
    (pick (eqb k 8) "label" "before")))))))

-- ---- answers

-- "First line: verdict (tree, none, spent or refused), then the count, or the number if refused. Then the records"
unfoldable pub solved_text : Solved → List ℕ
solved_text (solver_answers (a_tree count bytes)) = numbered "tree " count ++ record_lines (quads bytes)
solved_text (solver_answers (a_none count)) = numbered "none " count
solved_text (solver_answers (a_spent count)) = numbered "spent " count
solved_text (solver_refuses question) = numbered "refused " question

unfoldable pub marked_text : Marked → List ℕ
marked_text (marker_answers met) = ascii "met\n"
marked_text (marker_answers (unmet position kind)) = ascii "unmet " ++ (decimal position ++ (ascii " " ++ (ascii (kind_name kind) ++ ascii "\n")))
marked_text (marker_refuses question) = numbered "refused " question

unfoldable pub fill_text : Fill → List ℕ
fill_text (fill_written records) = records
fill_text (fill_refused question) = numbered "refused " question
