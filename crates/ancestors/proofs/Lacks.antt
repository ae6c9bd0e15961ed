-- The loop of `missing`: what it has gathered of the rows that were passed.
use mathlib.Core.Path.{◌≡◌}
use mathlib.Core.Logic.{◌≢◌, ⊎_elim}
use mathlib.Core.List.{List}
use Prim.Native.Nat.{ℕ, ◌^◌, ◌<◌}
use native.Mathlib.Omega.{arith}
use lib.Bits.{bit_or, bit_xor, and_le_l}
use Rattle.meaning.specs.Finite.{Yes}
use Rattle.rowbits.specs.Bit.{bit}
use Rattle.tables.specs.Tables.{row}
use Rattle.tables.specs.Rows.{Lowest, without}
use Rattle.tables.proofs.Bits.{or_case, or_l, or_r, none_in, in_row, without_in, without_out}
use Rattle.tables.proofs.Members.{Passed, passed_none, next_named, passed_more, passed_all}
use Rattle.ancestors.specs.Rows.{Missing}

-- what of the row is missing in row i has been gathered
abbrev pub Gathered : List ℕ → ℕ → ℕ → ℕ → Type 0
Gathered t of a i = (j : ℕ) → Yes (bit of j) → ¬ Yes (bit (row t i) j) → Yes (bit a j)

pub record Lacks (t : List ℕ) (rows of a rest : ℕ) : Type 0 where
  pub from : (j : ℕ) → Yes (bit a j) → Yes (bit of j) × ((i : ℕ) × Yes (bit rows i) × (¬ Yes (bit (row t i) j)))
  pub passed : Passed (Gathered t of a) rows rest

pub lacks_none : (t : List ℕ) (rows of : ℕ) → rows < 65536 → Lacks t rows of 0 rows
lacks_none t rows of small = record { from = λ j u. none_in j u; passed = passed_none _ rows small }

pub lacks_more : (t : List ℕ) (rows of a rest x : ℕ) → of < 65536 → Lacks t rows of a rest → rest ≢ 0 → Lowest rest x
    → Lacks t rows of (bit_or a (without of (row t x))) (without rest (2 ^ x))
lacks_more t rows of a rest x small w some low = record {
  from = λ j u. ⊎_elim (w.from j) (λ v. let q = without_out of (row t x) j (in_row _ j fits v) v in (q.0, (x, next_named _ rows rest x w.passed some low, q.1)))
      (or_case a (without of (row t x)) j u);
  passed = passed_more _ rows rest x w.passed some low _ (λ i p j u n. or_l a (without of (row t x)) j (p j u n))
      (λ j u n. or_r a (without of (row t x)) j (without_in of (row t x) j (in_row of j small u) u n));
}
  where
    fits : without of (row t x) < 65536
    fits = unfold without in (let l = and_le_l of (bit_xor (row t x) 65535) in omega arith)

pub lacks_all : (t : List ℕ) (rows of a rest : ℕ) → Lacks t rows of a rest → rest ≡ 0 → Missing t rows of a
lacks_all t rows of a rest w z = record { from = w.from; to = λ i j u v n. passed_all _ rows rest w.passed z i u j v n }
