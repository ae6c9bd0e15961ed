-- Lists of centres, draws from them, and what is answered, as one table, worked out by hand from docs/FORMAT.md ("Centres share the machine"). A row is
-- said of the promise of the meaning alone: its answer is promised, with the list that it leaves, and no other is.
use Rattle.std.specs.Prelude.{◌≡◌, List, [], ◌∷◌, ℕ, replicate}
use Rattle.meaning.specs.declared.Centre.{Centre}
use Rattle.meaning.specs.Centres.{Drawn, draw_granted, draw_refused, DrawPromise}

-- a draw by a centre from a list of centres under a total, what it is answered, and the list afterwards
pub record Row : Type 0 where
  pub total : ℕ
  pub list : List Centre
  pub by : ℕ
  pub amount : ℕ
  pub answer : Drawn
  pub after : List Centre

pub record Holds (row : Row) : Type 0 where
  pub promised : DrawPromise row.total row.list row.by row.amount row.answer row.after
  pub only : {r : Drawn} {after : List Centre} → DrawPromise row.total row.list row.by row.amount r after → (r ≡ row.answer) × (after ≡ row.after)

-- guarantee, cap, drawn
abbrev pub c : ℕ → ℕ → ℕ → Centre
c guarantee cap drawn = record { guarantee = guarantee; cap = cap; drawn = drawn }

abbrev pub grants : ℕ → List Centre → ℕ → ℕ → List Centre → Row
grants total list by amount after = record { total = total; list = list; by = by; amount = amount; answer = draw_granted; after = after }

abbrev pub refuses : ℕ → List Centre → ℕ → ℕ → ℕ → Row
refuses total list by amount q = record { total = total; list = list; by = by; amount = amount; answer = draw_refused q; after = list }

-- two centres, before and after the second has drawn all that remains
abbrev pub two : List Centre
two = c 4 6 0 ∷ c 3 8 0 ∷ []

abbrev pub taken : List Centre
taken = c 4 6 0 ∷ c 3 8 6 ∷ []

-- the first has drawn more than its guarantee
abbrev pub above : List Centre
above = c 2 9 5 ∷ c 3 5 1 ∷ []

-- the largest number of 32 bits
abbrev pub most : ℕ
most = 4294967295

unfoldable pub table : List Row
table =
    -- its guarantee, its cap, and one more than its cap
    grants 10 two 0 4 (c 4 6 4 ∷ c 3 8 0 ∷ [])
    ∷ grants 10 two 0 6 (c 4 6 6 ∷ c 3 8 0 ∷ [])
    ∷ refuses 10 two 0 7 19
    -- all that remains, one more, and more than its cap too
    ∷ grants 10 two 1 6 taken
    ∷ refuses 10 two 1 7 20
    ∷ refuses 10 two 1 9 19
    -- the first still gets its guarantee, and no more
    ∷ grants 10 taken 0 4 (c 4 6 4 ∷ c 3 8 6 ∷ [])
    ∷ refuses 10 taken 0 5 20
    -- what was drawn above a guarantee is gone, what was drawn of one is not held back twice
    ∷ grants 10 above 0 2 (c 2 9 7 ∷ c 3 5 1 ∷ [])
    ∷ refuses 10 above 0 3 20
    ∷ grants 10 above 1 4 (c 2 9 5 ∷ c 3 5 5 ∷ [])
    ∷ refuses 10 above 1 5 19
    -- a draw of nothing
    ∷ grants 10 taken 1 0 taken
    -- not sound: a guarantee above its cap, an amount above its cap, claims above the total; each asked of every record, whoever draws
    ∷ refuses 10 (c 5 4 0 ∷ []) 0 0 18
    ∷ refuses 10 (c 0 4 5 ∷ []) 0 0 18
    ∷ refuses 10 (c 4 6 0 ∷ c 3 8 7 ∷ []) 0 0 18
    ∷ grants 11 (c 4 6 0 ∷ c 3 8 7 ∷ []) 0 0 (c 4 6 0 ∷ c 3 8 7 ∷ [])
    ∷ refuses 10 (c 1 1 0 ∷ c 5 4 0 ∷ []) 0 1 18
    -- asked before 19 and 20
    ∷ refuses 10 (c 1 1 0 ∷ c 5 4 0 ∷ []) 0 20 18
    -- no such centre
    ∷ refuses 10 two 2 0 18
    ∷ refuses 10 [] 0 0 18
    ∷ refuses 10 two 4294967296 0 18
    -- eight records and nine
    ∷ grants 8 (c 1 1 1 ∷ replicate 7 (c 1 1 0)) 7 1 (c 1 1 1 ∷ c 1 1 0 ∷ c 1 1 0 ∷ c 1 1 0 ∷ c 1 1 0 ∷ c 1 1 0 ∷ c 1 1 0 ∷ c 1 1 1 ∷ [])
    ∷ refuses 9 (replicate 9 (c 1 1 0)) 0 1 18
    -- sums that 32 bits do not hold
    ∷ grants most (c most most 0 ∷ []) 0 most (c most most most ∷ [])
    ∷ refuses most (c 0 most 1 ∷ []) 0 most 19
    ∷ refuses most (c 2147483648 most 0 ∷ c 2147483648 most 0 ∷ []) 0 1 18
    ∷ refuses most (c 2147483647 most 0 ∷ c 2147483648 most 0 ∷ []) 0 2147483648 20
    ∷ []
