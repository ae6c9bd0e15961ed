-- What the functions on plain numbers compute.
use Rattle.std.specs.Prelude.{ℕ, max, ◌+◌, ◌-◌, ◌^◌, leb}
use Rattle.meaning.specs.Finite.{pick}

-- what a record adds to the claims: the larger of guarantee and drawn, or, where that is above the cap, more than any total
unfoldable pub claim : ℕ → ℕ → ℕ → ℕ
claim guarantee cap drawn = pick (leb (max guarantee drawn) cap) (max guarantee drawn) (2 ^ 32)

-- the number of the question that says no, or 0, from the claims of all records and the centre's own record
unfoldable pub question_of : ℕ → ℕ → ℕ → ℕ → ℕ → ℕ → ℕ
question_of claims total guarantee cap drawn amount =
    pick (leb claims total)
    (pick (leb (drawn + amount) cap) (pick (leb (claims + amount) (total + (guarantee - drawn))) 0 20) 19) 18
