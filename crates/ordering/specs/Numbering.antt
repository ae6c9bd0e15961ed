-- How the groups are numbered by their places in the order, and what is put in front of them.
use Rattle.std.specs.Prelude.{ℕ, suc, ◌+◌, eqb}
use Rattle.meaning.specs.Finite.{neg, one}

-- 1 if a blank element is put over the groups at the top: unless there is exactly one
unfoldable pub element_of : ℕ → ℕ
element_of tops = one (neg (eqb tops 1))

-- the node of the group at a place of the order, behind the document node and the blank element
unfoldable pub numbered : ℕ → ℕ → ℕ
numbered element i = suc element + i
