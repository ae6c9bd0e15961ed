-- How a host takes a result apart (include/cudreth.h), and what two results of cudreth_solve, of two files, have in common.
use Rattle.std.specs.Prelude.{◌≡◌, List, ◌++◌, ℕ, ◌≤◌, ◌/◌, ◌%◌, ◌^◌, length, drop}

-- 0 tree or met, 1 none or unmet, 2 spent, 3 refused
unfoldable pub verdict : ℕ → ℕ
verdict r = r / 2 ^ 48

-- the bytes written, or the kind of the first unmet record
unfoldable pub middle : ℕ → ℕ
middle r = r / 2 ^ 32 % 2 ^ 16

-- the count, or the position of the first unmet record
unfoldable pub low : ℕ → ℕ
low r = r % 2 ^ 32

-- the same 64 bits, and at the front of the two buffers the same bytes, as many as are told; all others stay
pub record ToldSame (buffer after lent later : List ℕ) (r s : ℕ) : Type 0 where
  pub number : s ≡ r
  pub front : List ℕ
  pub as_told : length front ≡ middle r
  pub wrote : after ≡ front ++ drop (length front) buffer
  pub other_wrote : later ≡ front ++ drop (length front) lent

-- this verdict, a count of at most c, and at the front of the buffer these bytes, as many as are told; all others stay
pub record ToldWithin (buffer after : List ℕ) (v c : ℕ) (bs : List ℕ) (r : ℕ) : Type 0 where
  pub verdict_is : verdict r ≡ v
  pub no_more : low r ≤ c
  pub as_told : middle r ≡ length bs
  pub wrote : after ≡ bs ++ drop (length bs) buffer
