-- The node of each variable and the record of each group, read from the groups in their order.
use Rattle.std.specs.Prelude.{◌≡◌, ℕ, ◌<◌, eqb, take, get_or}
use mathlib.Core.List.{List, [], ◌∷◌, map, Memᴰ}
use Rattle.std.specs.Int.Bits.{bit_and}
use Rattle.meaning.specs.Finite.{Yes, pick, position}
use Rattle.meaning.specs.ReadOff.{NodeRecord, node_bytes}
use Rattle.rowbits.specs.Bit.{bit}
use Rattle.tables.specs.Tables.{row}
use Rattle.tables.specs.Rows.{Lowest}
use Rattle.ids.specs.declared.Node.{Node}
use Rattle.ordering.specs.Rows.{over_row, near}
use Rattle.ordering.specs.Numbering.{numbered}

-- of the group of each variable below n that is not root its lowest one is in a list, and no other
abbrev pub Led : (t u : List ℕ) (root n : ℕ) (gs : List ℕ) → Type 0
Led t u root n gs = (x k : ℕ) → x < n → ¬ Yes (bit root x) → Lowest (bit_and (row u x) (row t x)) k
    → Memᴰ k gs × ((g : ℕ) → Memᴰ g gs → bit (bit_and (row u x) (row t x)) g ≡ eqb g k)

-- the numbers of the first n nodes
unfoldable pub node_numbers : ℕ → List Node → List ℕ
node_numbers n vs = map (λ (v : Node). v.0) (take n vs)

-- the node of a variable, where gs are the groups in order; those that are root are on the document node
unfoldable pub place_in : (t u : List ℕ) (root element : ℕ) (gs : List ℕ) → ℕ → ℕ
place_in t u root element gs x = pick (bit root x) 0 (numbered element (position (bit (bit_and (row u x) (row t x))) gs))

-- the parent of a group with this row of variables over it
unfoldable pub parent_in : (t u : List ℕ) (lows element : ℕ) (gs : List ℕ) → ℕ → ℕ
parent_in t u lows element gs above = pick (eqb (bit_and above lows) 0) element (numbered element (position (near t u above) gs))

unfoldable pub node_in : (t u labels : List ℕ) (n lows element : ℕ) (gs : List ℕ) → ℕ → NodeRecord
node_in t u labels n lows element gs g = record { up = parent_in t u lows element gs (over_row n (row u g) (row t g)); label = row labels g }

-- the record of the group at a place
abbrev pub group_record : (t u labels : List ℕ) (n lows element : ℕ) (gs : List ℕ) → ℕ → List ℕ
group_record t u labels n lows element gs i = node_bytes (numbered element i) (node_in t u labels n lows element gs (get_or gs i 0) ∷ [])
