-- What a plan says of the nodes.
use Rattle.std.specs.Prelude.{List, ℕ}
use Rattle.meaning.specs.Finite.{one, tab}
use Rattle.ordering.specs.Groups.{groups}
use Rattle.ordering.specs.Numbering.{numbered}
use Rattle.readoff.specs.Nodes.{Led, place_in, parent_in, group_record}
use Rattle.readoff.specs.declared.Plan.{Plan}

-- the node of the group at a place
abbrev pub number_for : Plan → ℕ → ℕ
number_for p = numbered (one p.front.element)

-- the order has the lowest of each group that is not root, and no other
abbrev pub LedFor : Plan → ℕ → Type 0
LedFor p root = Led p.ancestry.below p.ancestry.above root p.ancestry.n.count (groups p.order)

-- the node of a variable
abbrev pub node_for : Plan → ℕ → ℕ → ℕ
node_for p root = place_in p.ancestry.below p.ancestry.above root (one p.front.element) (groups p.order)

-- the nodes of the variables
abbrev pub nodes_for : Plan → ℕ → List ℕ
nodes_for p root = tab p.ancestry.n.count (node_for p root)

-- the parent of a group with this row of variables over it
abbrev pub parent_for : Plan → ℕ → ℕ
parent_for p = parent_in p.ancestry.below p.ancestry.above p.lows (one p.front.element) (groups p.order)

-- the record of the group at a place
abbrev pub record_for : Plan → List ℕ → ℕ → List ℕ
record_for p label =
    group_record p.ancestry.below p.ancestry.above label p.ancestry.n.count p.lows (one p.front.element)
    (groups p.order)
