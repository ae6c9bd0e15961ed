-- What it is to write on a page.
use Rattle.std.specs.Prelude.{◌≡◌, List, ℕ, ◌+◌, ◌≤◌, length}
use Rattle.lent.specs.Putting.{Put}
use Rattle.putting.specs.declared.Page.{Page}

-- so many bytes are left
abbrev pub HasRoom : Page → ℕ → Type 0
HasRoom p n = p.at + n ≤ length p.out.now

-- two pages of one lent buffer
abbrev pub Same : Page → Page → Type 0
Same p q = q.out.ghost_name ≡ p.out.ghost_name

-- the text stands behind what was written, and every other byte is as it was
abbrev pub Puts : Page → List ℕ → Page → Type 0
Puts p text q = Put p.out.now p.at text q.at q.out.now
