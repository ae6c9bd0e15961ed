-- A draw, computed: a test for a sound list, and the questions in their order.
use Rattle.std.specs.Prelude.{Bool, true, List, [], ◌∷◌, ℕ, ◌+◌, leb, ltb, length}
use Rattle.meaning.specs.declared.Centre.{Centre}
use Rattle.meaning.specs.Finite.{pick, ◌and◌}
use Rattle.meaning.specs.Centres.{centre_at, claimed, others, undrawn, drawn_by_all, Drawn, draw_granted, draw_refused}

-- no guarantee and no amount above its cap
unfoldable pub capped : List Centre → Bool
capped [] = true
capped (c ∷ cs) = (leb c.guarantee c.cap and leb c.drawn c.cap) and capped cs

unfoldable pub is_sound : ℕ → List Centre → Bool
is_sound total cs = leb (length cs) 8 and (capped cs and leb (claimed cs) total)

-- the answer where 18 says yes
unfoldable pub drawing_from : ℕ → List Centre → ℕ → ℕ → Drawn
drawing_from total cs i amount =
    pick (leb ((centre_at cs i).drawn + amount) (centre_at cs i).cap)
    (pick (leb (drawn_by_all cs + undrawn (others cs i) + amount) total) draw_granted (draw_refused 20)) (draw_refused 19)

unfoldable pub drawing : ℕ → List Centre → ℕ → ℕ → Drawn
drawing total cs i amount = pick (is_sound total cs and ltb i (length cs)) (drawing_from total cs i amount) (draw_refused 18)
