-- `constraints::question` meets its contract: the questions in their order, by the room that the kind has for y.
use mathlib.Core.Path.{◌≡◌, sym}
use Prim.Native.Nat.{ℕ, ◌≤◌}
use mathlib.Core.Logic.{⊎_elim}
use native.Mathlib.Omega.{arith}
use Rattle.constraints.proofs.Passing.{asks_3, asks_4_of_x, asks_4_of_y, asks_5, asks_6}
use Rattle.constraints.proofs.question.Goals.{then-x-gt15-via-then-x-gt15, then-x-gt15-via-else-x-gt15+then-y-gt15}
use Rattle.constraints.proofs.question.Goals as goal

at_least : (m : ℕ) {v r : ℕ} → v ≡ r → m ≤ v → m ≤ r
at_least m e h = omega arith

pub returns-then-values-lt1 : goal.returns-then-values-lt1
returns-then-values-lt1 c = asks_3 _ _ _ _ (rw (sym c.room-values.ensures) c.if-values-lt1.true)

pub returns-then-x-gt15 : goal.returns-then-x-gt15
returns-then-x-gt15 c =
    let some = at_least 1 c.room-values.ensures c.if-values-lt1.false in
    elim c.then-x-gt15.branch [
      | then-x-gt15-via-then-x-gt15 w ↦ asks_4_of_x _ _ _ _ some w.if-x-gt15.true
      | then-x-gt15-via-else-x-gt15+then-y-gt15 w ↦
          asks_4_of_y _ _ _ _ some w.if-x-gt15.false (at_least 2 c.room-values.ensures w.if-y-gt15.true.0)
          w.if-y-gt15.true.1
    ]

pub returns-then-label-eq0 : goal.returns-then-label-eq0
returns-then-label-eq0 c =
    asks_5 _ _ _ _ (at_least 1 c.room-values.ensures c.if-values-lt1.false) c.if-x-gt15.false c.if-kind-eq8.true
    c.if-label-eq0.true

pub returns : goal.returns
returns c =
    asks_6 _ _ _ _ (at_least 1 c.room-values.ensures c.if-values-lt1.false) c.if-x-gt15.false c.requires
    (λ r. ⊎_elim (λ p. p.1) (λ q. absurd (omega (arith, c.room-values.ensures))) c.if-y-gt15.either)
    (λ r s. ⊎_elim (λ p. p.1) (λ q. absurd (q s)) c.else-kind-eq8.either)
