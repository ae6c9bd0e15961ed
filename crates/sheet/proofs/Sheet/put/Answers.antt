use Rattle.std.proofs.Common.{ap, ◌∙◌, refl, arith, ◌≡◌, ℕ, suc, ◌+◌, [], ◌∷◌}
use lib.Seq.{sets}
use Rattle.sheet.specs.Bytes.{plain}
use Rattle.sheet.proofs.Small.{put_more, put_full}
use Rattle.sheet.proofs.Sheet.put.Goals as goal

pub returns-then-at-le-ROOM : goal.returns-then-at-le-ROOM
returns-then-at-le-ROOM c =
    let a = c.args in
    let b = a.self.now in
    let n = b.length in
    let second : n + 1 ≡ suc n = omega arith in
    let third : n + 2 ≡ suc (suc n) = omega arith in
    let fourth : n + 3 ≡ suc (suc (suc n)) = omega arith in
    let kinds = ap (λ (k : ℕ). sets b.records n (k ∷ a.x ∷ a.y ∷ a.label ∷ [])) c.number.ensures in
    put_more (plain b) a.kind a.x a.y a.label _ _ (rw (second, third, fourth) kinds) refl c.if-at-le-ROOM.true

pub returns-else-at-le-ROOM : goal.returns-else-at-le-ROOM
returns-else-at-le-ROOM c =
    let a = c.args in put_full (plain a.self.now) a.kind a.x a.y a.label c.if-at-le-ROOM.false
