use mathlib.Core.Path.{refl, ap}
use mathlib.Core.List.{[], ◌∷◌}
use Prim.Native.Nat.{ℕ, ◌+◌}
use native.Mathlib.Omega.{arith}
use borrow.Author.Rules.{rules}
use Rattle.meaning.specs.ReadOff.{place_bytes}
use Rattle.readoff.proofs.Written.{recorded_more, recorded_all, number_at}
use Rattle.readoff.proofs.put_places.Goals as goal

pub loop-x-preserved : goal.loop-x-preserved
unfolding place_bytes
loop-x-preserved c =
    let x = c.loop-x.x in
    let same = number_at c.args.n.count c.args.nodes x c.loop-x-test.true in
    recorded_more _ _ (λ j k m. omega arith) x (c.args.first + x) _ c.args.answer.now c.loop-x.answer _ refl
    (ap (λ (v : ℕ). 2 ∷ x ∷ v ∷ 0 ∷ []) same) c.loop-x.invariant c.put_place.ensures

pub returns : goal.returns
returns c = recorded_all _ _ _ _ _ _ (search rules) c.loop-x.invariant
