-- `with_claim` adds what a record claims.
use mathlib.Core.Path.{◌≡◌}
use Prim.Native.Nat.{ℕ, max, ◌+◌, ◌≤◌, ◌<◌}
use native.Mathlib.Omega.{arith}
use Rattle.centres.specs.Plain.{claim}
use Rattle.centres.proofs.Claims.{claim_in, claim_above}
use Rattle.centres.proofs.with_claim.Goals as goal

-- the larger is in the cap, or above it
adds_larger : (s g k d : ℕ) {m : ℕ} → m ≡ max g d → m ≤ k → s + m ≡ s + claim g k d
adds_larger s g k d e l = let c = claim_in g k d (omega (arith, e, l)) in omega (arith, e, c)

adds_most : (s g k d : ℕ) {m : ℕ} → m ≡ max g d → k < m → s + 4294967296 ≡ s + claim g k d
adds_most s g k d e h = let c = claim_above g k d (omega (arith, e, h)) in omega (arith, c)

pub returns-then-most-cap-clause-sum : goal.returns-then-most-cap-clause-sum
returns-then-most-cap-clause-sum c = adds_larger _ _ _ _ c.max-most.ensures c.if-most-cap.true

pub returns-else-most-cap-clause-sum : goal.returns-else-most-cap-clause-sum
returns-else-most-cap-clause-sum c = adds_most _ _ _ _ c.max-most.ensures c.if-most-cap.false
