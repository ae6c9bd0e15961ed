-- `readoff::put` meets its contract.
use mathlib.Core.Path.{◌≡◌}
use Prim.Native.Nat.{◌+◌, ◌-◌, ◌*◌}
use native.Mathlib.Omega.{arith}
use borrow.Author.Rules.{rules}
use Rattle.readoff.proofs.Written.{put_four}
use Rattle.readoff.proofs.put.Goals as goal

pub returns : goal.returns
returns c =
    let v = c.args.number in
    let width : v * 4 + 4 - v * 4 ≡ 4 = omega arith in
    rw (c.copy_from_slice.ensures.after, width) (put_four v c.args.bytes c.args.answer.now (search rules) c.requires)
