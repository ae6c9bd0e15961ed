-- What is kept stands for the pieces read so far, and so it does with one piece more.
use Rattle.std.proofs.Common.{arith, ℕ, ◌+◌, ◌-◌, ◌≤◌, ◌++◌, length, take, drop, sym, length-append}
use Rattle.std.proofs.Math.Seq.{length-take-le}
use Rattle.answers.proofs.Pieces.{no_piece}
use Rattle.pieces.proofs.Turn.{one_turn}
use Rattle.pieces.proofs.read_pieces.Goals as goal

pub loop-init : goal.loop-init
loop-init g c = record { within = omega arith; stands = no_piece }

pub returns-then-more-room : goal.returns-then-more-room
returns-then-more-room g c =
    let l = c.loop in
    let after = drop (l.kept + c.in_ok-more.more) (take l.kept l.buffer ++
    (c.fill.new.buffer ++ drop (length l.buffer - l.kept) (drop l.kept l.buffer))) in
    let h : c.shorten-kept.result ≤ length (c.shorten-kept.new.answer ++ after) = omega (arith, c.shorten-kept.ensures.0, length-append c.shorten-kept.new.answer after) in (
      (h, sym (length-take-le _ _ h)),
      one_turn l.buffer c.fill.new.buffer _ _ _ l.kept _ _ l.invariant.within c.in_ok-more.ensures.0
          c.shorten-kept.ensures.0 c.shorten-kept.ensures.1 l.invariant.stands,
    )

pub loop-preserved : goal.loop-preserved
loop-preserved g c =
    let l = c.loop in
    record {
      within = omega (arith, c.shorten-kept.ensures.0, length-append {A = ℕ});
      stands = one_turn l.buffer c.fill.new.buffer _ _ _ l.kept _ _ l.invariant.within c.in_ok-more.ensures.0
          c.shorten-kept.ensures.0 c.shorten-kept.ensures.1 l.invariant.stands;
    }
