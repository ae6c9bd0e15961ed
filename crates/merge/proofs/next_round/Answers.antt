-- `merge::next_round` meets its contract: a group is made, what has siblings passes on what it has, before is tested against below, and what
-- has to become the same next is left (proofs/Rounds.antt).
use Prim.Native.Nat.{ℕ}
use lib.ListN.{get_or}
use mir.Val.{Fits}
use mir.Syntax.{w16}
use borrow.Author.Rules.{rules}
use Rattle.merge.proofs.Rounds.{round_blank, round_crossed, round_passed}
use Rattle.merge.proofs.next_round.Goals as goal

pub returns-then-blank : goal.returns-then-blank
returns-then-blank c =
    let group : Fits w16 c.in_ok-r.r.group = search rules in
    let after_small = λ (i : ℕ). let h : Fits w16 (get_or c.args.f.after i 0) = search rules in h.fits in
    round_blank _ _ _ c.in_ok-r.ensures group.fits after_small _ c.blank.ensures c.if-blank.true _ c.next_set.ensures

pub returns-then-crossed : goal.returns-then-crossed
returns-then-crossed c =
    round_crossed _ _ _ c.in_ok-r.ensures _ c.pass_on-g.ensures _ c.crossed.ensures c.if-crossed.true

pub returns : goal.returns
returns c =
    round_passed _ _ _ c.in_ok-r.ensures _ c.pass_on-g.ensures _ c.crossed.ensures c.if-crossed.false _ c.next_set-2.ensures
