-- `answers::check_nodes` meets its contract: each test is the next question.
use mathlib.Core.Path.{◌≡◌, sym, ◌∙◌}
use mathlib.Core.Logic.{⊎_elim}
use mathlib.Core.List.{List}
use Prim.Native.Nat.{ℕ}
use lib.ListN.{length, get_or, length-map}
use borrow.Author.Tests.{lt-leb, le-leb}
use Rattle.meaning.specs.Finite.{pick, ◌and◌}
use Rattle.meaning.specs.Files.{quad}
use Rattle.answers.specs.Judgement.{quads_of, nodes_checked}
use Rattle.answers.proofs.check_nodes.Goals as goal

long : (rs : List (List ℕ)) → length (quads_of rs) ≡ length rs
long rs = length-map rs (λ (r : List ℕ). quad (get_or r 0 0) (get_or r 1 0) (get_or r 2 0) (get_or r 3 0))

pub returns-then-count-lt2 : goal.returns-then-count-lt2
unfolding nodes_checked pick ◌and◌
returns-then-count-lt2 c = rw (long c.args.nodes.now)
    (⊎_elim (λ l. rw (lt-leb _ _ l)) (λ h. rw (le-leb _ _ h.0, lt-leb _ _ h.1)) c.then-count-lt2.either)

pub returns-then-not-nodes_fine : goal.returns-then-not-nodes_fine
unfolding nodes_checked pick ◌and◌
returns-then-not-nodes_fine c =
    rw (
      long c.args.nodes.now,
      le-leb _ _ c.if-count-lt2.false,
      le-leb _ _ c.if-count-gt64.false,
      sym
          c.nodes_fine.ensures ∙ c.if-not-nodes_fine.true,
    )

pub returns : goal.returns
unfolding nodes_checked pick ◌and◌
returns c =
    rw (
      long c.args.nodes.now,
      le-leb _ _ c.if-count-lt2.false,
      le-leb _ _ c.if-count-gt64.false,
      sym
          c.nodes_fine.ensures ∙ c.if-not-nodes_fine.false,
    )
