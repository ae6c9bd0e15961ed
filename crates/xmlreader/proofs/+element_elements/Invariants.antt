-- Both go forward in the text: `elements` asks `element` of the bytes left and then of those behind each element, and `element` asks `elements` of
-- fewer. What is read of the bytes left in the round is read of all.
use Rattle.std.proofs.Common.{List, ℕ, ◌+◌, ◌*◌, ◌≤◌, length, Bor, Result}
use Rattle.questions.specs.declared.Question.{Question}
use Rattle.xmlreader.specs.declared.gathered.Gathered.{Gathered}
use Rattle.xmlreader.specs.Reading.{ElementsRead}
use Rattle.xmlreader.proofs.+element_elements.Given as goal

abbrev pub decreases-element : goal.decreases-element
decreases-element l = 2 * length l.text.now

abbrev pub decreases-elements : goal.decreases-elements
decreases-elements l = 2 * length l.text.now + 1

abbrev pub invariant-elements-loop-after : goal.invariant-elements-loop-after
invariant-elements-loop-after l =
    (length l.left ≤ length l.text)
    × ((r : Result (Bor (List ℕ)) Question) (k : Gathered) → ElementsRead l.left l.up l.nodes r k → ElementsRead l.text l.up l.fn.nodes r k)

abbrev pub decreases-elements-loop-after : goal.decreases-elements-loop-after
decreases-elements-loop-after l = length l.left
