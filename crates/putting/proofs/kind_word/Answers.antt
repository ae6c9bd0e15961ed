-- Kind by kind.
use Rattle.meaning.specs.Finite.{pick}
use Rattle.meaning.specs.Ascii.{ascii}
use Rattle.meaning.specs.Text.{kind_name}
use Rattle.putting.proofs.kind_word.Goals as goal

pub returns-in-Child : goal.returns-in-Child
unfolding ascii kind_name pick
returns-in-Child c = rw c.in-Child.is

pub returns-in-Below : goal.returns-in-Below
unfolding ascii kind_name pick
returns-in-Below c = rw c.in-Below.is

pub returns-in-StrictlyBelow : goal.returns-in-StrictlyBelow
unfolding ascii kind_name pick
returns-in-StrictlyBelow c = rw c.in-StrictlyBelow.is

pub returns-in-Same : goal.returns-in-Same
unfolding ascii kind_name pick
returns-in-Same c = rw c.in-Same.is

pub returns-in-Differ : goal.returns-in-Differ
unfolding ascii kind_name pick
returns-in-Differ c = rw c.in-Differ.is

pub returns-in-Root : goal.returns-in-Root
unfolding ascii kind_name pick
returns-in-Root c = rw c.in-Root.is

pub returns-in-Leaf : goal.returns-in-Leaf
unfolding ascii kind_name pick
returns-in-Leaf c = rw c.in-Leaf.is

pub returns-in-Label : goal.returns-in-Label
unfolding ascii kind_name pick
returns-in-Label c = rw c.in-Label.is

pub returns-in-Before : goal.returns-in-Before
unfolding ascii kind_name pick
returns-in-Before c = rw c.in-Before.is
