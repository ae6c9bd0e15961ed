-- The text of the forest that the links hold (proofs/Elements.antt): a leaf, or an element with elements inside it, and those after it.
use Rattle.std.proofs.Common.{ℕ, ◌<◌, ◌≡◌, arith}
use Rattle.xmlwriter.proofs.Elements.{none_written, small, inner_falls, after_falls, leaf_room, leaf_fits, leaf_written, whole_room, whole_fits, close_room, after_fits, whole_written}
use Rattle.xmlwriter.proofs.links.Links.+put_elements.Goals as goal

-- what falls from the element to another node falls below the measure
below : {a b t : ℕ} → a < b → b ≡ t → a < t
below h e = omega arith

pub returns-then-v-eq0 : goal.returns-then-v-eq0
returns-then-v-eq0 t c =
    none_written c.args.self.now c.args.v c.args.text.now c.args.at c.if-v-eq0.true (let r = c.requires.room in omega arith)

pub bounds-self-i : goal.bounds-self-i
bounds-self-i t c =
    small c.args.self.now c.args.v c.args.text.now c.args.at c.if-v-eq0.false c.requires.forest c.requires.linked

pub bounds-self-i-2 : goal.bounds-self-i-2
bounds-self-i-2 t c =
    small c.args.self.now c.args.v c.args.text.now c.args.at c.if-v-eq0.false c.requires.forest c.requires.linked

pub bounds-self-i-3 : goal.bounds-self-i-3
bounds-self-i-3 t c =
    small c.args.self.now c.args.v c.args.text.now c.args.at c.if-v-eq0.false c.requires.forest c.requires.linked

pub put-end-requires : goal.put-end-requires
put-end-requires t c =
    leaf_room c.args.self.now c.args.v c.args.text.now c.args.at c.if-v-eq0.false c.if-inner-eq0.true c.requires.forest
    c.requires.linked c.requires.room

pub put_elements-requires : goal.put_elements-requires
put_elements-requires t c = (
  below (after_falls c.args.self.now c.args.v c.args.text.now c.args.at c.if-v-eq0.false c.requires.forest
      c.requires.linked) c.decreases,
  leaf_fits c.args.self.now c.args.v c.args.text.now c.args.at c.if-v-eq0.false
      c.if-inner-eq0.true c.put-end.new.out c.put-end.result c.put-end.ensures c.requires.forest c.requires.linked c.requires.room,
)

pub returns-then-inner-eq0 : goal.returns-then-inner-eq0
returns-then-inner-eq0 t c =
    leaf_written c.args.self.now c.args.v c.args.text.now c.args.at c.if-v-eq0.false c.if-inner-eq0.true
    c.put-end.new.out c.put-end.result c.put-end.ensures c.put_elements.new.text c.put_elements.result c.put_elements.ensures

pub put-inside-requires : goal.put-inside-requires
put-inside-requires t c =
    whole_room c.args.self.now c.args.v c.args.text.now c.args.at c.if-v-eq0.false c.if-inner-eq0.false
    c.requires.forest c.requires.linked c.requires.room

pub put_elements-closing-requires : goal.put_elements-closing-requires
put_elements-closing-requires t c = (
  below (inner_falls c.args.self.now c.args.v c.args.text.now c.args.at c.if-v-eq0.false c.requires.forest
      c.requires.linked) c.decreases,
  whole_fits c.args.self.now c.args.v c.args.text.now c.args.at c.if-v-eq0.false
      c.if-inner-eq0.false c.put-inside.new.out c.put-inside.result c.put-inside.ensures c.requires.forest c.requires.linked
      c.requires.room,
)

pub put-end-requires-2 : goal.put-end-requires-2
put-end-requires-2 t c =
    close_room c.args.self.now c.args.v c.args.text.now c.args.at c.if-v-eq0.false c.if-inner-eq0.false
    c.put-inside.new.out c.put-inside.result c.put-inside.ensures c.put_elements-closing.new.text c.put_elements-closing.result
    c.put_elements-closing.ensures c.requires.forest c.requires.linked c.requires.room

pub put_elements-requires-2 : goal.put_elements-requires-2
put_elements-requires-2 t c = (
  below (after_falls c.args.self.now c.args.v c.args.text.now c.args.at c.if-v-eq0.false c.requires.forest
      c.requires.linked) c.decreases,
  after_fits c.args.self.now c.args.v c.args.text.now c.args.at c.if-v-eq0.false
      c.if-inner-eq0.false c.put-inside.new.out c.put-inside.result c.put-inside.ensures c.put_elements-closing.new.text
      c.put_elements-closing.result c.put_elements-closing.ensures c.put-end-2.new.out c.put-end-2.result c.put-end-2.ensures
      c.requires.forest c.requires.linked c.requires.room,
)

pub returns : goal.returns
returns t c =
    whole_written c.args.self.now c.args.v c.args.text.now c.args.at c.if-v-eq0.false c.if-inner-eq0.false
    c.put-inside.new.out c.put-inside.result c.put-inside.ensures c.put_elements-closing.new.text c.put_elements-closing.result
    c.put_elements-closing.ensures c.put-end-2.new.out c.put-end-2.result c.put-end-2.ensures c.put_elements-2.new.text
    c.put_elements-2.result c.put_elements-2.ensures
