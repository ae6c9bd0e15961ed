-- Verdict by verdict. An unmet one is a word, a position, and the name of a kind.
use Rattle.std.proofs.Common.{arith, sym, ap, length}
use Rattle.meaning.specs.Ascii.{ascii}
use Rattle.meaning.specs.Text.{marked_text}
use Rattle.marker.specs.Verdict.{marked_of}
use Rattle.lent.proofs.Stores.{put_same, put_then}
use Rattle.putting.proofs.Numbers.{position_digits}
use Rattle.putting.proofs.Lines.{name_short}
use Rattle.text.specs.Verdicts.{marker_text}
use Rattle.text.proofs.put_mark.Goals as goal

pub number-requires : goal.number-requires
number-requires c = omega (arith, position_digits c.in-Unmet.position (omega arith))

pub put-requires-in-Unmet-2 : goal.put-requires-in-Unmet-2
put-requires-in-Unmet-2 c = omega (arith, position_digits c.in-Unmet.position (omega arith))

pub put-requires-in-Unmet-3 : goal.put-requires-in-Unmet-3
put-requires-in-Unmet-3 c = omega (
  arith,
  position_digits c.in-Unmet.position (omega arith),
  name_short
      c.in-Unmet.kind,
  ap length c.kind_word.ensures,
)

pub put-requires-in-Unmet-4 : goal.put-requires-in-Unmet-4
put-requires-in-Unmet-4 c = omega (
  arith,
  position_digits c.in-Unmet.position (omega arith),
  name_short
      c.in-Unmet.kind,
  ap length c.kind_word.ensures,
)

pub returns-in-Met-clause-put : goal.returns-in-Met-clause-put
unfolding ascii marked_text marked_of
returns-in-Met-clause-put c = put_same (ap marker_text (sym c.in-Met.is)) c.put.ensures.put

pub returns-in-Unmet-clause-put : goal.returns-in-Unmet-clause-put
unfolding ascii marked_text marked_of
returns-in-Unmet-clause-put c =
    put_same (ap marker_text (sym c.in-Unmet.is))
    (put_then c.put-in-Unmet.ensures.put
    (put_then c.number.ensures.put
    (put_then c.put-in-Unmet-2.ensures.put (put_then (put_same c.kind_word.ensures c.put-in-Unmet-3.ensures.put)
    c.put-in-Unmet-4.ensures.put))))

pub returns-in-Refused-clause-put : goal.returns-in-Refused-clause-put
unfolding marked_text marked_of
returns-in-Refused-clause-put c = put_same (ap marker_text (sym c.in-Refused.is)) c.refused.ensures.put
