-- A line for each record: those of the records passed are put, and the others follow.
use Rattle.std.proofs.Common.{arith, ap, ◌∙◌, ◌+◌, ◌*◌, ◌/◌, ◌<◌, length, get_or}
use Rattle.meaning.specs.Text.{record_line}
use Rattle.lent.proofs.Stores.{put_same, put_then}
use Rattle.putting.proofs.Lines.{record_short, chunk_quad, lines_more, lines_all}
use Rattle.putting.proofs.Page.records.Goals as goal

pub record-requires : goal.record-requires
record-requires c =
    let l = c.loop-kind.invariant in
    omega (arith, l.short, l.lines.1.same_length, c.as_chunks.ensures.front_len)

pub loop-kind-preserved : goal.loop-kind-preserved
loop-kind-preserved c =
    let l = c.loop-kind in
    let bytes = c.args.answer.now in
    let byte = c.type_inv.answer in
    let more : l.kind-index < length bytes / 4 = omega (arith, c.as_chunks.ensures.front_len) in
    let at : l.kind-index * 4 + 3 < length bytes = omega arith in
    let p = put_same (ap record_line (chunk_quad bytes _ c.as_chunks.ensures.front l.kind-index more))
    c.record.ensures.put in
    let short =
    record_short (get_or bytes (l.kind-index * 4) 0) (get_or bytes (l.kind-index * 4 + 1) 0)
    (get_or bytes (l.kind-index * 4 + 2) 0) (get_or bytes (l.kind-index * 4 + 3) 0)
    (omega (arith, byte (l.kind-index * 4 + 1))) (omega (arith, byte (l.kind-index * 4 + 2)))
    (omega (arith, byte (l.kind-index * 4 + 3))) in
    record {
      same = c.record.ensures.same ∙ l.invariant.same;
      short = omega (arith, p.end, short, l.invariant.short);
      lines = (
        _,
        put_then l.invariant.lines.1 p,
        lines_more bytes l.invariant.lines.0 l.kind-index more
            l.invariant.lines.2,
      );
    }

pub returns-clause-put : goal.returns-clause-put
returns-clause-put c =
    let l = c.loop-kind in
    put_same (lines_all c.args.answer.now _ l.kind-index (omega (arith, c.as_chunks.ensures.front_len))
    l.invariant.lines.2) l.invariant.lines.1
