-- `cudreth_xml_read` tells the number of the reader's answer.
use Rattle.capi.proofs.Translated.{reader_bytes, reads_xml}
use Rattle.capi.proofs.cudreth_xml_read.Goals as goal

pub filled-requires : goal.filled-requires
filled-requires c = reader_bytes _ _ _ c.read.ensures.answer_of

pub returns : goal.returns
returns c = let r = c.read.ensures in reads_xml _ _ _ r.answer_of _ r.wrote c.filled.ensures
