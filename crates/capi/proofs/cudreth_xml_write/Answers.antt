-- `cudreth_xml_write` tells the number of the writer's answer.
use Rattle.capi.proofs.Translated.{writer_bytes, writes_xml}
use Rattle.capi.proofs.cudreth_xml_write.Goals as goal

pub filled-requires : goal.filled-requires
filled-requires c = writer_bytes _ _ _ c.write.ensures.answer_of

pub returns : goal.returns
returns c = let r = c.write.ensures in writes_xml _ _ _ r.answer_of _ r.wrote c.filled.ensures
