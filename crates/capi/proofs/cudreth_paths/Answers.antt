-- `cudreth_paths` tells the number of the path reader's answer.
use Rattle.capi.proofs.Translated.{paths_bytes, translates}
use Rattle.capi.proofs.cudreth_paths.Goals as goal

pub filled-requires : goal.filled-requires
filled-requires c = paths_bytes _ _ _ c.read.ensures.answer_of

pub returns : goal.returns
returns c = let r = c.read.ensures in translates _ _ _ r.answer_of _ r.wrote c.filled.ensures
