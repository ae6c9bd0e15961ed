use Rattle.std.proofs.Common.{refl}
use Rattle.sheet.specs.Bytes.{blank_in}
use Rattle.sheet.proofs.Sheet.new.Goals as goal

pub returns : goal.returns
unfolding blank_in
returns c = refl
