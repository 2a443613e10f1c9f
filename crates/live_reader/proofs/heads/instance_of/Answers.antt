use Rattle.std.proofs.Common.{rules}
use Rattle.live_reader.proofs.heads.instance_of.Goals as goal

pub returns : goal.returns
returns c = search rules
