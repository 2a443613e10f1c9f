use Rattle.std.proofs.lemmas.List.{get_or_default}
use Rattle.live_reader.proofs.walk.step_in.Goals as goal

pub returns : goal.returns
returns c = get_or_default c.args.steps.now c.args.number _ _ c.requires
