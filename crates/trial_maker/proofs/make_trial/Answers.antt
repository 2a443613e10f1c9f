use Rattle.std.proofs.Common.{rules}
use Rattle.trial_maker.proofs.make_trial.Goals as goal

pub returns : goal.returns
returns c = search rules
