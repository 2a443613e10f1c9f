use Rattle.trial_maker.specs.TrialTexts.{file_names}
use Rattle.std.proofs.Common.{◌≡◌}
use Rattle.trial_maker.proofs.configs.file_names.Given as goal

abbrev pub invariant-loop-block : goal.invariant-loop-block
invariant-loop-block l = l.names.items ≡ file_names l.block
