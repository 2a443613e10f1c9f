use Rattle.trial_maker.specs.TrialTexts.{begins_block, block_configs, over_blocks}
use Rattle.std.proofs.Common.{◌≡◌, ◌∷◌}
use Rattle.trial_maker.proofs.configs.config_texts.Given as goal

abbrev pub invariant-loop-block : goal.invariant-loop-block
invariant-loop-block l = l.texts.items ≡ begins_block 0 ∷ over_blocks (block_configs l.blocks) l.block
