use Rattle.trial_maker.specs.TrialTexts.{number_after, over_blocks, block_path, hops}
use Rattle.std.proofs.Common.{◌≡◌, ◌<◌, ◌^◌, ◌++◌, ℕ, List}
use Rattle.std.specs.Prelude.{codes}
use Rattle.trial_maker.proofs.request.request_text.Given as goal

-- the texts as far as the blocks were taken
pub record IsUnderway (start last block : ℕ) (lines path : List ℕ) : Type 0 where
  pub number : last ≡ number_after start block
  pub small : last < 2 ^ 31
  pub text : lines ≡ codes "ospfcost request 1\narea 0\nfree all 1 65535\n" ++ over_blocks (block_path start) block
  pub whole : path ≡ codes "path" ++ over_blocks (hops start) block

abbrev pub invariant-loop-block : goal.invariant-loop-block
invariant-loop-block l = IsUnderway l.start l.number l.block l.text.items l.whole
