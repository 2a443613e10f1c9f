-- How what blocks have grows by a block.
use Rattle.std.proofs.Common.{◌≡◌, ℕ, ◌+◌, List, ◌++◌, ap, add-one}
use Rattle.trial_maker.specs.TrialTexts.{over_blocks, number_after, next_number}

-- one more block adds what it has at the end
pub over_blocks-step : {X : Type 0} → (piece : ℕ → List X) → (n : ℕ) → over_blocks piece (n + 1) ≡ over_blocks piece n ++ piece n
over_blocks-step piece n = ap (over_blocks piece) (add-one n)

-- one more block takes the next number
pub number_after-step : (start n : ℕ) → number_after start (n + 1) ≡ next_number (number_after start n)
number_after-step start n = ap (number_after start) (add-one n)

pub ruleset block_steps = (over_blocks-step, number_after-step)
