-- A text has no more cost lines than bytes.
use Rattle.std.proofs.Common.{ℕ, ◌-◌, ◌^◌, ◌<◌, List, length, arith, Option, Some, None}
use Rattle.design_problem.specs.declared.answer.CostLine.{CostLine}
use Rattle.sections_reader.specs.Texts.{SaysCosts}
use Rattle.sections_reader.proofs.SaidCosts.{said_fit}
use Rattle.evidence_commands.specs.Rewrites.{HasFewLines}

-- the cost lines of a text of so many bytes can be numbered
pub few_lines : (bytes : List ℕ) (costs : Option (List CostLine)) → SaysCosts bytes costs → length bytes < 2 ^ 32 - 1 → HasFewLines costs
few_lines bytes None said few = tt
few_lines bytes (Some costs) said few = let below = said_fit.1 bytes costs said in omega (arith, few, below)
