-- The present problem has no variable.
use Rattle.std.proofs.Common.{refl}
use Rattle.std.proofs.lemmas.Result.{IfOk-weaker}
use Rattle.input_files.proofs.problem.resolution_at_present.Goals as goal

pub returns-clause-present : goal.returns-clause-present
returns-clause-present c = IfOk-weaker c.resolution.result _ _ (λ p low. low refl) c.resolution.ensures.present
