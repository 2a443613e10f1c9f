use Rattle.std.proofs.Common.{rules}
use Rattle.cost_base.proofs.FillLaws.{all_made}
use Rattle.cost_base.proofs.filled.filled_by.Goals as goal

pub returns-clause-made : goal.returns-clause-made
returns-clause-made g c = all_made _ c.args.make _ _ (search rules) c.in_ok-resize_with.ensures.items
