-- nothing is noted of each variable
use Rattle.std.proofs.Common.{◌≡◌, ◌∙◌, replicate, rules}
use Rattle.cost_base.proofs.FillLaws.{filled_numbers}
use Rattle.present_costs.specs.declared.variables.Noted.TheVariants.{Nothing}
use Rattle.present_costs.proofs.variables.nothing_noted.Goals as goal

pub returns : goal.returns
returns c =
    let filled : c.in_ok-vec.field-0.items ≡ replicate c.args.count Nothing = search rules in
    filled ∙ filled_numbers Nothing c.args.count
