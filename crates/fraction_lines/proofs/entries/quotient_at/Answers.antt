-- A quotient that is too wide is named as it was handed in.
use Rattle.cost_base.specs.declared.StepName.TheVariants.{Div}
use Rattle.fraction_lines.proofs.NamedSteps.{named_passes}
use Rattle.fraction_lines.proofs.entries.quotient_at.Goals as goal

pub returns-clause-passes : goal.returns-clause-passes
returns-clause-passes c =
    named_passes c.div.result c.args.top Div c.args.value c.args.divisor c.div.ensures.wide
