-- A step of the sum is a step of the line.
use Rattle.std.proofs.Common.{refl}
use Rattle.whole_numbers.specs.Fractions.{Fraction}
use Rattle.fraction_table.proofs.RowFills.{step_at}
use Rattle.fraction_table.proofs.add_row.sum_of_form.Goals as goal

pub returns-clause-wide : goal.returns-clause-wide
returns-clause-wide c =
    step_at {X = Fraction} c.sum_at.result c.args.top c.args.costs.now c.args.form.now c.args.lines.now c.args.place
    c.start_at-start.result c.args.form.now.coefficients c.requires.place
    c.start_at-start.ensures.start refl c.sum_at.ensures.step c.sum_at.ensures.passes
