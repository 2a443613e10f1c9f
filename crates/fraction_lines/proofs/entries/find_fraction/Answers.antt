-- What is left has the column's fraction, at its head.
use Rattle.std.proofs.Common.{◌∙◌, sym}
use Rattle.fraction_lines.proofs.Columns.{single_at}
use Rattle.fraction_lines.proofs.HalvedPlaces.{half_has}
use Rattle.fraction_lines.proofs.entries.find_fraction.Goals as goal

pub returns : goal.returns
returns c =
    c.take_at.ensures.fraction
    ∙ sym (half_has c.args.entries.now c.args.column c.halved.result.0 c.halved.result.1.now c.halved.ensures.half
    ∙ single_at c.halved.result.1.now c.args.column c.halved.ensures.few)
