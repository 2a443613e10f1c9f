use Rattle.std.proofs.Common.{refl, ◌∙◌}
use Rattle.begun_lines.proofs.TruthLaws.{through, either-first, either-second}
use Rattle.begun_lines.proofs.BegunOthers.{other_costs-begun}
use Rattle.begun_lines.proofs.other_text.begins_other_costs.Goals as goal

pub returns-then-begins_line : goal.returns-then-begins_line
returns-then-begins_line c =
    through (either-first c.begins_line.result c.begins_line.result (rw c.no_costs.ensures at c.begins_line.ensures) c.if-begins_line.true refl)
    (other_costs-begun c.args.text c.args.rest.now)

pub returns-else-begins_line : goal.returns-else-begins_line
returns-else-begins_line c =
    through (either-second c.begins_line.result c.begins_number.result c.begins_number.result
    (rw c.no_costs.ensures at c.begins_line.ensures)
    (rw (c.costs_front.ensures, c.from-greatest.ensures ∙ c.greatest_of_costs.ensures) at c.begins_number.ensures) c.if-begins_line.false refl)
    (other_costs-begun c.args.text c.args.rest.now)
