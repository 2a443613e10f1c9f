use Rattle.std.proofs.Common.{Some, refl}
use Rattle.std.specs.Option.{option_copied}
use Rattle.begun_lines.proofs.TruthLaws.{through, either-first, either-second}
use Rattle.begun_lines.proofs.BegunPlaces.{section-begun, other-ends}
use Rattle.begun_lines.proofs.other_text.begins_other_section.Goals as goal

pub returns-then-begins_next_cost : goal.returns-then-begins_next_cost
returns-then-begins_next_cost c =
    through (either-first c.begins_next_cost.result c.begins_next_cost.result (c.begins_next_cost.ensures (Some c.args.text))
    c.if-begins_next_cost.true refl) (section-begun (Some c.args.text) c.args.rest.now (option_copied c.args.before))

pub returns-else-begins_next_cost : goal.returns-else-begins_next_cost
returns-else-begins_next_cost c =
    through (either-second c.begins_next_cost.result c.begins_sections_end.result c.begins_sections_end.result
    (c.begins_next_cost.ensures (Some c.args.text)) (through c.begins_sections_end.ensures (other-ends c.args.text c.args.rest.now))
    c.if-begins_next_cost.false refl) (section-begun (Some c.args.text) c.args.rest.now (option_copied c.args.before))
