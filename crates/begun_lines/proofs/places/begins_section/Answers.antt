use Rattle.std.proofs.Common.{None, refl}
use Rattle.std.specs.Option.{option_copied}
use Rattle.begun_lines.proofs.TruthLaws.{through, either-first, either-second}
use Rattle.begun_lines.proofs.BegunPlaces.{section-begun, floor-ends}
use Rattle.begun_lines.proofs.places.begins_section.Goals as goal

pub returns-then-begins_next_cost : goal.returns-then-begins_next_cost
returns-then-begins_next_cost c =
    through (either-first c.begins_next_cost.result c.begins_next_cost.result (c.begins_next_cost.ensures None)
    c.if-begins_next_cost.true refl) (section-begun None c.args.rest.now (option_copied c.args.before))

pub returns-else-begins_next_cost : goal.returns-else-begins_next_cost
returns-else-begins_next_cost c =
    through (either-second c.begins_next_cost.result c.begins_floor.result c.begins_floor.result
    (c.begins_next_cost.ensures None) (through c.begins_floor.ensures (floor-ends c.args.rest.now)) c.if-begins_next_cost.false refl)
    (section-begun None c.args.rest.now (option_copied c.args.before))
