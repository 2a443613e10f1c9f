-- At most one pair is left at the place.
use Rattle.fraction_lines.proofs.HalvedPlaces.{half_ends}
use Rattle.fraction_lines.proofs.entries.place_of.Goals as goal

pub returns : goal.returns
returns c = half_ends c.args.entries.now c.args.column c.halved-place.result.0 c.halved-place.result.1.now
    c.halved-place.ensures.half c.halved-place.ensures.few
