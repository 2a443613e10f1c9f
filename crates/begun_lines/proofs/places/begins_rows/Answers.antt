use Rattle.begun_lines.proofs.TruthLaws.{through}
use Rattle.begun_lines.proofs.BegunPlaces.{rows-begun}
use Rattle.begun_lines.proofs.places.begins_rows.Goals as goal

pub returns : goal.returns
returns c = through c.begins_number.ensures (rows-begun c.args.rest.now)
