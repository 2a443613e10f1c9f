use Rattle.begun_lines.proofs.TruthLaws.{through}
use Rattle.begun_lines.proofs.BegunPlaces.{interface-begun}
use Rattle.begun_lines.proofs.places.begins_interface.Goals as goal

pub returns : goal.returns
returns c = λ text router. through c.begins_name.ensures (interface-begun text c.args.rest.now router)
