use Rattle.std.proofs.Common.{codes, refl, arith}
use Rattle.answer_lines.specs.Grammar.{AfterEnd, AtEnd}
use Rattle.begun_lines.proofs.TruthLaws.{through}
use Rattle.begun_lines.proofs.BegunPlaces.{wanted-begun}
use Rattle.begun_lines.proofs.places.begins_end.Goals as goal

pub returns : goal.returns
returns c = through c.begins_line.ensures (wanted-begun AtEnd AfterEnd c.args.rest.now (codes "end") (omega arith) (refl, refl) (λ l n is. is.0))
