use Rattle.std.proofs.Common.{Some, codes, refl, arith}
use Rattle.answer_lines.specs.Grammar.{AtExit, AtSections}
use Rattle.begun_lines.proofs.TruthLaws.{through}
use Rattle.begun_lines.proofs.BegunPlaces.{wanted-begun}
use Rattle.begun_lines.proofs.places.begins_exit.Goals as goal

pub returns : goal.returns
returns c = λ text router. through c.begins_line.ensures
    (wanted-begun (AtExit text router) (AtSections text (Some router)) c.args.rest.now (codes "exit") (omega arith) (refl, refl)
    (λ l n is. is.0))
