use Rattle.std.proofs.Common.{codes, refl, arith}
use Rattle.answer_lines.specs.Grammar.{AtHead, AtInnerHead, AtOtherVerdict, AtVerdict}
use Rattle.answer_lines.specs.declared.other_text.OtherText.TheVariants.{Total}
use Rattle.begun_lines.proofs.TruthLaws.{through}
use Rattle.begun_lines.proofs.BegunPlaces.{wanted-begun}
use Rattle.begun_lines.proofs.places.begins_head.Goals as goal

pub returns-clause-own : goal.returns-clause-own
returns-clause-own c = through c.begins_line.ensures
    (wanted-begun AtHead AtVerdict c.args.rest.now (codes "ospfcost answer 1") (omega arith) (refl, refl)
    (λ l n is. is.0))

pub returns-clause-inner : goal.returns-clause-inner
returns-clause-inner c = through c.begins_line.ensures
    (wanted-begun AtInnerHead (AtOtherVerdict Total) c.args.rest.now (codes "ospfcost answer 1") (omega arith) (refl, refl)
    (λ l n is. is.0))
