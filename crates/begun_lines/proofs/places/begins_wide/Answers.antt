use Rattle.std.proofs.Common.{zero, codes, refl, arith}
use Rattle.answer_lines.specs.Grammar.{AtEnd, AtTree}
use Rattle.evidence_text.specs.declared.TreePart.TheVariants.{Undecided}
use Rattle.begun_lines.proofs.TruthLaws.{through}
use Rattle.begun_lines.proofs.BegunPlaces.{wanted-begun}
use Rattle.begun_lines.proofs.places.begins_wide.Goals as goal

pub returns : goal.returns
returns c = through c.begins_line.ensures
    (wanted-begun (AtTree Undecided zero zero) AtEnd c.args.rest.now (codes "wide none") (omega arith) (refl, refl)
    (λ l n is. is.0))
