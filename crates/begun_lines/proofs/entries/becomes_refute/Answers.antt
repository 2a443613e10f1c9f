use Rattle.std.proofs.Common.{◌≡◌, codes, sym}
use Rattle.begun_lines.specs.BegunLines.{PartsWords}
use Rattle.answer_lines.proofs.EntryWords.{parts-some}
use Rattle.begun_lines.proofs.BegunWords.{stops, goes}
use Rattle.begun_lines.proofs.entries.becomes_refute.Goals as goal

pub returns-in-None : goal.returns-in-None
returns-in-None c = stops (λ w. w ≡ codes "refute") (PartsWords 0) c.args.line c.in-None.ensures (λ is. parts-some is.0 is.1 (sym is.3))

pub returns-in-Some : goal.returns-in-Some
returns-in-Some c =
    goes (λ w. w ≡ codes "refute") (PartsWords 0) c.args.line c.in-Some.at_parts c.in-Some.ensures
    (λ is. parts-some is.0 is.1 (sym is.3)) c.goes_on_with_parts.result c.goes_on_with_parts.ensures
