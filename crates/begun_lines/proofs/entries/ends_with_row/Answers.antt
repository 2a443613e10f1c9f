use Rattle.std.proofs.Common.{◌≡◌, codes}
use Rattle.begun_lines.specs.BegunLines.{Alone, IsNumberInRange, rows_from}
use Rattle.begun_lines.proofs.BegunWords.{goes}
use Rattle.begun_lines.proofs.entries.ends_with_row.Goals as goal

pub returns-in-Some : goal.returns-in-Some
returns-in-Some c = goes (λ w. w ≡ codes "row") (Alone (IsNumberInRange (rows_from 0))) c.args.line c.in-Some.at_row
    c.in-Some.ensures (λ x. x) c.last_number.result c.last_number.ensures
