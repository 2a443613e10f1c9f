use Rattle.std.proofs.Common.{◌≡◌, codes, false}
use Rattle.begun_lines.specs.BegunLines.{Then, Alone, IsNumberInRange, vars, values}
use Rattle.begun_lines.proofs.BegunWords.{stops, goes}
use Rattle.begun_lines.proofs.entries.becomes_split.Goals as goal

pub returns-in_default-number : goal.returns-in_default-number
returns-in_default-number c =
    goes (λ w. w ≡ codes "split") (Then (IsNumberInRange vars) (Alone (IsNumberInRange values))) c.args.line c.in-Some.at_var c.in-Some.ensures (λ x. x) false
    (stops (IsNumberInRange vars) (Alone (IsNumberInRange values)) c.in-Some.at_var c.in_default-number.ensures (λ x. x))

pub returns : goal.returns
returns c =
    goes (λ w. w ≡ codes "split") (Then (IsNumberInRange vars) (Alone (IsNumberInRange values))) c.args.line c.in-Some.at_var c.in-Some.ensures (λ x. x) c.last_number.result
    (goes (IsNumberInRange vars) (Alone (IsNumberInRange values)) c.in-Some.at_var c.in-Some-number.at_value c.in-Some-number.ensures
    (λ x. x) c.last_number.result c.last_number.ensures)
