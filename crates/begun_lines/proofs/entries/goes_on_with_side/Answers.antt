use Rattle.std.proofs.Common.{◌≡◌, false, subst}
use Rattle.design_problem.specs.Text.{side_word}
use Rattle.begun_lines.specs.BegunLines.{Alone, IsWordStep, IsNumberInRange, values, rows_from, BoundWords}
use Rattle.begun_lines.proofs.BegunWords.{stops, goes}
use Rattle.begun_lines.proofs.entries.goes_on_with_side.Goals as goal

pub returns-in_default-number : goal.returns-in_default-number
returns-in_default-number c =
    goes (λ w. w ≡ side_word c.args.side) BoundWords c.args.line c.in-Some.at_value
    (subst (λ l. IsWordStep (λ w. w ≡ l) c.args.line c.in-Some.at_value) c.side_word.ensures c.in-Some.ensures)
    (λ x. x) false
    (stops (IsNumberInRange values) (Alone (IsNumberInRange (rows_from 0))) c.in-Some.at_value c.in_default-number.ensures (λ x. x))

pub returns : goal.returns
returns c =
    goes (λ w. w ≡ side_word c.args.side) BoundWords c.args.line c.in-Some.at_value
    (subst (λ l. IsWordStep (λ w. w ≡ l) c.args.line c.in-Some.at_value) c.side_word.ensures c.in-Some.ensures)
    (λ x. x) c.last_number.result
    (goes (IsNumberInRange values) (Alone (IsNumberInRange (rows_from 0))) c.in-Some.at_value c.in-Some-number.at_row
    c.in-Some-number.ensures (λ x. x) c.last_number.result c.last_number.ensures)
