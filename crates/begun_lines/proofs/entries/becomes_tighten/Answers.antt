use Rattle.std.proofs.Common.{◌≡◌, codes, false}
use Rattle.begun_lines.specs.BegunLines.{Then, IsNumberInRange, IsSide, vars, BoundWords}
use Rattle.begun_lines.proofs.BegunWords.{stops, goes}
use Rattle.begun_lines.proofs.entries.becomes_tighten.Goals as goal

pub returns-in_default-number : goal.returns-in_default-number
returns-in_default-number c =
    goes (λ w. w ≡ codes "tighten") (Then (IsNumberInRange vars) (Then IsSide BoundWords)) c.args.line c.in-Some.at_var c.in-Some.ensures (λ x. x) false
    (stops (IsNumberInRange vars) (Then IsSide BoundWords) c.in-Some.at_var c.in_default-number.ensures (λ x. x))

pub returns : goal.returns
returns c =
    goes (λ w. w ≡ codes "tighten") (Then (IsNumberInRange vars) (Then IsSide BoundWords)) c.args.line c.in-Some.at_var
    c.in-Some.ensures (λ x. x) c.goes_on_with_sides.result
    (goes (IsNumberInRange vars) (Then IsSide BoundWords) c.in-Some.at_var c.in-Some-number.at_side c.in-Some-number.ensures
    (λ x. x) c.goes_on_with_sides.result c.goes_on_with_sides.ensures)
