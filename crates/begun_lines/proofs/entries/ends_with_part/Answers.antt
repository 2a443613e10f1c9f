use Rattle.whole_numbers.proofs.Divisors.{one-gcd}
use Rattle.begun_lines.specs.BegunLines.{Alone, IsNumberInRange, rows_from, multiplier_range}
use Rattle.begun_lines.proofs.BegunWords.{goes}
use Rattle.begun_lines.proofs.entries.ends_with_part.Goals as goal

pub number-requires-clause-coprime : goal.number-requires-clause-coprime
number-requires-clause-coprime c = one-gcd c.args.least

pub returns-in-Some : goal.returns-in-Some
returns-in-Some c =
    goes (IsNumberInRange (rows_from c.args.least)) (Alone (IsNumberInRange multiplier_range)) c.args.line c.in-Some.at_multiplier
    c.in-Some.ensures (λ x. x) c.last_number.result c.last_number.ensures
