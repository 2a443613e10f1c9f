use Rattle.whole_numbers.proofs.FractionLaws.{times_stands, divided_stands}
use Rattle.whole_numbers.proofs.Multiples.{plus_stands_over, minus_stands_over}
use Rattle.whole_numbers.proofs.steps_are_exact.Goals as goal

pub returns : goal.returns
returns c = record { sum = plus_stands_over; difference = minus_stands_over; product = times_stands; quotient = divided_stands }
