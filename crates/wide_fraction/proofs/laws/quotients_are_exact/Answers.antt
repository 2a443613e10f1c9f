use Rattle.wide_fraction.proofs.Quotients.{divided_stands_over, divided_stands_crossed, zero_stands}
use Rattle.wide_fraction.proofs.laws.quotients_are_exact.Goals as goal

pub returns : goal.returns
returns c = record { over_one = divided_stands_over; crossed = divided_stands_crossed; zero = zero_stands }
