use Rattle.whole_numbers.proofs.Orders.{order_stands, sign_stands}
use Rattle.whole_numbers.proofs.order_is_exact.Goals as goal

pub returns : goal.returns
returns c = record { pair = order_stands; sign = sign_stands }
