use Rattle.std.proofs.Common.{arith, refl}
use Rattle.wide_fraction.proofs.WidthLemmas.{shifted, shifted_below, top_view}
use Rattle.wide_fraction.proofs.limits.Top.new.Goals as goal

pub overflow_cast-result-else-bits-gt127 : goal.overflow_cast-result-else-bits-gt127
overflow_cast-result-else-bits-gt127 c =
    let value = shifted c.args.bits c.if-bits-gt127.false in
    let below = shifted_below c.args.bits c.if-bits-gt127.false in
    record { sfits = omega arith }

pub invariant_of-result : goal.invariant_of-result
invariant_of-result c =
    let e = top_view c.args.bits c.if-bits-gt127.false in
    rw e (refl, (c.args.bits, c.if-bits-lt28.false, c.if-bits-gt127.false, refl))

pub returns-else-bits-gt127 : goal.returns-else-bits-gt127
returns-else-bits-gt127 c =
    let e = top_view c.args.bits c.if-bits-gt127.false in
    (c.if-bits-lt28.false, c.if-bits-gt127.false, rw e refl)
