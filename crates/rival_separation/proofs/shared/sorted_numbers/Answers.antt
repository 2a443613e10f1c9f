use Rattle.std.proofs.Common.{◌<◌, arith}
use Rattle.std.proofs.lemmas.List.Sorted.{All-permutation, Contains-permutation}
use Rattle.rival_separation.proofs.AskerLemmas.{one_more}
use Rattle.rival_separation.proofs.shared.sorted_numbers.Goals as goal

pub loop-number-preserved : goal.loop-number-preserved
loop-number-preserved g c =
    let more = one_more c.loop-number.number c.args.count c.loop-number.order.items
    c.push.new.self.items c.loop-number.invariant.known c.loop-number.invariant.each c.loop-number-test.true
    c.in_ok-push.ensures.items in
    record { known = more.0; each = more.1 }

pub returns-clause-known : goal.returns-clause-known
returns-clause-known g c =
    All-permutation (λ k. k < c.args.count) c.loop-number.order.items
    c.sort_unstable_by_key.new.self.items c.sort_unstable_by_key.ensures.permutation c.loop-number.invariant.known

pub returns-clause-each : goal.returns-clause-each
returns-clause-each g c = λ k k_in.
    Contains-permutation c.loop-number.order.items c.sort_unstable_by_key.new.self.items k
    c.sort_unstable_by_key.ensures.permutation
    (c.loop-number.invariant.each k (let past = c.loop-number-test.false in omega arith))
