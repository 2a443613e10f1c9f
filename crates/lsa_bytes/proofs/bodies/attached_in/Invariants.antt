use Rattle.std.proofs.Common.{◌≡◌, ◌+◌, ◌*◌, map}
use Rattle.cost_base.specs.Lists.{numbers_from}
use Rattle.lsa_bytes.specs.Fields.{number_32}
use Rattle.lsa_bytes.proofs.bodies.attached_in.Given as goal

abbrev pub invariant-loop-i : goal.invariant-loop-i
invariant-loop-i l = l.routers.items ≡ map (λ i. number_32 l.lsa (24 + 4 * i)) (numbers_from 0 l.i)
