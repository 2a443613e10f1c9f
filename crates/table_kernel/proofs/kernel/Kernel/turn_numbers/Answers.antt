-- The turn by the sizes before it, or that to lowest terms.
use Rattle.std.proofs.Common.{◌≡◌, ◌^◌, sym, subst}
use Rattle.std.specs.Prelude.{ℤ, pos, ◌<ℤ◌, ◌≤ℤ◌, nat_abs}
use Rattle.table_kernel.specs.Turns.{next_common}
use Rattle.table_kernel.proofs.Lines.{read_common}
use Rattle.table_kernel.proofs.kernel.Kernel.turn_numbers.Goals as goal

pub common_if_small-requires : goal.common_if_small-requires
common_if_small-requires c = record { ready = c.requires.ready }

pub turn_to_lowest-requires-clause-ready : goal.turn_to_lowest-requires-clause-ready
turn_to_lowest-requires-clause-ready c = c.requires.ready

pub turn_to_lowest-requires-clause-kernel : goal.turn_to_lowest-requires-clause-kernel
turn_to_lowest-requires-clause-kernel c = c.requires.kernel

pub returns-in_default-clause-same : goal.returns-in_default-clause-same
returns-in_default-clause-same c = c.turn_to_lowest.ensures.same

pub returns-in_default-clause-refused : goal.returns-in_default-clause-refused
returns-in_default-clause-refused c = c.turn_to_lowest.ensures.refused

pub returns-in_default-clause-turned : goal.returns-in_default-clause-turned
returns-in_default-clause-turned c = c.turn_to_lowest.ensures.turned

pub turn_small-requires-clause-ready : goal.turn_small-requires-clause-ready
turn_small-requires-clause-ready c = c.requires.ready

pub turn_small-requires-clause-kernel : goal.turn_small-requires-clause-kernel
turn_small-requires-clause-kernel c = c.requires.kernel

pub turn_small-requires-clause-touched : goal.turn_small-requires-clause-touched
turn_small-requires-clause-touched c = c.requires.touched

pub turn_small-requires-clause-small : goal.turn_small-requires-clause-small
turn_small-requires-clause-small c = c.in-Some.ensures.0

pub turn_small-requires-clause-common : goal.turn_small-requires-clause-common
turn_small-requires-clause-common c =
    let e = c.in-Some.ensures in
    subst (λ (z : ℤ). (pos 0 <ℤ z) × (nat_abs z ≡ next_common c.args.self.now c.args.column) × (z ≤ℤ pos (2 ^ 30)))
    (sym (read_common c.in-Some.common (e.1, e.3))) (e.1, e.2, e.3)

pub returns-clause-turned : goal.returns-clause-turned
returns-clause-turned c = c.turn_small.ensures.turned
