-- The products and their difference are small.
use Rattle.std.proofs.Common.{◌^◌, ◌≤◌, sym, subst}
use Rattle.std.specs.Prelude.{ℤ, nat_abs}
use Rattle.integer_pivots.proofs.Sizes.{read_known}
use Rattle.integer_pivots.proofs.TurnedOver.{small_fits, small_turned, turned_size}
use Rattle.integer_pivots.proofs.turned_line.Turn.turned_small.Goals as goal

pub overflow_sub-result : goal.overflow_sub-result
overflow_sub-result c =
    small_fits c.args.self c.args.number c.args.entering (read_known c.args.number c.ranges.number.sfits)
    (read_known c.args.entering c.ranges.entering.sfits) c.requires

pub returns-clause-turned : goal.returns-clause-turned
returns-clause-turned c =
    small_turned c.args.self c.args.number c.args.entering (read_known c.args.number c.ranges.number.sfits)
    (read_known c.args.entering c.ranges.entering.sfits) c.requires

pub returns-clause-size : goal.returns-clause-size
returns-clause-size c =
    subst (λ (z : ℤ). nat_abs z ≤ 2 ^ 30)
    (sym (small_turned c.args.self c.args.number c.args.entering (read_known c.args.number c.ranges.number.sfits)
    (read_known c.args.entering c.ranges.entering.sfits) c.requires))
    (turned_size c.args.self c.args.number c.args.entering c.requires)
