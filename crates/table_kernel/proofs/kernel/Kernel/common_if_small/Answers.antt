-- A test that fails shows that some number may pass the bounds.
use Rattle.std.proofs.Common.{arith}
use Rattle.integer_pivots.proofs.FailedTests.{failed}
use Rattle.table_kernel.proofs.CommonSteps.{match_none}
use Rattle.table_kernel.proofs.TurnedNumbers.{next_read, small_constants, small_throughout}
use Rattle.table_kernel.proofs.kernel.Kernel.common_if_small.Goals as goal

pub returns-then-not-lines_stay_small : goal.returns-then-not-lines_stay_small
returns-then-not-lines_stay_small c may =
    failed c.lines_stay_small.result c.if-not-lines_stay_small.true c.lines_stay_small.ensures may.lines

pub returns-in_err-common : goal.returns-in_err-common
returns-in_err-common c =
    let large = c.in_err-common.ensures in
    match_none c.from_residual.result _ c.from_residual.ensures (λ may. let small = may.common in omega (arith, large, small))

pub returns-then-not-constants_stay_small : goal.returns-then-not-constants_stay_small
returns-then-not-constants_stay_small c may =
    failed c.constants_stay_small.result c.if-not-constants_stay_small.true c.constants_stay_small.ensures
    (small_constants c.args.self.now c.args.column c.in_ok-common.common c.in_ok-common.ensures may)

pub returns : goal.returns
returns c =
    let k = c.args.self.now in
    let common = c.in_ok-common.common in
    let is = next_read k c.args.column common c.in_ok-common.ensures in (
      small_throughout k c.args.column common (c.lines_stay_small.ensures.0 c.if-not-lines_stay_small.false) c.in_ok-common.ensures
          (c.constants_stay_small.ensures.0 c.if-not-constants_stay_small.false),
      is.0,
      is.1,
      is.2,
    )
