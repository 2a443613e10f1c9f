-- The least common denominator, with one column more.
use Rattle.std.proofs.Common.{suc, arith, to_z, w64}
use Rattle.std.specs.Prelude.{nat_abs}
use Rattle.table_kernel.proofs.CommonSteps.{match_none}
use Rattle.table_kernel.proofs.LeastDenominators.{all_least, first_least, more_goes_in, next_least, none_small, one_goes_in}
use Rattle.table_kernel.proofs.read_back.denominator_of.Goals as goal

pub returns-in_err-common : goal.returns-in_err-common
returns-in_err-common c =
    let fractions = c.args.fractions.now in
    match_none c.from_residual.result _ c.from_residual.ensures
    (none_small fractions _ (more_goes_in fractions 0 1 c.constant.result (omega (arith, c.requires.width)) c.constant.ensures (one_goes_in fractions))
    c.in_err-common.ensures)

pub returns-in_err-common-2 : goal.returns-in_err-common-2
returns-in_err-common-2 c =
    let fractions = c.args.fractions.now in
    let column = c.loop-column.column in
    match_none c.from_residual-in_err-common-2.result _ c.from_residual-in_err-common-2.ensures
    (none_small fractions _ (more_goes_in fractions (suc column) (nat_abs (to_z w64 c.loop-column.common-bits)) c.entry.result
    (omega (arith, c.requires.width, c.loop-column-test.true)) c.entry.ensures c.loop-column.invariant.least) c.in_err-common-2.ensures)

pub loop-column-init : goal.loop-column-init
loop-column-init c =
    first_least c.args.fractions.now c.constant.result c.in_ok-common.common (omega (arith, c.requires.width)) c.constant.ensures c.in_ok-common.ensures

pub loop-column-preserved : goal.loop-column-preserved
loop-column-preserved c =
    next_least c.args.fractions.now c.loop-column.column c.entry.result (to_z w64 c.loop-column.common-bits) c.in_ok-common-2.common
    (omega (arith, c.requires.width, c.loop-column-test.true)) c.entry.ensures c.loop-column.invariant c.in_ok-common-2.ensures

pub returns : goal.returns
returns c =
    all_least c.args.fractions.now c.loop-column.column (to_z w64 c.loop-column.common-bits)
    (omega (arith, c.requires.width, c.loop-column-test.false)) c.loop-column.invariant
