-- The least common denominator of one line more.
use Rattle.std.proofs.Common.{◌<◌, ◌^◌, sym, subst, length, arith, w64, to_z}
use Rattle.std.specs.Prelude.{ℤ, pos, ◌<ℤ◌, ◌≤ℤ◌}
use Rattle.std.proofs.lemmas.Int.{ints}
use Rattle.integer_pivots.proofs.FailedTests.{failed}
use Rattle.integer_pivots.proofs.Sizes.{read}
use Rattle.table_kernel.proofs.CommonSteps.{match_none}
use Rattle.table_kernel.proofs.LowestRows.{denominator_read, lowest_common_is, none_lowest, not_small, one_more_lowest, too_large}
use Rattle.table_kernel.proofs.TurnArgs.{line_ready}
use Rattle.table_kernel.proofs.kernel.Kernel.lowest_common.Goals as goal

pub loop-var-init : goal.loop-var-init
loop-var-init c = none_lowest c.args.self.now c.args.column

pub is_small_at-requires-clause-ready : goal.is_small_at-requires-clause-ready
is_small_at-requires-clause-ready c =
    let k = c.args.self.now in
    line_ready k c.args.column c.loop-var.var c.requires.ready (omega (arith, c.loop-var-test.true, c.len-var-end.ensures, k.lows.ok.0))

pub returns-then-not-is_small_at : goal.returns-then-not-is_small_at
returns-then-not-is_small_at c =
    let k = c.args.self.now in
    let v_in : c.loop-var.var < length k.lows.items = omega (arith, c.loop-var-test.true, c.len-var-end.ensures, k.lows.ok.0) in
    not_small k c.args.column c.loop-var.var c.lowest_of-lowest.result v_in c.lowest_of-lowest.ensures.lowest
    (failed c.is_small_at.result c.if-not-is_small_at.true c.is_small_at.ensures)

pub returns-in_err-common : goal.returns-in_err-common
returns-in_err-common c =
    let k = c.args.self.now in
    let v_in : c.loop-var.var < length k.lows.items = omega (arith, c.loop-var-test.true, c.len-var-end.ensures, k.lows.ok.0) in
    let lowest = c.lowest_of-lowest.result in
    match_none c.from_residual.result _ c.from_residual.ensures
    (too_large k c.args.column c.loop-var.var lowest v_in c.lowest_of-lowest.ensures.lowest (to_z w64 c.loop-var.common-bits)
    (read lowest.denominator) (denominator_read lowest c.lowest_of-lowest.ensures.size) c.loop-var.invariant c.in_err-common.ensures)

pub loop-var-preserved : goal.loop-var-preserved
loop-var-preserved c =
    let k = c.args.self.now in
    let v_in : c.loop-var.var < length k.lows.items = omega (arith, c.loop-var-test.true, c.len-var-end.ensures, k.lows.ok.0) in
    let lowest = c.lowest_of-lowest.result in
    one_more_lowest k c.args.column c.loop-var.var lowest v_in c.lowest_of-lowest.ensures.lowest (to_z w64 c.loop-var.common-bits)
    (read lowest.denominator) (denominator_read lowest c.lowest_of-lowest.ensures.size) c.loop-var.invariant
    (c.is_small_at.ensures.0 c.if-not-is_small_at.false) c.in_ok-common.common c.in_ok-common.ensures

pub returns : goal.returns
returns c =
    let k = c.args.self.now in
    lowest_common_is k c.args.column c.loop-var.var (to_z w64 c.loop-var.common-bits)
    (omega (arith, c.loop-var-test.false, c.len-var-end.ensures, k.lows.ok.0)) c.loop-var.invariant

pub lowest_of-lowest-requires : goal.lowest_of-lowest-requires
lowest_of-lowest-requires c =
    let k = c.args.self.now in
    record { ready = line_ready k c.args.column c.loop-var.var c.requires.ready (omega (arith, c.loop-var-test.true, c.len-var-end.ensures, k.lows.ok.0)) }

pub is_small_at-requires-clause-lowest : goal.is_small_at-requires-clause-lowest
is_small_at-requires-clause-lowest c = c.lowest_of-lowest.ensures.lowest

pub common_multiple-requires-clause-first : goal.common_multiple-requires-clause-first
common_multiple-requires-clause-first c = c.loop-var.invariant.range

pub common_multiple-requires-clause-second : goal.common_multiple-requires-clause-second
common_multiple-requires-clause-second c =
    let lowest = c.lowest_of-lowest.result in
    let size = c.lowest_of-lowest.ensures.size in
    let positive = c.lowest_of-lowest.ensures.lowest.positive in
    subst (λ (z : ℤ). (pos 0 <ℤ z) × (z ≤ℤ pos (2 ^ 60))) (sym (denominator_read lowest size)) (positive, omega (arith, ints, size, positive))
