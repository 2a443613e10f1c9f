-- The least multiple of one line more.
use Rattle.std.proofs.Common.{◌≡◌, ◌<◌, length, arith, w64, to_z}
use Rattle.std.specs.Prelude.{slice_index_or}
use Rattle.integer_pivots.specs.Lines.{no_line}
use Rattle.integer_pivots.proofs.Sizes.{read}
use Rattle.table_kernel.proofs.CommonSteps.{match_none}
use Rattle.table_kernel.proofs.LeastCommon.{least_common, line_is_read, next_both, none_yet, too_large}
use Rattle.table_kernel.proofs.kernel.Kernel.common_of_lines.Goals.{After-index}
use Rattle.table_kernel.proofs.kernel.Kernel.common_of_lines.Goals as goal

-- the line whose turn it is
at_line : (c : After-index) → (c.loop-var.var < length c.args.self.now.lows.items)
    × (read c.index.result.now.denominator ≡ (slice_index_or c.args.self.now.lows.items c.loop-var.var no_line).denominator)
at_line c =
    let lines = c.args.self.now.lows in
    let v_in : c.loop-var.var < length lines.items = omega (arith, c.loop-var-test.true, c.len-var-end.ensures, lines.ok.0) in
    (v_in, line_is_read lines.items c.loop-var.var c.index.result.now c.requires.lines v_in c.index.ensures)

pub loop-var-init : goal.loop-var-init
loop-var-init c = none_yet c.args.self.now.lows.items

pub returns-in_err-common : goal.returns-in_err-common
returns-in_err-common c =
    let at = at_line (goal.at.returns-in_err-common c).After-index in
    match_none c.from_residual.result _ c.from_residual.ensures
    (too_large c.args.self.now.lows.items c.loop-var.var (to_z w64 c.loop-var.common-bits) c.index.result.now.denominator at.0 at.1
    c.loop-var.invariant c.in_err-common.ensures)

pub loop-var-preserved : goal.loop-var-preserved
loop-var-preserved c =
    let at = at_line (goal.at.loop-var-preserved c).After-index in
    next_both c.args.self.now.lows.items c.loop-var.var (to_z w64 c.loop-var.common-bits) c.index.result.now.denominator at.0 at.1
    c.loop-var.invariant c.in_ok-common.common c.in_ok-common.ensures

pub returns : goal.returns
returns c =
    let lines = c.args.self.now.lows in
    least_common lines.items c.loop-var.var (to_z w64 c.loop-var.common-bits)
    (omega (arith, c.loop-var-test.false, c.len-var-end.ensures, lines.ok.0)) c.loop-var.invariant
