-- The common multiple of one line more.
use Rattle.std.proofs.Common.{ℕ, ◌^◌, ◌<◌, length, subst, arith, w64, to_z, nat_abs}
use Rattle.table_kernel.specs.Turns.{next_common}
use Rattle.std.proofs.lemmas.Nat.Gcd.{dvd_trans}
use Rattle.whole_numbers.proofs.Sizes.{size_positive}
use Rattle.integer_pivots.specs.Lines.{no_line}
use Rattle.table_kernel.proofs.CommonSteps.{first_read, match_none, next_read, none_left, too_large}
use Rattle.table_kernel.proofs.TurnArgs.{line_ready}
use Rattle.table_kernel.proofs.TurnedRows.{afters_some}
use Rattle.table_kernel.proofs.kernel.Kernel.common_after.Goals as goal

pub loop-var-init : goal.loop-var-init
loop-var-init c =
    let k = c.args.self.now in
    let is = first_read k.entering c.args.column k.lows.items k.common c.requires.ready.common in
    record { left = is.0; range = is.1; divides = is.2 }

pub common_with-requires-clause-ready : goal.common_with-requires-clause-ready
common_with-requires-clause-ready c =
    let k = c.args.self.now in
    line_ready k c.args.column c.loop-var.var c.requires.ready (omega (arith, c.loop-var-test.true, c.len-var-end.ensures, k.lows.ok.0))

pub common_with-requires-clause-common : goal.common_with-requires-clause-common
common_with-requires-clause-common c = c.loop-var.invariant.range

pub common_with-requires-clause-divides : goal.common_with-requires-clause-divides
common_with-requires-clause-divides c =
    let k = c.args.self.now in
    let v_in : c.loop-var.var < length k.lows.items = omega (arith, c.loop-var-test.true, c.len-var-end.ensures, k.lows.ok.0) in
    dvd_trans _ (c.requires.ready.divides c.loop-var.var no_line v_in) c.loop-var.invariant.divides

pub returns-in_err-common : goal.returns-in_err-common
returns-in_err-common c =
    let k = c.args.self.now in
    let v_in : c.loop-var.var < length k.lows.items = omega (arith, c.loop-var-test.true, c.len-var-end.ensures, k.lows.ok.0) in
    match_none c.from_residual.result _ c.from_residual.ensures
    (subst (λ (n : ℕ). 2 ^ 30 < n) c.loop-var.invariant.left
    (too_large k.entering c.args.column k.lows.items c.loop-var.var (nat_abs (to_z w64 c.loop-var.common-bits)) (2 ^ 30) v_in
    (size_positive _ c.loop-var.invariant.range.0)
    (afters_some k c.args.column c.requires.ready) c.in_err-common.ensures))

pub loop-var-preserved : goal.loop-var-preserved
loop-var-preserved c =
    let k = c.args.self.now in
    let v_in : c.loop-var.var < length k.lows.items = omega (arith, c.loop-var-test.true, c.len-var-end.ensures, k.lows.ok.0) in
    let is = next_read k.entering c.args.column k.lows.items c.loop-var.var (nat_abs k.common) (next_common k c.args.column) (to_z w64 c.loop-var.common-bits)
    c.in_ok-common.common v_in c.loop-var.invariant.left
    c.loop-var.invariant.divides c.in_ok-common.ensures in
    record { left = is.0; range = is.1; divides = is.2 }

pub returns : goal.returns
returns c =
    let k = c.args.self.now in
    let v = c.loop-var.invariant in (
      v.range.0,
      none_left k.entering c.args.column k.lows.items c.loop-var.var (nat_abs (to_z w64 c.loop-var.common-bits)) (next_common k c.args.column)
          (omega (arith, c.loop-var-test.false, c.len-var-end.ensures, k.lows.ok.0)) v.left,
      v.range.1,
    )
