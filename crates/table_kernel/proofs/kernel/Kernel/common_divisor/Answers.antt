-- A step of the divisor.
use Rattle.std.proofs.Common.{ℕ, ◌<◌, arith, subst}
use Rattle.table_kernel.specs.Kernels.{width_of}
use Rattle.table_kernel.proofs.Corners.{common_read, constant_in, constant_read, divisor_first, divisor_more}
use Rattle.table_kernel.proofs.kernel.Kernel.common_divisor.Goals as goal

pub index-requires : goal.index-requires
index-requires c =
    let k = c.args.self.now in
    omega (arith, constant_in k c.requires.kernel c.loop-var.var (omega (arith, c.loop-var-test.true, c.width-var-end.ensures)), k.constants.ok.0)

pub loop-var-init : goal.loop-var-init
loop-var-init c =
    let k = c.args.self.now in
    let read = common_read k c.requires.kernel c.size_of-divisor.result c.size_of-divisor.ensures in
    divisor_first k.common k.constants.items c.size_of-divisor.result (subst (λ (n : ℕ). 0 < n) read.0 read.2) read.0

pub loop-var-preserved : goal.loop-var-preserved
loop-var-preserved c =
    let k = c.args.self.now in
    let v = c.loop-var.var in
    let v_in : v < width_of k = omega (arith, c.loop-var-test.true, c.width-var-end.ensures) in
    let read = constant_read k c.requires.kernel v c.size_of.result c.index.result.now v_in c.index.ensures c.size_of.ensures in
    divisor_more k.common k.constants.items v c.size_of.result c.loop-var.divisor
    c.greatest_common_divisor-divisor.result read.0 c.greatest_common_divisor-divisor.ensures.value
    c.greatest_common_divisor-divisor.ensures.positive c.loop-var.invariant
