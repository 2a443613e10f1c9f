-- One more value is put.
use Rattle.std.proofs.Common.{ℕ, ◌+◌, ◌*◌, ◌/◌, ◌<◌, ◌∙◌, le_trans, ap, length, arith}
use Rattle.std.specs.Prelude.{List, slice_index}
use Rattle.std.proofs.Math.Nat.{div-le_self}
use Rattle.std.proofs.lemmas.List.{length-set}
use Rattle.table_kernel.specs.Kernels.{width_of}
use Rattle.table_kernel.proofs.Corners.{constant_in, constant_read, values_more}
use Rattle.table_kernel.proofs.kernel.Kernel.put_values.Goals as goal

pub index-requires : goal.index-requires
index-requires c =
    let k = c.args.self.now in
    omega (
      arith,
      constant_in k c.requires.kernel c.loop-var.var (omega (arith, c.loop-var-test.true, ap length c.as_slice-low.ensures)),
      k.constants.ok.0,
    )

pub raised-requires-clause-above : goal.raised-requires-clause-above
raised-requires-clause-above c =
    let k = c.args.self.now in
    let v_in : c.loop-var.var < width_of k = omega (arith, c.loop-var-test.true, ap length c.as_slice-low.ensures) in
    le_trans (div-le_self c.size_of.result c.args.divisor)
    (constant_read k c.requires.kernel c.loop-var.var c.size_of.result c.index.result.now v_in c.index.ensures
    c.size_of.ensures).1

pub loop-var-preserved : goal.loop-var-preserved
loop-var-preserved c =
    let k = c.args.self.now in
    let v = c.loop-var.var in
    let v_in : v < width_of k = omega (arith, c.loop-var-test.true, ap length c.as_slice-low.ensures) in
    let read = constant_read k c.requires.kernel v c.size_of.result c.index.result.now v_in c.index.ensures c.size_of.ensures in
    record {
      places = ap length c.set.ensures ∙ length-set c.loop-var.into v c.raised.result ∙ c.loop-var.invariant.places;
      values = values_more k c.args.divisor c.args.scale v c.raised.result c.loop-var.into c.set.new.self
          (omega (arith, v_in, c.loop-var.invariant.places)) c.loop-var.invariant.values
          (c.raised.ensures
          ∙ ap (λ (low : List ℕ). slice_index low v * c.args.scale + c.size_of.result / c.args.divisor) c.as_slice-low.ensures
          ∙ ap (λ (size : ℕ). slice_index k.table.costs.low v * c.args.scale + size / c.args.divisor) read.0) c.set.ensures;
    }
