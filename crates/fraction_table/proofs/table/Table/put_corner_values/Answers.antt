-- Each value is that of the corner, and fits.
use Rattle.std.proofs.Common.{rules, ◌<◌, ◌∙◌, ap, subst, sym, length, arith}
use Rattle.std.specs.Prelude.{List, ℕ, ◌^◌, slice_index}
use Rattle.std.proofs.lemmas.List.{length-set}
use Rattle.fraction_table.proofs.Pivots.{lines_long}
use Rattle.fraction_table.proofs.CornerScales.{constant_read, entry_read, entry_small, values_more}
use Rattle.fraction_table.proofs.table.Table.put_corner_values.Goals as goal

pub index-requires : goal.index-requires
index-requires c =
    let t = c.args.self.now in
    omega (arith, c.loop-var-test.true, ap length c.as_slice-low.ensures, lines_long t c.requires.tableau, t.lines.ok.0)

pub raised-value-requires : goal.raised-value-requires
raised-value-requires c =
    let t = c.args.self.now in
    let k = c.loop-var.var in
    let var_in : k < length t.costs.low = omega (arith, c.loop-var-test.true, ap length c.as_slice-low.ensures) in
    let constant_is = constant_read t c.requires.tableau k c.constant.result c.index.result.now var_in c.constant.ensures c.index.ensures in
    let fits = c.type_inv.high k in
    let read_small : slice_index c.as_slice-high.result.now k < 65536 = search rules in
    let high_small : slice_index t.costs.high k < 65536 = subst (λ (hs : List ℕ). slice_index hs k < 65536) c.as_slice-high.ensures read_small in
    record {
      fits = subst (λ (n : ℕ). n < 2 ^ 128) (sym (entry_read t c.as_slice-low.result.now c.constant.result c.args.scale k c.as_slice-low.ensures constant_is))
          (entry_small t c.requires.tableau c.requires.high c.args.scale k c.requires.common c.requires.small var_in high_small);
    }

pub loop-var-preserved : goal.loop-var-preserved
loop-var-preserved c =
    let t = c.args.self.now in
    let k = c.loop-var.var in
    let var_in : k < length t.costs.low = omega (arith, c.loop-var-test.true, ap length c.as_slice-low.ensures) in
    let constant_is = constant_read t c.requires.tableau k c.constant.result c.index.result.now var_in c.constant.ensures c.index.ensures in
    record {
      places = ap length c.set.ensures ∙ length-set c.loop-var.into k c.raised-value.result ∙ c.loop-var.invariant.places;
      values = values_more t c.args.scale k c.raised-value.result c.loop-var.into c.set.new.self
          (omega (arith, var_in, c.loop-var.invariant.places)) c.loop-var.invariant.values
          (c.raised-value.ensures ∙ entry_read t c.as_slice-low.result.now c.constant.result c.args.scale k c.as_slice-low.ensures constant_is) c.set.ensures;
    }
