-- The kernel with one more row in its lists.
use Rattle.std.proofs.Common.{◌∙◌, ap, length, refl, arith}
use Rattle.std.proofs.lemmas.Result.{on_ok_weaker}
use Rattle.integer_pivots.proofs.UseLaws.{lists_many, uses_put}
use Rattle.table_kernel.specs.Kernels.{width_of}
use Rattle.table_kernel.proofs.ParkedKernels.{parked_more}
use Rattle.table_kernel.proofs.kernel.Kernel.park_row.Goals as goal

pub push_uses-requires-clause-count : goal.push_uses-requires-clause-count
push_uses-requires-clause-count c =
    let k = c.args.self.now in
    omega (
      arith,
      c.requires.row.blank.fits.count,
      lists_many k.uses.items k.table.rows.items (width_of k) c.requires.parked.shaped.uses,
      ap length c.as_mut_slice.ensures.value,
    )

pub returns-clause-parked : goal.returns-clause-parked
returns-clause-parked c =
    let old = c.args.self.now in
    let f = c.args.row.form in
    on_ok_weaker c.put_row.result (parked_more old _ f c.requires.parked
    record {
      table = c.put_row.ensures.holds;
      common = refl;
      lows = refl;
      leads = refl;
      constants = c.push_reserved.ensures.items;
      uses = uses_put old.uses.len c.len-count.result (width_of old) old.uses.items c.as_mut_slice.result.now
          c.push_uses.new.uses old.table.rows.items f c.requires.parked.shaped.uses c.as_mut_slice.ensures.value
          old.uses.ok.0 (c.len-count.ensures ∙ old.table.rows.ok.0) c.push_uses.auto.uses c.push_uses.ensures;
      turns = refl;
      left = refl;
      entering = refl;
    }) c.put_row.ensures.tableau
