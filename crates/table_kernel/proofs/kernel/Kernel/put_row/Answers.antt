-- The kernel with one more row.
use Rattle.std.proofs.Common.{◌≡◌, ◌^◌, ◌≤◌, ◌∙◌, arith, length, subst, sym, ap, refl, List, w64, to_z, of_z}
use Rattle.std.specs.Prelude.{ℤ, pos, ◌<ℤ◌, ◌≤ℤ◌, ◌*ℤ◌, ◌+ℤ◌, nat_abs}
use Rattle.whole_numbers.specs.Lists.{number_at}
use Rattle.design_problem.specs.Forms.{value_for_costs}
use Rattle.fraction_lines.proofs.BlankLines.{blank_long}
use Rattle.fraction_table.proofs.Pivots.{members_long}
use Rattle.integer_pivots.specs.Numbers.{product_sum}
use Rattle.integer_pivots.specs.Uses.{HaveRoom}
use Rattle.integer_pivots.proofs.UseLaws.{lists_many, uses_put}
use Rattle.integer_pivots.proofs.Sizes.{number_within, read_number}
use Rattle.table_kernel.specs.Kernels.{width_of}
use Rattle.table_kernel.specs.Rows.{row_constant_of}
use Rattle.table_kernel.proofs.Columns.{common_small, constants_within, low_constants}
use Rattle.table_kernel.proofs.MoreRows.{kernel_more}
use Rattle.table_kernel.proofs.Corners.{low_constant_is}
use Rattle.table_kernel.proofs.kernel.Kernel.put_row.Goals as goal

pub row_constant-constant-requires-clause-common : goal.row_constant-constant-requires-clause-common
row_constant-constant-requires-clause-common c =
    let k = c.args.self.now in
    let b = c.requires.kernel.bounded in
    let read = read_number k.common (omega (arith, common_small k b)) in (
      subst (λ (z : ℤ). pos 0 <ℤ z) (sym read) b.positive,
      subst (λ (z : ℤ). z ≤ℤ pos (2 ^ 30)) (sym read) b.common,
    )

pub row_constant-constant-requires-clause-many : goal.row_constant-constant-requires-clause-many
row_constant-constant-requires-clause-many c =
    let k = c.args.self.now in
    omega (arith, c.requires.kernel.shaped.constants, members_long k.table.costs (length k.table.rows.items), ap length c.as_slice.ensures.value)

pub row_constant-constant-requires-clause-constants : goal.row_constant-constant-requires-clause-constants
row_constant-constant-requires-clause-constants c v v_in =
    let k = c.args.self.now in
    subst (λ (zs : List ℤ). nat_abs (number_at zs v) ≤ 2 ^ 44) (sym c.as_slice.ensures.value)
    (subst (λ (z : ℤ). nat_abs z ≤ 2 ^ 44) (sym (low_constant_is k c.requires.kernel v v_in))
    (number_within (2 ^ 44) (low_constants k) v (constants_within k c.requires.kernel.bounded)))

pub push_uses-requires-clause-count : goal.push_uses-requires-clause-count
push_uses-requires-clause-count c =
    let k = c.args.self.now in
    omega (
      arith,
      c.requires.row.blank.fits.count,
      lists_many k.uses.items k.table.rows.items (width_of k) c.requires.kernel.shaped.uses,
      ap length c.as_mut_slice.ensures.value,
    )

pub push_uses-requires-clause-room : goal.push_uses-requires-clause-room
push_uses-requires-clause-room c = subst HaveRoom (sym c.as_mut_slice.ensures.value) c.requires.row.place.uses

pub returns-clause-kernel : goal.returns-clause-kernel
returns-clause-kernel c =
    let old = c.args.self.now in
    let f = c.args.row.form in
    let z = c.row_constant-constant.result in
    let read = read_number old.common (omega (arith, common_small old c.requires.kernel.bounded)) in
    let is : z ≡ row_constant_of old.common old.table.costs.low old.constants.items f =
    c.row_constant-constant.ensures.constant
    ∙ ap (λ (x : ℤ). (x *ℤ value_for_costs f old.table.costs.low) +ℤ product_sum f.coefficients c.as_slice.result.now) read
    ∙ ap (λ (zs : List ℤ). (old.common *ℤ value_for_costs f old.table.costs.low) +ℤ product_sum f.coefficients zs) c.as_slice.ensures.value in
    let z_read = read_number z (omega (arith, c.row_constant-constant.ensures.size)) in
    kernel_more old _ f c.args.row.line (to_z w64 (of_z w64 z)) c.requires.kernel c.requires.row.blank.fits c.requires.covered
    (z_read ∙ is) (subst (λ (x : ℤ). nat_abs x ≤ 2 ^ 62) (sym z_read) (omega (arith, c.row_constant-constant.ensures.size)))
    record {
      table = c.put_blank.ensures.holds;
      common = refl;
      lows = refl;
      leads = refl;
      constants = c.push_reserved.ensures.items;
      uses = uses_put old.uses.len c.len-count.result (width_of old) old.uses.items c.as_mut_slice.result.now
          c.push_uses.new.uses old.table.rows.items f c.requires.kernel.shaped.uses c.as_mut_slice.ensures.value
          old.uses.ok.0 (c.len-count.ensures ∙ old.table.rows.ok.0) c.push_uses.auto.uses c.push_uses.ensures;
      turns = refl;
      left = refl;
      entering = refl;
    } c.put_blank.ensures.lines (blank_long c.args.row.line (width_of old) c.requires.row.blank.blank)
