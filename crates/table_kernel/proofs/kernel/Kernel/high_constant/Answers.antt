-- No step is too wide.
use Rattle.std.proofs.Common.{◌≡◌, ℕ, ◌^◌, ◌≤◌, ◌∙◌, sym, ap, subst, length, arith}
use mathlib.Core.Path.{ap₂}
use Rattle.std.specs.Prelude.{ℤ, pos, ◌-ℤ◌, ◌*ℤ◌, List, nat_abs, slice_index}
use Rattle.integer_pivots.specs.declared.line.Line.{Line}
use Rattle.integer_pivots.proofs.LineReads.{denominator_read}
use Rattle.table_kernel.specs.Turns.{line_of}
use Rattle.table_kernel.proofs.AtBasis.{kernel_basis}
use Rattle.table_kernel.proofs.Lines.{IsLineRead, constant_small, high_difference, high_fits, high_product, line_read}
use Rattle.table_kernel.proofs.kernel.Kernel.high_constant.Goals as goal
use Rattle.table_kernel.proofs.kernel.Kernel.high_constant.Goals.{After-index, After-index-2}

line : (c : After-index) → IsLineRead c.args.self.now c.args.var c.index.result.now
line c =
    let m = c.requires.kernel in
    line_read c.args.self.now m.shaped m.bounded c.args.var c.index.result.now c.requires.var c.index.ensures

-- the constant of the line that is read once more
constant : (c : After-index-2) →
    (c.index-2.result.now.constant ≡ (line_of c.args.self.now c.args.var).constant) × (nat_abs c.index-2.result.now.constant ≤ 2 ^ 44)
constant c =
    let m = c.requires.kernel in
    let same = (line_read c.args.self.now m.shaped m.bounded c.args.var c.index-2.result.now c.requires.var c.index-2.ensures).is in (
      ap (λ (l : Line). l.constant) same,
      subst (λ (l : Line). nat_abs l.constant ≤ 2 ^ 44) (sym same) (constant_small c.args.self.now m.shaped m.bounded c.args.var c.requires.var),
    )

pub bounds-as_slice-var : goal.bounds-as_slice-var
bounds-as_slice-var c = omega (arith, ap length c.as_slice.ensures, c.requires.var)

pub bounds-as_slice-var-2 : goal.bounds-as_slice-var-2
bounds-as_slice-var-2 c =
    omega (arith, ap length c.as_slice-2.ensures, c.requires.var, (kernel_basis c.args.self.now c.requires.kernel).0.high_count)

pub index-requires : goal.index-requires
index-requires c = let k = c.args.self.now in omega (arith, c.requires.var, c.requires.kernel.shaped.lows, k.lows.ok.0)

pub overflow_mul-result : goal.overflow_mul-result
overflow_mul-result c =
    let l = line (goal.at.overflow_mul-result c).After-index in
    high_product c.range_of.result c.index.result.now.denominator c.range_of.ensures.small (denominator_read c.index.result.now l.small).0

pub overflow_sub-result : goal.overflow_sub-result
overflow_sub-result c =
    let l = line (goal.at.overflow_sub-result c).After-index in
    high_fits c.range_of.result c.index.result.now.denominator c.range_of.ensures.small
    (denominator_read c.index.result.now l.small).0 c.index-2.result.now.constant (constant (goal.at.overflow_sub-result c).After-index-2).1

pub returns : goal.returns
returns c =
    let k = c.args.self.now in
    let l = line (goal.at.returns c).After-index in
    let constant_is = constant (goal.at.returns c).After-index-2 in
    high_difference c.range_of.result c.index.result.now.denominator c.range_of.ensures.small
    (denominator_read c.index.result.now l.small).0 c.index-2.result.now.constant constant_is.1
    ∙ ap₂ (λ (x y : ℤ). (x *ℤ c.index.result.now.denominator) -ℤ y)
    (c.range_of.ensures.range
    ∙ ap₂ (λ (high low : List ℕ). pos (slice_index high c.args.var) -ℤ pos (slice_index low c.args.var)) c.as_slice-2.ensures c.as_slice.ensures)
    constant_is.0
    ∙ ap (λ (m : Line). ((pos (slice_index k.table.costs.high c.args.var) -ℤ pos (slice_index k.table.costs.low c.args.var)) *ℤ m.denominator)
    -ℤ (line_of k c.args.var).constant) l.is
