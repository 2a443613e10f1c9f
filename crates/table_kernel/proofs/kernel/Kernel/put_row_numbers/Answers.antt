-- The row's numbers are sums of lines.
use Rattle.std.proofs.Common.{◌≡◌, ◌^◌, ◌≤◌, ◌∙◌, refl, sym, ap, subst, List, length, map, arith}
use Rattle.std.specs.Prelude.{ℤ, pos, ◌<ℤ◌, ◌≤ℤ◌, nat_abs, All, suc}
use Prim.Native.Nat.{◌∣◌}
use Rattle.std.proofs.lemmas.List.{get_or_default}
use Rattle.whole_numbers.specs.Lists.{number_at}
use Rattle.design_problem.specs.declared.form.Form.{Form}
use Rattle.design_problem.specs.Forms.{no_form}
use Rattle.integer_pivots.specs.declared.line.Line.{Line}
use Rattle.integer_pivots.specs.Lines.{IsLine}
use Rattle.integer_pivots.proofs.Sizes.{read}
use Rattle.table_kernel.specs.Kernels.{width_of}
use Rattle.table_kernel.specs.Lines.{column_of, factors_of}
use Rattle.table_kernel.specs.Numbers.{number_at_column, scaled_line}
use Rattle.table_kernel.proofs.AtBasis.{kernel_basis}
use Rattle.table_kernel.proofs.Lines.{common_read}
use Rattle.table_kernel.proofs.kernel.Kernel.put_row_numbers.Goals as goal

pub index-requires : goal.index-requires
index-requires c = let k = c.args.self.now in omega (arith, c.requires.row, k.table.rows.ok.0)

pub put_sums-requires-clause-count : goal.put_sums-requires-clause-count
put_sums-requires-clause-count c =
    let k = c.args.self.now in
    let few : length c.index.result.now.coefficients ≡ width_of k =
    subst (λ (f : Form). length f.coefficients ≡ width_of k) (sym c.index.ensures)
    ((kernel_basis k c.requires.kernel).0.counts c.args.row c.index.result.now c.requires.row) in
    omega (arith, few, ap length c.as_slice.ensures.value, c.requires.kernel.shaped.lows)

pub put_sums-requires-clause-common : goal.put_sums-requires-clause-common
put_sums-requires-clause-common c =
    let b = c.requires.kernel.bounded in
    subst (λ (z : ℤ). (pos 0 <ℤ z) × (z ≤ℤ pos (2 ^ 30))) (sym (common_read c.args.self.now b)) (b.positive, b.common)

pub put_sums-requires-clause-lines : goal.put_sums-requires-clause-lines
put_sums-requires-clause-lines c =
    let b = c.requires.kernel.bounded in (
      subst (All IsLine) (sym c.as_slice.ensures.value) b.lines,
      subst (λ (ls : List Line). All (λ l. nat_abs l.denominator ∣ nat_abs (read c.args.self.now.common)) ls) (sym c.as_slice.ensures.value)
          (subst (λ (z : ℤ). All (λ (l : Line). nat_abs l.denominator ∣ nat_abs z) c.args.self.now.lows.items) (sym (common_read c.args.self.now b)) b.divides),
    )

pub put_sums-requires-clause-long : goal.put_sums-requires-clause-long
put_sums-requires-clause-long c =
    let s = c.requires.kernel.shaped in
    subst (λ (ls : List Line). All (λ l. length l.numbers ≡ length c.args.self.now.entering.numbers) ls) (sym c.as_slice.ensures.value)
    (λ v d v_in. s.each v d v_in ∙ sym s.entering)

pub put_sums-requires-clause-factors : goal.put_sums-requires-clause-factors
put_sums-requires-clause-factors c =
    let k = c.args.self.now in
    subst (λ (z : ℤ). factors_of (nat_abs z) c.index.result.now.coefficients c.as_slice.result.now ≤ 2 ^ 32) (sym (common_read k c.requires.kernel.bounded))
    (subst (λ (ls : List Line). factors_of (nat_abs k.common) c.index.result.now.coefficients ls ≤ 2 ^ 32) (sym c.as_slice.ensures.value)
    (subst (λ (f : Form). factors_of (nat_abs k.common) f.coefficients k.lows.items ≤ 2 ^ 32)
    (sym (c.index.ensures ∙ get_or_default k.table.rows.items c.args.row c.index.result.now no_form c.requires.row)) c.requires.factors))

pub returns-clause-count : goal.returns-clause-count
returns-clause-count c = c.put_sums.ensures.count ∙ c.requires.kernel.shaped.entering

pub returns-clause-numbers : goal.returns-clause-numbers
returns-clause-numbers c i i_in =
    let k = c.args.self.now in
    c.put_sums.ensures.numbers i (omega (arith, i_in, c.requires.kernel.shaped.entering))
    ∙ ap (λ (z : ℤ). number_at_column c.index.result.now (map (λ row. number_at row (suc i)) (map (scaled_line (nat_abs z)) c.as_slice.result.now)))
    (common_read k c.requires.kernel.bounded)
    ∙ ap (λ (ls : List Line). number_at_column c.index.result.now (map (λ row. number_at row (suc i)) (map (scaled_line (nat_abs k.common)) ls)))
    c.as_slice.ensures.value
    ∙ ap (λ (f : Form). number_at_column f (column_of k i))
    (c.index.ensures ∙ get_or_default k.table.rows.items c.args.row c.index.result.now no_form c.requires.row)

pub returns-clause-sizes : goal.returns-clause-sizes
returns-clause-sizes c = c.put_sums.ensures.sizes

pub returns-clause-keeps : goal.returns-clause-keeps
returns-clause-keeps c = record {
  table = refl;
  common = refl;
  lows = refl;
  leads = refl;
  constants = refl;
  uses = refl;
  turns = refl;
  left = omega arith;
  entering = c.put_sums.ensures.count;
}
