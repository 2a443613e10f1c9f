-- The entry of x - low is read, that of high - x is its negative, and that of a row is a sum.
use Rattle.std.proofs.Common.{◌≡◌, ◌^◌, ◌<◌, ◌≤◌, length, ap, sym, subst, ◌∙◌, arith}
use Rattle.std.specs.Prelude.{nat_abs, neg_ℤ}
use Rattle.std.proofs.lemmas.List.{get_or_default}
use Rattle.whole_numbers.proofs.Sizes.{negated_size}
use Rattle.design_problem.specs.declared.form.Form.{Form}
use Rattle.design_problem.specs.declared.tree.Member.{Member}
use Rattle.design_problem.specs.Basis.{IsFormOf, member_form}
use Rattle.design_problem.specs.Forms.{no_form}
use Rattle.fraction_table.proofs.MultiplierSteps.{read_back}
use Rattle.integer_pivots.specs.Numbers.{weight_of}
use Rattle.table_kernel.specs.Kernels.{width_of}
use Rattle.table_kernel.specs.Lines.{column_of}
use Rattle.table_kernel.specs.Numbers.{number_at_column}
use Rattle.table_kernel.proofs.AtBasis.{kernel_basis}
use Rattle.table_kernel.proofs.Columns.{column_long, high_number_in, low_number_in}
use Rattle.table_kernel.proofs.WideNumbers.{wide_negated_fits, wide_negated_is}
use Rattle.table_kernel.proofs.kernel.Kernel.entry.Goals as goal

pub low_entry-requires-clause-var : goal.low_entry-requires-clause-var
low_entry-requires-clause-var c =
    let k = c.args.self.now in
    (subst (IsFormOf k.table.costs k.table.rows.items) c.in-Low.is c.requires.member).0

pub low_entry-requires-in-High-clause-var : goal.low_entry-requires-in-High-clause-var
low_entry-requires-in-High-clause-var c =
    let k = c.args.self.now in
    (subst (IsFormOf k.table.costs k.table.rows.items) c.in-High.is c.requires.member).0

pub overflow_sub-result : goal.overflow_sub-result
overflow_sub-result c = wide_negated_fits c.low_entry-in-High.result c.low_entry-in-High.ensures.size

pub index-requires : goal.index-requires
index-requires c =
    let k = c.args.self.now in
    let known : c.in-Row.row < length k.table.rows.items = subst (IsFormOf k.table.costs k.table.rows.items) c.in-Row.is c.requires.member in
    omega (arith, known, k.table.rows.ok.0)

pub row_entry-requires-clause-count : goal.row_entry-requires-clause-count
row_entry-requires-clause-count c =
    let k = c.args.self.now in
    let known : c.in-Row.row < length k.table.rows.items = subst (IsFormOf k.table.costs k.table.rows.items) c.in-Row.is c.requires.member in
    let few : length c.index.result.now.coefficients ≡ width_of k =
    subst (λ (f : Form). length f.coefficients ≡ width_of k) (sym c.index.ensures)
    ((kernel_basis k c.requires.kernel).0.counts c.in-Row.row c.index.result.now known) in
    omega (arith, few)

pub row_entry-requires-clause-light : goal.row_entry-requires-clause-light
row_entry-requires-clause-light c =
    let k = c.args.self.now in
    let known : c.in-Row.row < length k.table.rows.items = subst (IsFormOf k.table.costs k.table.rows.items) c.in-Row.is c.requires.member in
    subst (λ (f : Form). weight_of f ≤ 2 ^ 16) (sym c.index.ensures)
    (c.requires.kernel.bounded.rows c.in-Row.row c.index.result.now known)

pub returns-in-Low-clause-number : goal.returns-in-Low-clause-number
returns-in-Low-clause-number c =
    let k = c.args.self.now in
    let n = width_of k in
    let rows = k.table.rows.items in
    let column = column_of k c.args.column in
    let known = subst (IsFormOf k.table.costs rows) c.in-Low.is c.requires.member in
    let small = c.low_entry.ensures.size in
    read_back c.low_entry.result (omega (arith, small))
    ∙ c.low_entry.ensures.number
    ∙ sym (low_number_in n rows c.in-Low.var c.in-Low.field-1 column known.0 (sym (column_long k c.requires.kernel.shaped c.args.column)))
    ∙ ap (λ (m : Member). number_at_column (member_form n rows m) column) (sym c.in-Low.is)

pub returns-in-Low-clause-size : goal.returns-in-Low-clause-size
returns-in-Low-clause-size c =
    let small = c.low_entry.ensures.size in
    omega (arith, small, ap nat_abs (read_back c.low_entry.result (omega (arith, small))))

pub returns-in-High-clause-number : goal.returns-in-High-clause-number
returns-in-High-clause-number c =
    let k = c.args.self.now in
    let n = width_of k in
    let rows = k.table.rows.items in
    let column = column_of k c.args.column in
    let known = subst (IsFormOf k.table.costs rows) c.in-High.is c.requires.member in
    wide_negated_is c.low_entry-in-High.result c.low_entry-in-High.ensures.size
    ∙ ap neg_ℤ c.low_entry-in-High.ensures.number
    ∙ sym (high_number_in n rows c.in-High.var c.in-High.field-1 column known.0 (sym (column_long k c.requires.kernel.shaped c.args.column)))
    ∙ ap (λ (m : Member). number_at_column (member_form n rows m) column) (sym c.in-High.is)

pub returns-in-High-clause-size : goal.returns-in-High-clause-size
returns-in-High-clause-size c =
    let small = c.low_entry-in-High.ensures.size in
    omega (arith, small, negated_size c.low_entry-in-High.result, ap nat_abs (wide_negated_is c.low_entry-in-High.result small))

pub returns-in-Row-clause-number : goal.returns-in-Row-clause-number
returns-in-Row-clause-number c =
    let k = c.args.self.now in
    let n = width_of k in
    let rows = k.table.rows.items in
    let column = column_of k c.args.column in
    let known : c.in-Row.row < length rows = subst (IsFormOf k.table.costs rows) c.in-Row.is c.requires.member in
    let small = c.row_entry.ensures.size in
    read_back c.row_entry.result (omega (arith, small))
    ∙ c.row_entry.ensures.number
    ∙ ap (λ (f : Form). number_at_column f column) (c.index.ensures ∙ get_or_default rows c.in-Row.row c.index.result.now no_form known)
    ∙ ap (λ (m : Member). number_at_column (member_form n rows m) column) (sym c.in-Row.is)

pub returns-in-Row-clause-size : goal.returns-in-Row-clause-size
returns-in-Row-clause-size c =
    let small = c.row_entry.ensures.size in
    omega (arith, small, ap nat_abs (read_back c.row_entry.result (omega (arith, small))))
