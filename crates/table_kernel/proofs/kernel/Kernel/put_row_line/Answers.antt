-- The row's numbers over the common denominator are brought into lowest terms.
use Rattle.std.proofs.Common.{◌≡◌, ℕ, ◌^◌, ◌<◌, ◌≤◌, ◌∙◌, sym, ap, subst, length, arith}
use Rattle.std.specs.Prelude.{ℤ, pos, ◌<ℤ◌, nat_abs, slice_index_or, vec_len}
use Rattle.std.proofs.lemmas.List.{get_or_default}
use Rattle.whole_numbers.specs.Lists.{number_at}
use Rattle.design_problem.specs.declared.form.Form.{Form}
use Rattle.design_problem.specs.Forms.{no_form}
use Rattle.fraction_table.proofs.Pivots.{members_long}
use Rattle.integer_pivots.specs.Numbers.{weight_of}
use Rattle.integer_pivots.proofs.Sizes.{read, read_number, size_of}
use Rattle.table_kernel.specs.Kernels.{width_of}
use Rattle.table_kernel.specs.Lines.{StandsForPlace, column_of, factors as factors_pass, factors_of}
use Rattle.table_kernel.specs.Numbers.{number_at_column}
use Rattle.table_kernel.proofs.AtBasis.{kernel_basis}
use Rattle.table_kernel.proofs.Columns.{common_small}
use Rattle.table_kernel.proofs.Lines.{common_read, entering_is, factors_told, keeps_entering, keeps_self, limit_kept, limit_passed, numbers_large, reduced_line, reduced_stands, row_form_is}
use Rattle.table_kernel.proofs.kernel.Kernel.put_row_line.Goals as goal
use Rattle.table_kernel.proofs.kernel.Kernel.put_row_line.Goals.{After-factor_sum, After-index-2, After-reduce}

pub factor_sum-requires-clause-count : goal.factor_sum-requires-clause-count
factor_sum-requires-clause-count c =
    let k = c.args.self.now in
    let few : length c.index.result.now.coefficients ≡ width_of k =
    subst (λ (f : Form). length f.coefficients ≡ width_of k) (sym c.index.ensures)
    ((kernel_basis k c.requires.kernel).0.counts c.args.row c.index.result.now c.requires.row) in
    omega (arith, few)

pub factor_sum-requires-clause-light : goal.factor_sum-requires-clause-light
factor_sum-requires-clause-light c =
    subst (λ (f : Form). weight_of f ≤ 2 ^ 16) (sym c.index.ensures) (c.requires.kernel.bounded.rows c.args.row c.index.result.now c.requires.row)

-- the factors of the row
sum_is : (c : After-factor_sum) →
    nat_abs c.factor_sum.result
    ≡ factors_of (nat_abs c.args.self.now.common) (slice_index_or c.args.self.now.table.rows.items c.args.row no_form).coefficients c.args.self.now.lows.items
sum_is c =
    let k = c.args.self.now in
    (factors_told c.factor_sum.result _ c.factor_sum.ensures.sum c.factor_sum.ensures.size).2
    ∙ ap (λ (f : Form). factors_of (nat_abs k.common) f.coefficients k.lows.items)
    (c.index.ensures ∙ get_or_default k.table.rows.items c.args.row c.index.result.now no_form c.requires.row)

pub put_row_numbers-requires-clause-factors : goal.put_row_numbers-requires-clause-factors
put_row_numbers-requires-clause-factors c =
    let w = factors_told c.factor_sum.result _ c.factor_sum.ensures.sum c.factor_sum.ensures.size in
    let most = limit_kept (2 ^ 32) c.factor_sum.result w.0 w.1 c.if-factor_sum-gt-FACTOR_LIMIT.false in
    subst (λ (n : ℕ). n ≤ 2 ^ 32) (sum_is (goal.at.put_row_numbers-requires-clause-factors c).After-factor_sum)
    (size_of c.factor_sum.result (2 ^ 32) (w.0, most))

pub index-requires-2 : goal.index-requires-2
index-requires-2 c =
    let k = c.args.self.now in
    omega (
      arith,
      c.requires.place,
      c.requires.row,
      c.requires.kernel.shaped.constants,
      members_long k.table.costs (length k.table.rows.items),
      ap (λ v. vec_len v) c.put_row_numbers.ensures.keeps.constants,
      k.constants.ok.0,
    )

-- the constant of the place
constant_is : (c : After-index-2) →
    (read c.index-2.result.now ≡ number_at c.args.self.now.constants.items c.args.place) × (nat_abs (read c.index-2.result.now) ≤ 2 ^ 62)
constant_is c =
    let k = c.args.self.now in
    let z = c.index-2.result.now in
    let inside : c.args.place < length k.constants.items =
    omega (arith, c.requires.place, c.requires.row, c.requires.kernel.shaped.constants, members_long k.table.costs (length k.table.rows.items)) in
    let is : z ≡ slice_index_or k.constants.items c.args.place z =
    c.index-2.ensures ∙ ap (λ v. slice_index_or v.items c.args.place z) c.put_row_numbers.ensures.keeps.constants in
    let small : nat_abs z ≤ 2 ^ 62 = subst (λ (y : ℤ). nat_abs y ≤ 2 ^ 62) (sym is) (c.requires.kernel.bounded.constants c.args.place z inside) in
    let same = read_number z (omega (arith, small)) in
    (same ∙ is ∙ get_or_default k.constants.items c.args.place z (pos 0) inside, omega (arith, ap nat_abs same, small))

pub reduce-requires : goal.reduce-requires
reduce-requires c =
    let k = c.args.self.now in
    let b = c.requires.kernel.bounded in
    let common = ap read c.put_row_numbers.ensures.keeps.common ∙ common_read k b in
    record {
      positive = subst (λ (z : ℤ). pos 0 <ℤ z) (sym common) b.positive;
      denominator = omega (arith, common_small k b, ap nat_abs common);
      constant = (constant_is (goal.at.reduce-requires c).After-index-2).1;
      numbers = c.put_row_numbers.ensures.sizes;
    }

-- the reduced line stands for the place
reduced : (c : After-reduce) → read c.index-2.result.now ≡ number_at c.args.self.now.constants.items c.args.place →
    StandsForPlace c.args.self.now c.args.place c.reduce.new.self
reduced c constant =
    let k = c.args.self.now in
    let p = c.put_row_numbers.ensures in
    reduced_stands k c.args.place c.reduce.ensures.lowered.part _ c.reduce.new.self c.reduce.ensures.lowered.reduced
    (ap read p.keeps.common ∙ common_read k c.requires.kernel.bounded) c.reduce.ensures.lowered.positive
    constant p.count
    (λ i i_in. p.numbers i i_in
    ∙ ap (λ (f : Form). number_at_column f (column_of k i)) (sym (row_form_is k c.args.place c.args.row c.requires.row c.requires.place)))

-- its reach is small
reach_small : (c : After-reduce) → nat_abs c.reduce.new.self.reach < 2 ^ 63
reach_small c =
    let most = c.reduce.ensures.least (2 ^ 62) c.put_row_numbers.ensures.sizes in
    omega (arith, most)

pub returns-clause-line : goal.returns-clause-line
returns-clause-line c =
    let k = c.args.self.now in
    let p = c.put_row_numbers.ensures in
    let b = c.requires.kernel.bounded in
    let r = (goal.at.returns-clause-line c).After-reduce in
    entering_is k _ c.args.place (keeps_entering k c.put_row_numbers.new.self c.reduce.new.self p.keeps c.reduce.ensures.lowered.reduced.count)
    (reduced r (constant_is (goal.at.returns-clause-line c).After-index-2).0)
    (reduced_line k c.args.place c.reduce.ensures.lowered.part _ c.reduce.new.self c.reduce.ensures.lowered.reduced
    (ap read p.keeps.common ∙ common_read k b) b c.reduce.ensures.lowered.positive c.reduce.ensures.lowered.reach_positive
    (limit_kept (2 ^ 30) c.reduce.new.self.reach c.reduce.ensures.lowered.reach_positive (reach_small r) c.if-self-gt-ENTRY_LIMIT.false)
    c.reduce.ensures.lowered.within)

pub returns-clause-keeps : goal.returns-clause-keeps
returns-clause-keeps c =
    keeps_entering c.args.self.now c.put_row_numbers.new.self c.reduce.new.self c.put_row_numbers.ensures.keeps c.reduce.ensures.lowered.reduced.count

pub returns-then-factor_sum-gt-FACTOR_LIMIT-clause-large : goal.returns-then-factor_sum-gt-FACTOR_LIMIT-clause-large
returns-then-factor_sum-gt-FACTOR_LIMIT-clause-large c =
    let k = c.args.self.now in
    let w = factors_told c.factor_sum.result _ c.factor_sum.ensures.sum c.factor_sum.ensures.size in
    let large = limit_passed (2 ^ 32) c.factor_sum.result w.0 w.1 c.if-factor_sum-gt-FACTOR_LIMIT.true in
    factors_pass (subst (λ (n : ℕ). 2 ^ 32 < n) (sum_is (goal.at.returns-then-factor_sum-gt-FACTOR_LIMIT-clause-large c).After-factor_sum
    ∙ ap (λ (f : Form). factors_of (nat_abs k.common) f.coefficients k.lows.items)
    (sym (row_form_is k c.args.place c.args.row c.requires.row c.requires.place))) large)

pub returns-then-self-gt-ENTRY_LIMIT-clause-large : goal.returns-then-self-gt-ENTRY_LIMIT-clause-large
returns-then-self-gt-ENTRY_LIMIT-clause-large c =
    let k = c.args.self.now in
    let r = (goal.at.returns-then-self-gt-ENTRY_LIMIT-clause-large c).After-reduce in
    let large = limit_passed (2 ^ 30) c.reduce.new.self.reach c.reduce.ensures.lowered.reach_positive (reach_small r) c.if-self-gt-ENTRY_LIMIT.true in
    numbers_large k _ c.args.place c.reduce.new.self
    (keeps_entering k c.put_row_numbers.new.self c.reduce.new.self c.put_row_numbers.ensures.keeps c.reduce.ensures.lowered.reduced.count)
    (reduced r (constant_is (goal.at.returns-then-self-gt-ENTRY_LIMIT-clause-large c).After-index-2).0)
    c.reduce.ensures.lowered.lowest
    (λ within. let least = c.reduce.ensures.reached (2 ^ 30) within in absurd (omega (arith, least, large)))

pub returns-then-self-gt-ENTRY_LIMIT-clause-keeps : goal.returns-then-self-gt-ENTRY_LIMIT-clause-keeps
returns-then-self-gt-ENTRY_LIMIT-clause-keeps c =
    keeps_entering c.args.self.now c.put_row_numbers.new.self c.reduce.new.self c.put_row_numbers.ensures.keeps c.reduce.ensures.lowered.reduced.count

pub returns-then-factor_sum-gt-FACTOR_LIMIT-clause-keeps : goal.returns-then-factor_sum-gt-FACTOR_LIMIT-clause-keeps
returns-then-factor_sum-gt-FACTOR_LIMIT-clause-keeps c = keeps_self c.args.self.now
