-- The number times the share fits 128 bits.
use Rattle.std.proofs.Common.{◌≡◌, ◌^◌, ◌≤◌, ◌∙◌, sym, ap, subst, List, length, arith}
use Rattle.std.specs.Prelude.{ℤ, ◌*ℤ◌, nat_abs}
use Rattle.whole_numbers.specs.Lists.{number_at}
use Rattle.integer_pivots.specs.declared.line.Line.{Line}
use Rattle.integer_pivots.proofs.Sizes.{number_within, read_number}
use Rattle.integer_pivots.proofs.LineReads.{numbers_small}
use Rattle.table_kernel.specs.Lines.{column_of}
use Rattle.table_kernel.specs.Turns.{line_of}
use Rattle.table_kernel.proofs.AtBasis.{kernel_moves}
use Rattle.table_kernel.proofs.Columns.{column_at, column_within}
use Rattle.table_kernel.proofs.Lines.{IsLineRead, line_read, read_share, share_size}
use Rattle.table_kernel.proofs.WideNumbers.{read_of, wide_product_fits, wide_product_is}
use Rattle.table_kernel.proofs.kernel.Kernel.low_entry.Goals as goal
use Rattle.table_kernel.proofs.kernel.Kernel.low_entry.Goals.{After-as_slice, After-from-2}

line : (c : After-as_slice) → IsLineRead c.args.self.now c.args.var c.index.result.now
line c =
    let m = c.requires.kernel in
    line_read c.args.self.now m.shaped m.bounded c.args.var c.index.result.now c.requires.var c.index.ensures

pub bounds-as_slice-column : goal.bounds-as_slice-column
bounds-as_slice-column c =
    let l = line (goal.at.bounds-as_slice-column c).After-as_slice in
    omega (arith, ap length c.as_slice.ensures, l.long, c.requires.column)

pub share-requires-clause-kernel : goal.share-requires-clause-kernel
share-requires-clause-kernel c = kernel_moves c.args.self.now c.requires.kernel

-- the number, and the share
number_small : (c : After-as_slice) → nat_abs (number_at c.as_slice.result.now c.args.column) ≤ 2 ^ 30
number_small c =
    let l = line c in
    subst (λ (zs : List ℤ). nat_abs (number_at zs c.args.column) ≤ 2 ^ 30) (sym c.as_slice.ensures)
    (number_within (2 ^ 30) c.index.result.now.numbers c.args.column (numbers_small c.index.result.now l.small))

product : (c : After-from-2) → read_of (read_of c.from.result *ℤ read_of c.from-2.result) ≡ number_at (column_of c.args.self.now c.args.column) c.args.var
product c =
    let k = c.args.self.now in
    let z = number_at c.as_slice.result.now c.args.column in
    let s = c.share.result in
    let l = line_read k c.requires.kernel.shaped c.requires.kernel.bounded c.args.var c.index.result.now c.requires.var c.index.ensures in
    let small : nat_abs z ≤ 2 ^ 30 = subst (λ (zs : List ℤ). nat_abs (number_at zs c.args.column) ≤ 2 ^ 30) (sym c.as_slice.ensures)
    (number_within (2 ^ 30) c.index.result.now.numbers c.args.column (numbers_small c.index.result.now l.small)) in
    let share = share_size s c.share.ensures.positive c.share.ensures.size in
    wide_product_is c.from.result c.from-2.result z s
    (c.from.ensures ∙ read_number z (omega (arith, small)))
    (c.from-2.ensures ∙ read_share s c.share.ensures.positive c.share.ensures.size)
    (omega (arith, small)) (omega (arith, share))
    ∙ ap (λ (zs : List ℤ). number_at zs c.args.column *ℤ s) c.as_slice.ensures
    ∙ ap (λ (m : Line). number_at m.numbers c.args.column *ℤ s) l.is
    ∙ ap (λ (y : ℤ). number_at (line_of k c.args.var).numbers c.args.column *ℤ y) c.share.ensures.share
    ∙ sym (column_at k c.requires.kernel.shaped c.args.column c.args.var c.requires.var)

pub overflow_mul-result : goal.overflow_mul-result
overflow_mul-result c =
    let z = number_at c.as_slice.result.now c.args.column in
    let small = number_small (goal.at.overflow_mul-result c).After-as_slice in
    let share = share_size c.share.result c.share.ensures.positive c.share.ensures.size in
    wide_product_fits c.from.result c.from-2.result z c.share.result
    (c.from.ensures ∙ read_number z (omega (arith, small)))
    (c.from-2.ensures ∙ read_share c.share.result c.share.ensures.positive c.share.ensures.size)
    (omega (arith, small)) (omega (arith, share))

pub returns-clause-number : goal.returns-clause-number
returns-clause-number c = product (goal.at.returns-clause-number c).After-from-2

pub returns-clause-size : goal.returns-clause-size
returns-clause-size c =
    let k = c.args.self.now in
    subst (λ (z : ℤ). nat_abs z ≤ 2 ^ 60) (sym (product (goal.at.returns-clause-size c).After-from-2))
    (number_within (2 ^ 60) (column_of k c.args.column) c.args.var (column_within k c.requires.kernel.bounded c.args.column))
