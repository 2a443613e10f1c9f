-- Those that stay are the least of those that were left.
use Rattle.std.proofs.Common.{◌^◌, sym, ap, subst, List, length, arith}
use Rattle.std.specs.Prelude.{ℤ}
use Rattle.integer_pivots.specs.Choices.{AreLeast, IsPositiveAt}
use Rattle.integer_pivots.specs.Lines.{rows_of}
use Rattle.integer_pivots.specs.Numbers.{AllWithin}
use Rattle.integer_pivots.proofs.LineReads.{numbers_small}
use Rattle.table_kernel.proofs.LeftColumns.{one_more, row_long, row_read, row_small, rows_counted}
use Rattle.table_kernel.proofs.kernel.Kernel.look_at.Goals as goal

pub keep_least-requires-clause-positive : goal.keep_least-requires-clause-positive
keep_least-requires-clause-positive c = λ d has. subst (λ (line : List ℤ). IsPositiveAt line d) (sym c.as_slice-2.ensures) (c.requires.left.columns.each d has)

pub keep_least-requires-clause-long : goal.keep_least-requires-clause-long
keep_least-requires-clause-long c =
    let k = c.args.self.now in
    let is = row_read k c.args.var c.index.result.now c.as_slice.result.now c.requires.var c.index.ensures c.as_slice.ensures in
    omega (arith, ap length is, ap length c.as_slice-2.ensures, row_long k c.args.var c.requires.kernel.shaped c.requires.var)

pub keep_least-requires-clause-small : goal.keep_least-requires-clause-small
keep_least-requires-clause-small c =
    let k = c.args.self.now in
    let is = row_read k c.args.var c.index.result.now c.as_slice.result.now c.requires.var c.index.ensures c.as_slice.ensures in
    subst (AllWithin (2 ^ 30)) (sym is) (row_small k c.args.var c.requires.kernel.bounded c.requires.var)

pub keep_least-requires-clause-line : goal.keep_least-requires-clause-line
keep_least-requires-clause-line c = subst (AllWithin (2 ^ 30)) (sym c.as_slice-2.ensures) (numbers_small c.args.self.now.entering c.requires.line)

pub returns-clause-left : goal.returns-clause-left
returns-clause-left c =
    let k = c.args.self.now in
    let left = k.left.items in
    let new = c.keep_least.new.left.items in
    let is = row_read k c.args.var c.index.result.now c.as_slice.result.now c.requires.var c.index.ensures c.as_slice.ensures in
    record {
      some = c.keep_least.ensures.some;
      columns = one_more (rows_of k.lows.items) k.entering.numbers c.args.var left new (rows_counted k c.args.var c.requires.var)
          c.requires.left.columns
          (subst (λ (ns : List ℤ). AreLeast ns k.entering.numbers left new) is
          (subst (λ (line : List ℤ). AreLeast c.as_slice.result.now line left new) c.as_slice-2.ensures c.keep_least.ensures.least));
    }
