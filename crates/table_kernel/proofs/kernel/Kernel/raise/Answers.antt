-- The line is put down and a column chosen, which only takes room; then the pivot lets the rank rise, or the line is
-- stuck.
use Rattle.std.proofs.Common.{subst, inl, inr, ◌<◌}
use Rattle.std.specs.Prelude.{None, Some}
use Rattle.fraction_table.specs.declared.table.Table.{Table}
use Rattle.fraction_table.specs.Ranks.{rank}
use Rattle.table_kernel.specs.Kernels.{stated}
use Rattle.table_kernel.proofs.Refusals.{below_kept, best_kept, entering_kept, in_kept, on_err, refused_at}
use Rattle.table_kernel.proofs.SameButRoom.{keeps_kernel, keeps_twice, same_stated}
use Rattle.table_kernel.proofs.Settling.{line_in, line_refuting, none_positive, pivot_place_below, pivot_place_in}
use Rattle.table_kernel.proofs.kernel.Kernel.raise.Goals as goal

pub put_line-requires-clause-place : goal.put_line-requires-clause-place
put_line-requires-clause-place c = pivot_place_in c.args.self.now c.requires.kernel c.args.place c.requires.due

pub returns-in_err-put_line-clause-kernel : goal.returns-in_err-put_line-clause-kernel
returns-in_err-put_line-clause-kernel c = keeps_kernel c.args.self.now c.put_line.new.self c.in_err-put_line.ensures.keeps c.requires.kernel

pub returns-in_err-put_line-clause-refused : goal.returns-in_err-put_line-clause-refused
returns-in_err-put_line-clause-refused c = on_err c.from_residual.result (inl c.in_err-put_line.ensures.large)

pub choose-requires-clause-kernel : goal.choose-requires-clause-kernel
choose-requires-clause-kernel c = keeps_kernel c.args.self.now c.put_line.new.self c.in_ok-put_line.ensures.keeps c.requires.kernel

pub pivot-requires : goal.pivot-requires
pivot-requires c =
    let old = c.args.self.now in
    let new = c.choose.new.self in
    let both = keeps_twice old c.put_line.new.self new c.in_ok-put_line.ensures.keeps c.choose.ensures.keeps in
    record {
      kernel = keeps_kernel old new both c.requires.kernel;
      place_in = in_kept old new c.args.place both (pivot_place_in old c.requires.kernel c.args.place c.requires.due);
      below = below_kept old new c.args.place both (pivot_place_below old c.args.place c.requires.due);
      entering = entering_kept c.put_line.new.self new c.args.place c.choose.ensures.keeps c.choose.ensures.entering c.in_ok-put_line.ensures.line;
      best = best_kept c.put_line.new.self new (Some c.in-Some.column) c.choose.ensures.keeps c.choose.ensures.entering c.in-Some.ensures.best;
    }

pub returns-in_err-pivot-in-Some-clause-same : goal.returns-in_err-pivot-in-Some-clause-same
returns-in_err-pivot-in-Some-clause-same c =
    on_err c.from_residual-in_err-pivot-in-Some.result
    (keeps_twice c.args.self.now c.choose.new.self c.pivot.new.self
    (keeps_twice c.args.self.now c.put_line.new.self c.choose.new.self c.in_ok-put_line.ensures.keeps c.choose.ensures.keeps)
    c.in_err-pivot-in-Some.ensures.same)

pub returns-in_err-pivot-in-Some-clause-refused : goal.returns-in_err-pivot-in-Some-clause-refused
returns-in_err-pivot-in-Some-clause-refused c =
    let e = c.in_err-pivot-in-Some.ensures in
    on_err c.from_residual-in_err-pivot-in-Some.result
    (inr (refused_at c.choose.new.self c.pivot.new.self c.args.place c.in-Some.column e.same e.entering_stays
    (entering_kept c.put_line.new.self c.choose.new.self c.args.place c.choose.ensures.keeps c.choose.ensures.entering c.in_ok-put_line.ensures.line)
    (best_kept c.put_line.new.self c.choose.new.self (Some c.in-Some.column) c.choose.ensures.keeps c.choose.ensures.entering c.in-Some.ensures.best)
    e.refused))

pub returns-in-None-clause-kernel : goal.returns-in-None-clause-kernel
returns-in-None-clause-kernel c =
    keeps_kernel c.args.self.now c.choose.new.self
    (keeps_twice c.args.self.now c.put_line.new.self c.choose.new.self c.in_ok-put_line.ensures.keeps
    c.choose.ensures.keeps) c.requires.kernel

pub returns-in-None-clause-ahead : goal.returns-in-None-clause-ahead
returns-in-None-clause-ahead c =
    let old = c.args.self.now in
    let new = c.choose.new.self in
    let both = keeps_twice old c.put_line.new.self new c.in_ok-put_line.ensures.keeps c.choose.ensures.keeps in
    let kernel = keeps_kernel old new both c.requires.kernel in
    let place_in = in_kept old new c.args.place both (pivot_place_in old c.requires.kernel c.args.place c.requires.due) in
    let below = below_kept old new c.args.place both (pivot_place_below old c.args.place c.requires.due) in
    let entering = entering_kept c.put_line.new.self new c.args.place c.choose.ensures.keeps c.choose.ensures.entering c.in_ok-put_line.ensures.line in
    let best = best_kept c.put_line.new.self new None c.choose.ensures.keeps c.choose.ensures.entering c.in-None.ensures.best in (
      line_in new kernel c.args.place place_in,
      line_refuting new kernel c.args.place place_in below (none_positive new c.args.place kernel.bounded entering best),
    )

pub returns-in_ok-pivot-in-Some-clause-ahead : goal.returns-in_ok-pivot-in-Some-clause-ahead
returns-in_ok-pivot-in-Some-clause-ahead c =
    let both = keeps_twice c.args.self.now c.put_line.new.self c.choose.new.self c.in_ok-put_line.ensures.keeps c.choose.ensures.keeps in
    subst (λ (t : Table). rank t < rank (stated c.pivot.new.self)) (same_stated c.args.self.now c.choose.new.self both) c.in_ok-pivot-in-Some.ensures.rises
