-- The rank rises with each round, and why the kernel was left in one is why it was left in all.
use Rattle.std.proofs.Common.{subst}
use Rattle.fraction_table.specs.Pivots.{IsAhead}
use Rattle.fraction_table.proofs.Ranks.{nearer}
use Rattle.exact_simplex.specs.Actives.{table_of}
use Rattle.exact_simplex.proofs.Rounds.{forms_between, keeps_both, left_then}
use Rattle.exact_simplex.proofs.active.ActiveTable.settle.Goals as goal

pub returns-in_err-solved-clause-left : goal.returns-in_err-solved-clause-left
returns-in_err-solved-clause-left c was_in =
    let i = c.rounds.invariant in
    left_then c.rounds.self.in_kernel c.args.self.now.kernel.table c.rounds.self.kernel.table c.work.new.self.in_kernel i.keeps (i.left was_in)
    c.in_err-solved.ensures.left

pub returns-in-Some-clause-left : goal.returns-in-Some-clause-left
returns-in-Some-clause-left c was_in =
    let i = c.rounds.invariant in
    left_then c.rounds.self.in_kernel c.args.self.now.kernel.table c.rounds.self.kernel.table c.work.new.self.in_kernel i.keeps (i.left was_in)
    c.in_ok-solved.ensures.left

pub rounds-smaller : goal.rounds-smaller
rounds-smaller c =
    let old = c.rounds.self in
    let new = c.work.new.self in
    nearer (table_of old) (table_of new) c.in_ok-solved.ensures.active.tableau (forms_between old new c.in_ok-solved.ensures.keeps)
    (subst (IsAhead (table_of old) (table_of new)) c.in_default.is c.in_ok-solved.ensures.ahead)

pub rounds-preserved : goal.rounds-preserved
rounds-preserved c =
    let i = c.rounds.invariant in
    let told = c.in_ok-solved.ensures in
    record {
      active = told.active;
      keeps = keeps_both c.args.self.now.kernel.table c.rounds.self.kernel.table c.work.new.self.kernel.table i.keeps told.keeps;
      left = λ was_in. left_then c.rounds.self.in_kernel c.args.self.now.kernel.table c.rounds.self.kernel.table c.work.new.self.in_kernel i.keeps
          (i.left was_in) told.left;
    }
