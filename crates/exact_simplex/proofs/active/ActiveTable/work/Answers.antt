-- The kernel gets as far as its bounds cover, and the table in fractions goes on from there.
use Rattle.std.proofs.Common.{◌≤◌, subst, sym, ◌∙◌}
use Rattle.fraction_table.specs.Ranks.{rank}
use Rattle.exact_simplex.specs.declared.active.ActiveTable.{ActiveTable}
use Rattle.exact_simplex.specs.Actives.{table_of}
use Rattle.exact_simplex.proofs.Actives.{clash, was_held_up}
use Rattle.exact_simplex.proofs.Rounds.{ahead_after, risen_beside, risen_left, shown_by_kernel}
use Rattle.exact_simplex.proofs.active.ActiveTable.work.Goals.{then-self+in-Err, else-self}
use Rattle.exact_simplex.proofs.active.ActiveTable.work.Goals as goal

pub settle-requires : goal.settle-requires
settle-requires c = record { kernel = c.requires.active.kernel c.if-self.true }

pub returns-in-Ok-clause-ahead : goal.returns-in-Ok-clause-ahead
returns-in-Ok-clause-ahead c =
    shown_by_kernel c.args.self.now.in_kernel c.settle.new.self c.in-Ok.solved c.if-self.true c.in-Ok.ensures.kernel c.in-Ok.ensures.shown

pub returns-clause-left : goal.returns-clause-left
returns-clause-left c was_in is_out =
    elim c.if-self.branch [
      | then-self+in-Err w ↦ was_held_up c.args.self.now.kernel w.settle.new.self w.settle.result _ w.in-Err.is
          w.settle.ensures.kernel w.settle.ensures.keeps w.settle.ensures.held_up
      | else-self w ↦ absurd (clash (sym w.if-self.false ∙ was_in))
    ]

-- the rank didn't fall until the table was put down in fractions
pub returns-clause-ahead : goal.returns-clause-ahead
returns-clause-ahead c =
    let old = c.args.self.now in
    let a = c.if-self.self in
    let risen : rank (table_of old) ≤ rank a.kernel.table = elim c.if-self.branch [
      | then-self+in-Err w ↦ subst (λ (b : ActiveTable). rank (table_of old) ≤ rank b.kernel.table) (sym w.self-is)
          (risen_left old w.settle.new.self w.leave_kernel.new.self.kernel.table w.if-self.true w.in-Err.ensures.kernel w.in-Err.ensures.risen
          w.leave_kernel.ensures.keeps w.leave_kernel.ensures.lines)
      | else-self w ↦ subst (λ (b : ActiveTable). rank (table_of old) ≤ rank b.kernel.table) (sym w.self-is) (risen_beside old w.if-self.false)
    ] in
    ahead_after (table_of old) a.kernel.table (table_of c.advance.new.self) c.advance.result risen c.advance.ensures.ahead
