-- A line without a factor stays as it is.
use Rattle.std.proofs.Common.{refl}
use Rattle.table_kernel.specs.Turns.{line_of}
use Rattle.table_kernel.proofs.StayingWithin.{small_here}
use Rattle.table_kernel.proofs.TurnArgs.{no_factor}
use Rattle.table_kernel.proofs.kernel.Kernel.line_stays_small.Goals as goal

pub returns-then-turn-eq0 : goal.returns-then-turn-eq0
returns-then-turn-eq0 c =
    let k = c.args.self.now in
    let e = c.turn_at-turn.ensures in
    let none = no_factor k c.args.column c.args.var c.turn_at-turn.result e.turn e.factor c.if-turn-eq0.true in (
      λ holds. small_here k.entering (line_of k c.args.var) c.args.column none c.requires.ready.line c.requires.ready.pivot,
      λ small. refl,
    )
