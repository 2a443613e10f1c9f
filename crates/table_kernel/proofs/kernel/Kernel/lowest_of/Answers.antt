-- What is told of the line as it is read is told of the variable's.
use Rattle.table_kernel.proofs.TurnArgs.{at_pivot, line_read, lowest_is, turn_is_at}
use Rattle.table_kernel.proofs.kernel.Kernel.lowest_of.Goals as goal

pub turn_at-requires : goal.turn_at-requires
turn_at-requires c = record { ready = c.requires.ready }

pub lowest_after-requires-clause-pivot : goal.lowest_after-requires-clause-pivot
lowest_after-requires-clause-pivot c =
    let k = c.args.self.now in
    let r = c.requires.ready in
    at_pivot k c.args.column c.args.var c.index.result.now r (line_read k c.args.var c.index.result.now r.among c.index.ensures)

pub lowest_after-requires-clause-turn : goal.lowest_after-requires-clause-turn
lowest_after-requires-clause-turn c =
    let k = c.args.self.now in
    turn_is_at k c.args.column c.args.var c.index.result.now c.turn_at.result
    (line_read k c.args.var c.index.result.now c.requires.ready.among c.index.ensures) c.turn_at.ensures.turn

pub returns-clause-lowest : goal.returns-clause-lowest
returns-clause-lowest c =
    let k = c.args.self.now in
    lowest_is k c.args.column c.args.var c.index.result.now c.turn_at.result c.lowest_after.result
    (line_read k c.args.var c.index.result.now c.requires.ready.among c.index.ensures) c.turn_at.ensures.turn c.lowest_after.ensures.lowest

pub returns-clause-size : goal.returns-clause-size
returns-clause-size c = c.lowest_after.ensures.size
