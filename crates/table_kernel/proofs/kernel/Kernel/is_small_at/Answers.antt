-- What is told of the line as it is read is told of the variable's.
use Rattle.std.proofs.Common.{◌↔◌, subst}
use Rattle.std.specs.Prelude.{IsTrue}
use Rattle.integer_pivots.specs.declared.line.Line.{Line}
use Rattle.integer_pivots.specs.declared.turned_line.Turn.{Turn}
use Rattle.integer_pivots.specs.Turns.{AreSmallAfter}
use Rattle.table_kernel.specs.Turns.{line_of}
use Rattle.table_kernel.proofs.TurnArgs.{at_pivot, line_read, lowest_there, turn_is_at}
use Rattle.table_kernel.proofs.kernel.Kernel.is_small_at.Goals as goal

pub turn_at-turn-requires : goal.turn_at-turn-requires
turn_at-turn-requires c = record { ready = c.requires.ready }

pub is_small_at-requires-clause-pivot : goal.is_small_at-requires-clause-pivot
is_small_at-requires-clause-pivot c =
    let k = c.args.self.now in
    let r = c.requires.ready in
    at_pivot k c.args.column c.args.var c.index.result.now r (line_read k c.args.var c.index.result.now r.among c.index.ensures)

pub is_small_at-requires-clause-turn : goal.is_small_at-requires-clause-turn
is_small_at-requires-clause-turn c =
    let k = c.args.self.now in
    turn_is_at k c.args.column c.args.var c.index.result.now c.turn_at-turn.result
    (line_read k c.args.var c.index.result.now c.requires.ready.among c.index.ensures) c.turn_at-turn.ensures.turn

pub is_small_at-requires-clause-lowest : goal.is_small_at-requires-clause-lowest
is_small_at-requires-clause-lowest c =
    let k = c.args.self.now in
    lowest_there k c.args.column c.args.var c.index.result.now c.turn_at-turn.result c.args.lowest
    (line_read k c.args.var c.index.result.now c.requires.ready.among c.index.ensures) c.turn_at-turn.ensures.turn c.requires.lowest

pub returns : goal.returns
returns c =
    let k = c.args.self.now in
    subst (λ (t : Turn). IsTrue c.is_small_at.result ↔ AreSmallAfter t c.args.column k.entering (line_of k c.args.var) c.args.lowest.part)
    c.turn_at-turn.ensures.turn
    (subst (λ (l : Line). IsTrue c.is_small_at.result ↔ AreSmallAfter c.turn_at-turn.result c.args.column k.entering l c.args.lowest.part)
    (line_read k c.args.var c.index.result.now c.requires.ready.among c.index.ensures) c.is_small_at.ensures)
