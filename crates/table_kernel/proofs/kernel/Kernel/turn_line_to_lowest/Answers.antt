-- The line has turned to what it comes to in lowest terms.
use Rattle.std.proofs.Common.{refl}
use Rattle.table_kernel.proofs.LowestRows.{line_put_to}
use Rattle.table_kernel.proofs.TurnArgs.{line_read}
use Rattle.table_kernel.proofs.kernel.Kernel.turn_line_to_lowest.Goals as goal

pub returns-clause-turned : goal.returns-clause-turned
returns-clause-turned c =
    let k = c.args.self.now in
    let e = c.turn_to.ensures in
    line_put_to k _ c.args.column c.args.var c.index_mut.result.now c.turn_to.new.self c.turn_at-turn.result c.lowest_of-lowest.result
    c.requires.ready.among refl (line_read k c.args.var c.index_mut.result.now c.requires.ready.among c.index_mut.ensures.value)
    c.turn_at-turn.ensures.turn e.line e.turned c.lowest_of-lowest.ensures.lowest e.denominator e.constant
