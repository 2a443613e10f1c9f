-- The line has turned, or has no number at the column and stays.
use Rattle.std.proofs.Common.{ℕ, refl, sym, subst}
use Rattle.integer_pivots.specs.Turns.{AreNonZeros}
use Rattle.table_kernel.specs.Kernels.{width_of}
use Rattle.table_kernel.proofs.TurnArgs.{at_pivot, line_read, may_read, no_factor, some_factor, turn_is_at}
use Rattle.table_kernel.proofs.TurnedRows.{line_put, line_stays}
use Rattle.table_kernel.proofs.kernel.Kernel.turn_line.Goals as goal

pub turn_at-turn-requires : goal.turn_at-turn-requires
turn_at-turn-requires c = record { ready = c.requires.ready }

pub turn-requires-clause-pivot : goal.turn-requires-clause-pivot
turn-requires-clause-pivot c =
    let k = c.args.self.now in
    let r = c.requires.ready in
    at_pivot k c.args.column c.args.var c.index_mut.result.now r (line_read k c.args.var c.index_mut.result.now r.among c.index_mut.ensures.value)

pub turn-requires-clause-touched : goal.turn-requires-clause-touched
turn-requires-clause-touched c =
    let k = c.args.self.now in
    subst (λ (n : ℕ). AreNonZeros k.entering.numbers n c.as_slice.result.now) (sym c.requires.ready.long)
    (subst (AreNonZeros k.entering.numbers (width_of k)) (sym c.as_slice.ensures.value) c.requires.touched)

pub turn-requires-clause-turn : goal.turn-requires-clause-turn
turn-requires-clause-turn c =
    let k = c.args.self.now in
    turn_is_at k c.args.column c.args.var c.index_mut.result.now c.turn_at-turn.result
    (line_read k c.args.var c.index_mut.result.now c.requires.ready.among c.index_mut.ensures.value) c.turn_at-turn.ensures.turn

pub turn-requires-clause-may : goal.turn-requires-clause-may
turn-requires-clause-may c =
    let k = c.args.self.now in
    may_read k c.args.column c.args.var c.index_mut.result.now c.turn_at-turn.result
    (line_read k c.args.var c.index_mut.result.now c.requires.ready.among c.index_mut.ensures.value) c.turn_at-turn.ensures.turn c.requires.may

pub returns-then-turn-ne0-clause-keeps : goal.returns-then-turn-ne0-clause-keeps
returns-then-turn-ne0-clause-keeps c =
    record { table = refl; common = refl; leads = refl; constants = refl; uses = refl; turns = refl; left = refl; entering = refl }

pub returns-else-turn-ne0-clause-keeps : goal.returns-else-turn-ne0-clause-keeps
returns-else-turn-ne0-clause-keeps c =
    record { table = refl; common = refl; leads = refl; constants = refl; uses = refl; turns = refl; left = refl; entering = refl }

pub returns-then-turn-ne0-clause-turned : goal.returns-then-turn-ne0-clause-turned
returns-then-turn-ne0-clause-turned c =
    let k = c.args.self.now in
    line_put k _ c.args.column c.args.var c.index_mut.result.now c.turn.new.self c.turn_at-turn.result c.requires.ready.among refl
    (line_read k c.args.var c.index_mut.result.now c.requires.ready.among c.index_mut.ensures.value)
    c.turn_at-turn.ensures.turn c.turn.ensures.line c.turn.ensures.turned c.turn.ensures.divides
    (some_factor k c.args.column c.args.var c.turn_at-turn.result c.turn_at-turn.ensures.turn c.if-turn-ne0.true)

pub returns-else-turn-ne0-clause-turned : goal.returns-else-turn-ne0-clause-turned
returns-else-turn-ne0-clause-turned c =
    let e = c.turn_at-turn.ensures in
    line_stays c.args.self.now c.args.column c.args.var c.requires.ready
    (no_factor c.args.self.now c.args.column c.args.var c.turn_at-turn.result e.turn e.factor c.if-turn-ne0.false)
