-- Where the multiplier is 1 the common denominator is a multiple as it is.
use Rattle.std.proofs.Common.{◌^◌, ◌≤◌, sym, ap, subst, ◌∙◌, arith}
use Rattle.std.specs.Prelude.{ℤ, pos, ◌<ℤ◌, ◌≤ℤ◌, nat_abs}
use Rattle.integer_pivots.specs.declared.turned_line.Turn.{Turn}
use Rattle.integer_pivots.proofs.Sizes.{read, read_known, size_most}
use Rattle.table_kernel.specs.Turns.{line_of, turn_of_line}
use Rattle.table_kernel.proofs.CommonSteps.{lcm_read, multiple_of}
use Rattle.table_kernel.proofs.Lines.{read_common}
use Rattle.table_kernel.proofs.TurnArgs.{after_read, bits_one, denominator_range, line_read, range_read}
use Rattle.table_kernel.proofs.kernel.Kernel.common_with.Goals as goal

pub turn_at-multiplier-requires : goal.turn_at-multiplier-requires
turn_at-multiplier-requires c = record { ready = c.requires.ready }

pub denominator_times-requires-clause-denominator : goal.denominator_times-requires-clause-denominator
denominator_times-requires-clause-denominator c =
    let k = c.args.self.now in
    let r = c.requires.ready in
    denominator_range k c.args.column c.args.var c.index.result.now r (line_read k c.args.var c.index.result.now r.among c.index.ensures)

pub denominator_times-requires-clause-multiplier : goal.denominator_times-requires-clause-multiplier
denominator_times-requires-clause-multiplier c = range_read c.turn_at-multiplier.result.multiplier c.turn_at-multiplier.ensures.multiplier

pub common_multiple-requires-clause-first : goal.common_multiple-requires-clause-first
common_multiple-requires-clause-first c = range_read c.args.common c.requires.common

pub common_multiple-requires-clause-second : goal.common_multiple-requires-clause-second
common_multiple-requires-clause-second c =
    subst (λ (z : ℤ). (pos 0 <ℤ z) × (z ≤ℤ pos (2 ^ 60))) (sym (read_known c.denominator_times.result c.denominator_times.type_inv))
    c.denominator_times.ensures.range

pub returns : goal.returns
returns c =
    let k = c.args.self.now in
    let r = c.requires.ready in
    let e = c.turn_at-multiplier.ensures in
    multiple_of _ (nat_abs (read c.args.common)) (nat_abs (read c.denominator_times.result)) _ _ (ap nat_abs (read_common c.args.common c.requires.common))
    (ap nat_abs (read_known c.denominator_times.result c.denominator_times.type_inv)
    ∙ c.denominator_times.ensures.product
    ∙ after_read k c.args.column c.args.var c.index.result.now c.turn_at-multiplier.result r
    (line_read k c.args.var c.index.result.now r.among c.index.ensures) e.turn e.multiplier)
    c.common_multiple.ensures

pub returns-then-multiplier-eq1 : goal.returns-then-multiplier-eq1
returns-then-multiplier-eq1 c =
    let k = c.args.self.now in
    let turn = c.turn_at-multiplier.result in
    let small : nat_abs turn.multiplier ≤ 2 ^ 30 = size_most turn.multiplier (2 ^ 30) c.turn_at-multiplier.ensures.multiplier.0
    c.turn_at-multiplier.ensures.multiplier.1 in
    let one = bits_one turn.multiplier (omega (arith, small)) c.if-multiplier-eq1.true in
    lcm_read c.args.common (nat_abs (line_of k c.args.var).denominator) (turn_of_line k c.args.column c.args.var).multiplier
    c.requires.common c.requires.divides (sym (ap (λ (t : Turn). t.multiplier) c.turn_at-multiplier.ensures.turn) ∙ one)
