-- One turn more is put.
use Rattle.std.proofs.Common.{Vec, ◌≡◌, ◌<◌, ◌≤◌, ◌^◌, ◌∙◌, refl, ap, subst, sym, length, arith}
use Rattle.std.specs.declared.alloc.Global.{Global}
use Rattle.std.specs.Prelude.{nat_abs, vec_len}
use Rattle.integer_pivots.specs.declared.line.Line.{Line}
use Rattle.whole_numbers.specs.Lists.{number_at}
use Rattle.integer_pivots.specs.Turns.{turn_by}
use Rattle.integer_pivots.proofs.Sizes.{read}
use Rattle.table_kernel.specs.declared.kernel.Kernel.{Kernel}
use Rattle.table_kernel.proofs.HeldTurns.{AreRead, AreTurnsBefore, all_put, are_read, lows_same, none_put, one_put, turn_made, turns_alone}
use Rattle.table_kernel.proofs.kernel.Kernel.put_turns.Goals.{After-index}
use Rattle.table_kernel.proofs.kernel.Kernel.put_turns.Goals as goal

-- what is read of a line and of the entering one
read_at : (c : After-index) →
    AreRead c.args.self.now c.args.column c.loop-var.var c.index.result.now.numbers c.as_slice.result.now
read_at c =
    let k = c.args.self.now in
    let r = c.requires in
    let v_in : c.loop-var.var < length k.lows.items = omega (arith, c.loop-var-test.true, c.len-var-end.ensures, k.lows.ok.0) in
    are_read k c.loop-var.self c.args.column c.loop-var.var c.index.result.now c.index.result.now.numbers c.as_slice.result.now
    r.kernel r.inside r.entering r.pivot (lows_same k c.loop-var.self c.args.column c.loop-var.var c.loop-var.invariant) v_in
    c.index.ensures refl c.as_slice.ensures

pub loop-var-init : goal.loop-var-init
loop-var-init c = none_put c.args.self.now c.args.column

pub index-requires : goal.index-requires
index-requires c =
    let lows = lows_same c.args.self.now c.loop-var.self c.args.column c.loop-var.var c.loop-var.invariant in
    subst (λ (ls : Vec Line Global). c.loop-var.var < vec_len ls) (sym lows) (omega (arith, c.loop-var-test.true, c.len-var-end.ensures))

pub at-requires : goal.at-requires
at-requires c = (read_at (goal.at.at-requires c).After-index).inside

pub turn_of-requires-clause-number : goal.turn_of-requires-clause-number
turn_of-requires-clause-number c =
    subst (λ z. nat_abs (read z) ≤ 2 ^ 30) (sym c.at.ensures) (read_at (goal.at.turn_of-requires-clause-number c).After-index).small

pub turn_of-requires-clause-pivot : goal.turn_of-requires-clause-pivot
turn_of-requires-clause-pivot c = (read_at (goal.at.turn_of-requires-clause-pivot c).After-index).range

pub index_mut-requires : goal.index_mut-requires
index_mut-requires c =
    let k = c.args.self.now in
    let s = c.requires.kernel.shaped in
    omega (arith, c.loop-var-test.true, c.len-var-end.ensures, k.lows.ok.0, c.loop-var.self.turns.ok.0, c.loop-var.invariant.count, s.turns, s.lows)

pub loop-var-preserved : goal.loop-var-preserved
loop-var-preserved c =
    let k = c.args.self.now in
    let s = c.requires.kernel.shaped in
    one_put k c.loop-var.self c.args.column c.loop-var.var c.turn_of.result c.loop-var.invariant
    (omega (arith, c.loop-var-test.true, c.len-var-end.ensures, k.lows.ok.0, s.turns, s.lows))
    (turn_made k c.args.column c.loop-var.var c.index.result.now.numbers c.as_slice.result.now c.turn_of.result
    (read_at (goal.at.loop-var-preserved c).After-index)
    (c.turn_of.ensures.turn ∙ ap (λ z. turn_by (read z) (read (number_at c.as_slice.result.now c.args.column))) c.at.ensures))

pub returns-clause-turns : goal.returns-clause-turns
returns-clause-turns c =
    let k = c.args.self.now in
    let all : c.loop-var.var ≡ length k.lows.items = omega (arith, c.loop-var-test.false, c.loop-var.auto.var-end, c.len-var-end.ensures, k.lows.ok.0) in
    all_put k c.loop-var.self c.args.column c.requires.kernel (subst (AreTurnsBefore k c.loop-var.self c.args.column) all c.loop-var.invariant)

pub returns-clause-left : goal.returns-clause-left
returns-clause-left c = ap (λ (k : Kernel). k.left) c.loop-var.invariant.same

pub returns-clause-entering : goal.returns-clause-entering
returns-clause-entering c = ap (λ (k : Kernel). k.entering) c.loop-var.invariant.same

pub returns-clause-keeps : goal.returns-clause-keeps
returns-clause-keeps c = turns_alone c.args.self.now c.loop-var.self c.args.column c.loop-var.var c.loop-var.invariant
