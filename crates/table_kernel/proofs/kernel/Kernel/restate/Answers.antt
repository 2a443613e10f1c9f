-- All lines are put.
use Rattle.std.specs.declared.alloc.Global.{Global}
use Rattle.std.proofs.Common.{Vec, ◌<◌, refl, sym, ap, subst, arith, length}
use Rattle.std.specs.Prelude.{ℤ, vec_capacity, vec_len}
use Rattle.integer_pivots.specs.declared.uses.Use.{Use}
use Rattle.integer_pivots.specs.Uses.{HaveRoom}
use Rattle.table_kernel.proofs.ParkedKernels.{kernel_parked}
use Rattle.table_kernel.proofs.Restated.{keeps_both, keeps_itself, restated_all, restated_next, restated_room, restated_whole, restating}
use Rattle.table_kernel.proofs.kernel.Kernel.restate.Goals as goal

pub loop-place-init : goal.loop-place-init
loop-place-init c = record { lines = refl; keeps = keeps_itself c.args.self.now }

pub restate_line-requires-clause-kernel : goal.restate_line-requires-clause-kernel
restate_line-requires-clause-kernel c =
    restating c.args.self.now c.loop-place.self c.loop-place.place c.requires.kernel
    c.loop-place.invariant.keeps c.loop-place.invariant.lines

pub restate_line-requires-clause-place : goal.restate_line-requires-clause-place
restate_line-requires-clause-place c =
    omega (
      arith,
      c.loop-place-test.true,
      c.len-place-end.ensures,
      c.args.self.now.constants.ok.0,
      ap (λ v. length v.items) c.loop-place.invariant.keeps.constants,
    )

pub loop-place-preserved : goal.loop-place-preserved
loop-place-preserved c =
    let t = c.args.self.now in
    record {
      lines = restated_next t c.loop-place.self c.loop-place.place c.restate_line.new.self.table.lines.items c.requires.kernel c.loop-place.invariant.keeps
          (omega (arith, c.loop-place-test.true, c.len-place-end.ensures, t.constants.ok.0)) c.loop-place.invariant.lines c.restate_line.ensures.lines;
      keeps = keeps_both t c.loop-place.self c.restate_line.new.self c.loop-place.invariant.keeps c.restate_line.ensures.keeps;
    }

pub returns-clause-lines : goal.returns-clause-lines
returns-clause-lines c =
    let t = c.args.self.now in
    restated_all t c.loop-place.place c.loop-place.self.table.lines.items c.requires.kernel
    (omega (arith, c.loop-place-test.false, c.loop-place.auto.place-end, c.len-place-end.ensures, t.constants.ok.0)) c.loop-place.invariant.lines

pub returns-clause-tableau : goal.returns-clause-tableau
returns-clause-tableau c =
    let t = c.args.self.now in
    restated_whole t c.loop-place.self c.requires.kernel c.loop-place.invariant.keeps
    (restated_all t c.loop-place.place c.loop-place.self.table.lines.items c.requires.kernel
    (omega (arith, c.loop-place-test.false, c.loop-place.auto.place-end, c.len-place-end.ensures, t.constants.ok.0)) c.loop-place.invariant.lines)

pub returns-clause-room : goal.returns-clause-room
returns-clause-room c = restated_room c.args.self.now c.loop-place.self c.requires.kernel c.loop-place.invariant.keeps

pub returns-clause-parked : goal.returns-clause-parked
returns-clause-parked c =
    let i = c.loop-place.invariant in
    kernel_parked c.loop-place.self (restating c.args.self.now c.loop-place.self c.loop-place.place c.requires.kernel i.keeps i.lines)

pub returns-clause-keeps : goal.returns-clause-keeps
returns-clause-keeps c =
    let k = c.loop-place.invariant.keeps.table in
    record { top = k.top; costs = k.costs; rows = ap (λ v. v.items) k.rows }

pub returns-clause-basis : goal.returns-clause-basis
returns-clause-basis c = c.loop-place.invariant.keeps.table.basis

pub returns-clause-place : goal.returns-clause-place
returns-clause-place c place =
    let k = c.loop-place.invariant.keeps in
    record {
      table = k.place place.table;
      constants = subst (λ (v : Vec ℤ Global). vec_len v < vec_capacity v) (sym k.constants) place.constants;
      uses = subst (λ (v : Vec (Vec Use Global) Global). HaveRoom v.items) (sym k.uses) place.uses;
    }
