-- The constant of one line more stays small.
use Rattle.std.proofs.Common.{ℕ, ◌^◌, ◌≡◌, ◌<◌, ◌≤◌, ◌∙◌, ap, sym, refl, length, subst, arith}
use Prim.Native.Nat.{◌∣◌}
use Rattle.std.specs.Prelude.{ℤ, nat_abs}
use Rattle.integer_pivots.proofs.FailedTests.{failed, never}
use Rattle.integer_pivots.specs.Turns.{denominator_after}
use Rattle.integer_pivots.proofs.Sizes.{read}
use Rattle.integer_pivots.proofs.WrittenPlaces.{all_more}
use Rattle.table_kernel.specs.Turns.{ConstantsStaySmall, constant_size, line_of}
use Rattle.table_kernel.proofs.CommonSteps.{each_goes_in}
use Rattle.table_kernel.proofs.Lines.{read_common}
use Rattle.table_kernel.proofs.TurnArgs.{line_ready, range_read}
use Rattle.table_kernel.proofs.kernel.Kernel.constants_stay_small.Goals as goal

pub loop-var-init : goal.loop-var-init
loop-var-init c v v_in = absurd (omega (arith, v_in))

pub constant_stays_small-requires-clause-ready : goal.constant_stays_small-requires-clause-ready
constant_stays_small-requires-clause-ready c =
    let k = c.args.self.now in
    line_ready k c.args.column c.loop-var.var c.requires.ready (omega (arith, c.loop-var-test.true, c.len-var-end.ensures, k.lows.ok.0))

pub constant_stays_small-requires-clause-common : goal.constant_stays_small-requires-clause-common
constant_stays_small-requires-clause-common c = range_read c.args.common c.requires.common

pub constant_stays_small-requires-clause-divides : goal.constant_stays_small-requires-clause-divides
constant_stays_small-requires-clause-divides c =
    let k = c.args.self.now in
    let v = c.loop-var.var in
    let same = read_common c.args.common c.requires.common in
    let v_in : v < length k.lows.items = omega (arith, c.loop-var-test.true, c.len-var-end.ensures, k.lows.ok.0) in
    subst (λ (n : ℕ). denominator_after k.entering c.args.column (line_of k v) ∣ n) (sym (ap nat_abs same ∙ c.requires.next))
    (each_goes_in k.entering c.args.column k.lows.items (nat_abs k.common) v v_in)

pub returns-then-not-constant_stays_small : goal.returns-then-not-constant_stays_small
returns-then-not-constant_stays_small c =
    let k = c.args.self.now in
    let v = c.loop-var.var in
    let v_in : v < length k.lows.items = omega (arith, c.loop-var-test.true, c.len-var-end.ensures, k.lows.ok.0) in
    never (λ (all : ConstantsStaySmall k c.args.column (nat_abs c.args.common)). failed c.constant_stays_small.result c.if-not-constant_stays_small.true
    c.constant_stays_small.ensures
    (subst (λ (z : ℤ). constant_size k c.args.column (nat_abs z) v ≤ 2 ^ 44) (sym (read_common c.args.common c.requires.common)) (all v v_in)))

pub loop-var-preserved : goal.loop-var-preserved
loop-var-preserved c =
    all_more (λ (v : ℕ). constant_size c.args.self.now c.args.column (nat_abs (read c.args.common)) v ≤ 2 ^ 44) c.loop-var.var c.loop-var.invariant
    (c.constant_stays_small.ensures.0 c.if-not-constant_stays_small.false)

pub returns : goal.returns
returns c =
    let k = c.args.self.now in
    let same = read_common c.args.common c.requires.common in
    let all : c.loop-var.var ≡ length k.lows.items = omega (arith, c.loop-var-test.false, c.loop-var.auto.var-end, c.len-var-end.ensures, k.lows.ok.0) in (
      λ holds v v_in. subst (λ (z : ℤ). constant_size k c.args.column (nat_abs z) v ≤ 2 ^ 44) same (c.loop-var.invariant v (omega (arith, all, v_in))),
      λ may. refl,
    )
