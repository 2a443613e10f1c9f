-- The constant of one line more fits, or doesn't.
use Rattle.std.specs.Int.{w128}
use Rattle.std.proofs.Common.{rules, ◌≡◌, ℕ, ◌/◌, ◌<◌, ◌≤◌, ◌↔◌, ◌∙◌, ap, refl, sym, subst, length, arith, to_z, of_z}
use Prim.Native.Nat.{◌∣◌}
use Rattle.std.specs.Prelude.{ℤ, pos, ◌<ℤ◌, nat_abs, IsTrue}
use Rattle.integer_pivots.proofs.FailedTests.{failed, never}
use Rattle.integer_pivots.proofs.Sizes.{read}
use Rattle.integer_pivots.proofs.WrittenPlaces.{all_more}
use Rattle.table_kernel.specs.Turns.{FitsLowest}
use Rattle.table_kernel.proofs.Lines.{read_common, read_share, share_range}
use Rattle.table_kernel.proofs.LowestRows.{FitsLowestAt, denominator_read, lowest_told}
use Rattle.table_kernel.proofs.TurnArgs.{line_ready, range_read}
use Rattle.table_kernel.proofs.kernel.Kernel.lowest_constants_fit.Goals.{After-stays_within}
use Rattle.table_kernel.proofs.kernel.Kernel.lowest_constants_fit.Goals as goal

-- what the test of a line tells
told : (c : After-stays_within) → IsTrue c.stays_within.result ↔ FitsLowestAt c.args.self.now c.args.column (nat_abs c.args.common) c.loop-var.var
told c =
    let lowest = c.lowest_of-lowest.result in
    let constant : to_z w128 (of_z w128 lowest.constant) ≡ lowest.constant = search rules in
    let denominator = denominator_read lowest c.lowest_of-lowest.ensures.size in
    let common = read_common c.args.common (c.requires.common.positive, c.requires.common.small) in
    lowest_told c.args.self.now c.args.column c.loop-var.var (nat_abs c.args.common) lowest c.stays_within.result
    (to_z w128 (of_z w128 lowest.constant)) (read c.share_in.result) c.lowest_of-lowest.ensures.lowest constant
    (ap nat_abs (read_share c.share_in.result c.share_in.ensures.positive c.share_in.ensures.size ∙ c.share_in.ensures.share)
    ∙ ap (λ (z : ℤ). nat_abs z / nat_abs (read lowest.denominator)) common
    ∙ ap (λ (z : ℤ). nat_abs c.args.common / nat_abs z) denominator)
    c.stays_within.ensures

pub share_in-requires-clause-divides : goal.share_in-requires-clause-divides
share_in-requires-clause-divides c =
    let k = c.args.self.now in
    let v_in : c.loop-var.var < length k.lows.items = omega (arith, c.loop-var-test.true, c.len-var-end.ensures, k.lows.ok.0) in
    let lowest = c.lowest_of-lowest.result in
    let common = read_common c.args.common (c.requires.common.positive, c.requires.common.small) in
    subst (λ (n : ℕ). nat_abs (read lowest.denominator) ∣ n) (ap nat_abs (sym common))
    (subst (λ (z : ℤ). nat_abs z ∣ nat_abs c.args.common) (sym (denominator_read lowest c.lowest_of-lowest.ensures.size))
    (c.requires.common.each c.loop-var.var v_in lowest c.lowest_of-lowest.ensures.lowest).0)

pub returns-then-not-stays_within : goal.returns-then-not-stays_within
returns-then-not-stays_within c =
    let k = c.args.self.now in
    let v_in : c.loop-var.var < length k.lows.items = omega (arith, c.loop-var-test.true, c.len-var-end.ensures, k.lows.ok.0) in
    let test = told (goal.at.returns-then-not-stays_within c).After-stays_within in
    never (λ (all : FitsLowest k c.args.column (nat_abs c.args.common)). failed c.stays_within.result c.if-not-stays_within.true test (all c.loop-var.var v_in))

pub loop-var-preserved : goal.loop-var-preserved
loop-var-preserved c =
    let k = c.args.self.now in
    let common = read_common c.args.common (c.requires.common.positive, c.requires.common.small) in
    let test = told (goal.at.loop-var-preserved c).After-stays_within in
    all_more (λ (v : ℕ). FitsLowestAt k c.args.column (nat_abs (read c.args.common)) v) c.loop-var.var c.loop-var.invariant
    (subst (λ (z : ℤ). FitsLowestAt k c.args.column (nat_abs z) c.loop-var.var) (sym common) (test.0 c.if-not-stays_within.false))

pub returns : goal.returns
returns c =
    let k = c.args.self.now in
    let common = read_common c.args.common (c.requires.common.positive, c.requires.common.small) in
    let past : length k.lows.items ≤ c.loop-var.var = omega (arith, c.loop-var-test.false, c.len-var-end.ensures, k.lows.ok.0) in (
      λ holds v v_in. subst (λ (z : ℤ). FitsLowestAt k c.args.column (nat_abs z) v) common (c.loop-var.invariant v (omega (arith, past, v_in))),
      λ fits. refl,
    )

pub loop-var-init : goal.loop-var-init
loop-var-init c v v_in = absurd (omega (arith, v_in))

pub lowest_of-lowest-requires : goal.lowest_of-lowest-requires
lowest_of-lowest-requires c =
    let k = c.args.self.now in
    record { ready = line_ready k c.args.column c.loop-var.var c.requires.ready (omega (arith, c.loop-var-test.true, c.len-var-end.ensures, k.lows.ok.0)) }

pub share_in-requires-clause-common : goal.share_in-requires-clause-common
share_in-requires-clause-common c = range_read c.args.common (c.requires.common.positive, c.requires.common.small)

pub share_in-requires-clause-denominator : goal.share_in-requires-clause-denominator
share_in-requires-clause-denominator c =
    subst (λ (z : ℤ). pos 0 <ℤ z) (sym (denominator_read c.lowest_of-lowest.result c.lowest_of-lowest.ensures.size))
    c.lowest_of-lowest.ensures.lowest.positive

pub stays_within-requires : goal.stays_within-requires
stays_within-requires c = record { share = share_range c.share_in.result c.share_in.ensures.positive c.share_in.ensures.size }
