-- The constant of one line more fits, or doesn't.
use Rattle.std.specs.Int.{w128}
use Rattle.std.proofs.Common.{rules, ◌≡◌, ℕ, ◌/◌, ◌<◌, ◌↔◌, ◌∙◌, ap, sym, subst, length, arith, to_z, of_z, take, All}
use Prim.Native.Nat.{◌∣◌}
use Rattle.std.specs.Prelude.{ℤ, nat_abs, slice_index_or, IsTrue}
use Rattle.std.proofs.lemmas.Int.{to_z-of_z}
use Rattle.std.proofs.lemmas.List.{get_or_default}
use Rattle.integer_pivots.specs.Lines.{no_line}
use Rattle.integer_pivots.proofs.Sizes.{read}
use Rattle.table_kernel.proofs.FittingConstants.{FitsIn, all_fit, fit_told, not_all_fit, one_more_fits}
use Rattle.table_kernel.proofs.Lines.{read_common, read_share}
use Rattle.table_kernel.proofs.kernel.Kernel.constants_fit.Goals.{After-index-line, After-stays_within}
use Rattle.table_kernel.proofs.kernel.Kernel.constants_fit.Goals as goal

-- the line whose turn it is
at_line : (c : After-index-line) → (c.loop-var.var < length c.args.self.now.lows.items)
    × (c.index-line.result.now ≡ slice_index_or c.args.self.now.lows.items c.loop-var.var no_line)
at_line c =
    let lines = c.args.self.now.lows in
    let v_in : c.loop-var.var < length lines.items = omega (arith, c.loop-var-test.true, c.len-var-end.ensures, lines.ok.0) in
    (v_in, c.index-line.ensures ∙ get_or_default lines.items c.loop-var.var c.index-line.result.now no_line v_in)

-- what its test tells
told : (c : After-stays_within) → c.index-line.result.now ≡ slice_index_or c.args.self.now.lows.items c.loop-var.var no_line →
    IsTrue c.stays_within.result ↔ FitsIn (nat_abs c.args.common) (slice_index_or c.args.self.now.lows.items c.loop-var.var no_line)
told c is =
    let line = c.index-line.result.now in
    let constant : read line.constant ≡ line.constant = search rules in
    let denominator : read line.denominator ≡ line.denominator = search rules in
    let common = read_common c.args.common (c.requires.common.positive, c.requires.common.small) in
    fit_told (nat_abs c.args.common) line (slice_index_or c.args.self.now.lows.items c.loop-var.var no_line) c.stays_within.result
    (to_z w128 (of_z w128 c.from.result)) (read c.share_in.result) is
    (to_z-of_z w128 c.from.result (record { sfits = c.from.type_inv }) ∙ c.from.ensures ∙ constant)
    (ap nat_abs (read_share c.share_in.result c.share_in.ensures.positive c.share_in.ensures.size ∙ c.share_in.ensures.share)
    ∙ ap (λ (z : ℤ). nat_abs z / nat_abs (read line.denominator)) common
    ∙ ap (λ (z : ℤ). nat_abs c.args.common / nat_abs z) denominator)
    c.stays_within.ensures

pub share_in-requires-clause-divides : goal.share_in-requires-clause-divides
share_in-requires-clause-divides c =
    let line = c.index-line.result.now in
    let at = at_line (goal.at.share_in-requires-clause-divides c).After-index-line in
    let denominator : read line.denominator ≡ line.denominator = search rules in
    let common = read_common c.args.common (c.requires.common.positive, c.requires.common.small) in
    subst (λ (n : ℕ). nat_abs (read line.denominator) ∣ n) (ap nat_abs (sym common))
    (subst (λ (n : ℕ). n ∣ nat_abs c.args.common) (ap nat_abs (sym denominator))
    (subst (λ m. nat_abs m.denominator ∣ nat_abs c.args.common) (sym at.1) (c.requires.common.multiple c.loop-var.var no_line at.0)))

pub returns-then-not-stays_within : goal.returns-then-not-stays_within
returns-then-not-stays_within c =
    let at = goal.at.returns-then-not-stays_within c in
    let line = at_line at.After-index-line in
    not_all_fit (nat_abs c.args.common) c.args.self.now.lows.items c.loop-var.var c.stays_within.result line.0
    c.if-not-stays_within.true (told at.After-stays_within line.1)

pub loop-var-preserved : goal.loop-var-preserved
loop-var-preserved c =
    let at = goal.at.loop-var-preserved c in
    let line = at_line at.After-index-line in
    let lines = c.args.self.now.lows.items in
    let common = read_common c.args.common (c.requires.common.positive, c.requires.common.small) in
    one_more_fits (nat_abs (read c.args.common)) lines c.loop-var.var line.0 c.loop-var.invariant
    (subst (λ (z : ℤ). FitsIn (nat_abs z) (slice_index_or lines c.loop-var.var no_line)) (sym common)
    ((told at.After-stays_within line.1).0 c.if-not-stays_within.false))

pub returns : goal.returns
returns c =
    let lines = c.args.self.now.lows in
    let common = read_common c.args.common (c.requires.common.positive, c.requires.common.small) in
    all_fit (nat_abs c.args.common) lines.items c.loop-var.var (omega (arith, c.loop-var-test.false, c.len-var-end.ensures, lines.ok.0))
    (subst (λ (z : ℤ). All (FitsIn (nat_abs z)) (take c.loop-var.var lines.items)) common c.loop-var.invariant)
