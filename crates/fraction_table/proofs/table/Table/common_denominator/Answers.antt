-- Each step puts one more denominator to the multiple.
use Rattle.std.proofs.Common.{◌≡◌, ℕ, ◌<◌, ◌≤◌, ◌^◌, of_z, to_z, refl, ◌∙◌, ap, sym, subst, length, arith}
use Rattle.std.specs.Int.{w128}
use Rattle.std.specs.Prelude.{ℤ, pos, nat_abs, ◌<ℤ◌}
use Rattle.std.proofs.lemmas.Int.{ints}
use Rattle.std.proofs.lemmas.List.{take_all}
use Rattle.std.proofs.lemmas.Result.{err_from_is_err_and}
use Rattle.whole_numbers.specs.Fractions.{Fraction}
use Rattle.design_problem.specs.Steps.{lcm_of}
use Rattle.fraction_table.specs.Corners.{denominators_of}
use Rattle.fraction_lines.specs.Entries.{IsPassing}
use Rattle.fraction_table.proofs.MultiplierSteps.{read_back}
use Rattle.fraction_table.proofs.Pivots.{lines_long}
use Rattle.fraction_table.proofs.CornerScales.{constant_read, denominator_within, denominators_long, multiple_more, multiple_wide, taken_positive, top_bounds}
use Rattle.fraction_table.proofs.table.Table.common_denominator.Goals as goal

below_read : (z : ℤ) (d : ℕ) → z ≡ pos d → d < 2 ^ 127 → to_z w128 (of_z w128 z) ≡ pos d
below_read z d is small = read_back z (subst (λ (y : ℤ). nat_abs y < 2 ^ 127) (sym is) small) ∙ is

pub loop-var-init : goal.loop-var-init
loop-var-init c = record { so_far = refl; within = (top_bounds c.args.self.now.top c.value.ensures.width).0 }

pub index-requires : goal.index-requires
index-requires c =
    let t = c.args.self.now in
    omega (arith, c.loop-var-test.true, ap length c.as_slice-var-end.ensures, lines_long t c.requires.tableau, t.lines.ok.0)

pub lcm-requires-clause-left_positive : goal.lcm-requires-clause-left_positive
lcm-requires-clause-left_positive c =
    let t = c.args.self.now in
    let positive = taken_positive t c.requires.tableau c.loop-var.var (omega (arith, c.loop-var-test.true, ap length c.as_slice-var-end.ensures)) in
    subst (λ (z : ℤ). pos 0 <ℤ z) (sym c.loop-var.invariant.so_far) (omega (arith, ints, positive))

pub lcm-requires-clause-right_within : goal.lcm-requires-clause-right_within
lcm-requires-clause-right_within c =
    let t = c.args.self.now in
    let var_in : c.loop-var.var < length t.costs.low = omega (arith, c.loop-var-test.true, ap length c.as_slice-var-end.ensures) in
    let constant_is = constant_read t c.requires.tableau c.loop-var.var c.constant.result c.index.result.now var_in c.constant.ensures c.index.ensures in
    let read = below_read c.denominator-denominator.result c.constant.result.denominator
    c.denominator-denominator.ensures.value c.denominator-denominator.ensures.kept.denominator in
    subst (λ (z : ℤ). nat_abs z ≤ t.top) (sym (read ∙ ap (λ (q : Fraction). pos q.denominator) constant_is))
    (denominator_within t c.requires.tableau c.loop-var.var var_in)

pub returns-in_err-multiple-clause-wide : goal.returns-in_err-multiple-clause-wide
returns-in_err-multiple-clause-wide c =
    let p = err_from_is_err_and c.from_residual.result c.from_residual.ensures.1 in
    let t = c.args.self.now in
    let var_in : c.loop-var.var < length t.costs.low = omega (arith, c.loop-var-test.true, ap length c.as_slice-var-end.ensures) in
    let constant_is = constant_read t c.requires.tableau c.loop-var.var c.constant.result c.index.result.now var_in c.constant.ensures c.index.ensures in
    let read = below_read c.denominator-denominator.result c.constant.result.denominator
    c.denominator-denominator.ensures.value c.denominator-denominator.ensures.kept.denominator in
    rw (p.1, p.2)
    (multiple_wide t c.requires.tableau c.loop-var.var _ _ c.in_err-multiple.field-0.0 var_in c.loop-var.invariant.so_far
    (read ∙ ap (λ (q : Fraction). pos q.denominator) constant_is) c.in_err-multiple.ensures.wide.named
    (subst (IsPassing t.top) (sym c.in_err-multiple.ensures.wide.named) c.in_err-multiple.ensures.wide.passes))

pub loop-var-preserved : goal.loop-var-preserved
loop-var-preserved c =
    let t = c.args.self.now in
    let var_in : c.loop-var.var < length t.costs.low = omega (arith, c.loop-var-test.true, ap length c.as_slice-var-end.ensures) in
    let constant_is = constant_read t c.requires.tableau c.loop-var.var c.constant.result c.index.result.now var_in c.constant.ensures c.index.ensures in
    let read = below_read c.denominator-denominator.result c.constant.result.denominator
    c.denominator-denominator.ensures.value c.denominator-denominator.ensures.kept.denominator in
    let small : nat_abs c.in_ok-multiple.multiple < 2 ^ 127 = omega (arith, c.in_ok-multiple.ensures.within, (top_bounds t.top c.value.ensures.width).1) in
    let back = read_back c.in_ok-multiple.multiple small in
    record {
      so_far = back ∙ multiple_more t c.requires.tableau c.loop-var.var _ _ c.in_ok-multiple.multiple var_in c.loop-var.invariant.so_far
          (read ∙ ap (λ (q : Fraction). pos q.denominator) constant_is) c.in_ok-multiple.ensures.exact;
      within = subst (λ (z : ℤ). nat_abs z ≤ t.top) (sym back) c.in_ok-multiple.ensures.within;
    }

pub returns-clause-multiple : goal.returns-clause-multiple
returns-clause-multiple c =
    let t = c.args.self.now in
    c.loop-var.invariant.so_far
    ∙ ap (λ ds. pos (lcm_of ds)) (take_all c.loop-var.var (denominators_of t)
    (omega (
      arith,
      c.loop-var-test.false,
      ap length c.as_slice-var-end.ensures,
      denominators_long t c.requires.tableau,
    )))
