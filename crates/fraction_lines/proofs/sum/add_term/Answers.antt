-- The coefficient is a number of each table, and the line's entry is one of this.
use Rattle.std.proofs.Common.{◌≡◌, ◌<◌, ◌^◌, ◌∙◌, ap, sym, subst, nat_abs, w64, arith}
use Rattle.std.proofs.lemmas.Int.{to_z-of_z}
use Rattle.std.proofs.lemmas.Result.{err_from_is_err_and}
use Rattle.cost_base.specs.declared.StepName.TheVariants.{Add}
use Rattle.whole_numbers.specs.Fractions.{Fraction, plus, times, whole}
use Rattle.wide_fraction.specs.Widths.{IsWithin}
use Rattle.fraction_lines.specs.Entries.{IsPassing}
use Rattle.design_problem.specs.Basis.{entry}
use Rattle.fraction_lines.specs.TableLines.{nothing}
use Rattle.fraction_lines.proofs.ZeroFractions.{lowest_zero, minus_nothing, times_nothing}
use Rattle.fraction_lines.proofs.NamedSteps.{named_passes}
use Rattle.fraction_lines.proofs.TableLineLaws.{number_at}
use Rattle.fraction_lines.proofs.SmallNumbers.{whole_number}
use Rattle.fraction_lines.proofs.sum.add_term.Goals as goal

pub mul-requires-clause-left_within : goal.mul-requires-clause-left_within
mul-requires-clause-left_within c =
    let small : nat_abs c.args.coefficient < 2 ^ 27 = omega (arith, c.requires.small) in
    subst (IsWithin c.args.top) (sym (c.whole.ensures ∙ ap whole (to_z-of_z w64 c.args.coefficient c.ranges.coefficient)))
    (whole_number c.args.top c.args.coefficient c.value.ensures.width small).within

pub mul-requires-clause-right_within : goal.mul-requires-clause-right_within
mul-requires-clause-right_within c =
    subst (IsWithin c.args.top) (sym c.at-value.ensures) (number_at c.args.top c.args.line.now c.args.place c.requires.line c.requires.place).within

pub returns-in_err-term-clause-passes : goal.returns-in_err-term-clause-passes
returns-in_err-term-clause-passes c =
    let p = err_from_is_err_and c.from_residual.result c.from_residual.ensures.1 in
    rw (p.1, p.2) (subst (IsPassing c.args.top) (sym c.in_err-term.ensures.wide.named) c.in_err-term.ensures.wide.passes)

pub returns-clause-passes : goal.returns-clause-passes
returns-clause-passes c =
    named_passes {X = Fraction} c.add.result c.args.top Add c.args.sum c.in_ok-term.term c.add.ensures.wide

pub returns-then-is_zero-clause-exact : goal.returns-then-is_zero-clause-exact
returns-then-is_zero-clause-exact c =
    let q = entry c.args.line.now c.args.place in
    let own = number_at c.args.top c.args.line.now c.args.place c.requires.line c.requires.place in
    let none : q ≡ nothing = lowest_zero q own.lowest (ap (λ (p : Fraction). p.numerator) (sym c.at-value.ensures) ∙ c.is_zero.ensures.0 c.if-is_zero.true) in
    sym
    (ap (λ (p : Fraction). plus c.args.sum (times (whole c.args.coefficient) p)) none
    ∙ ap (plus c.args.sum) (times_nothing (whole c.args.coefficient) (omega arith))
    ∙ minus_nothing c.args.sum c.requires.sum.lowest)
