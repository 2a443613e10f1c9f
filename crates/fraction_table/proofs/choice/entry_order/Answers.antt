-- The entries are numbers of the table; where both are 0 so is the multiple.
use Rattle.std.proofs.Common.{◌≡◌, suc, sym, subst, ap, ◌∙◌}
use Rattle.std.proofs.lemmas.Result.{err_from_is_err_and}
use Rattle.whole_numbers.specs.Fractions.{Fraction, order, times}
use Rattle.wide_fraction.specs.Widths.{IsWithin}
use Rattle.design_problem.specs.Basis.{entry}
use Rattle.fraction_lines.specs.Entries.{IsPassing}
use Rattle.fraction_lines.specs.TableLines.{nothing}
use Rattle.fraction_lines.proofs.ZeroFractions.{lowest_zero, nothing_times}
use Rattle.fraction_lines.proofs.TableLineLaws.{number_at}
use Rattle.fraction_table.proofs.choice.entry_order.Goals as goal

pub mul-requires-clause-left_within : goal.mul-requires-clause-left_within
mul-requires-clause-left_within c =
    let own_is = number_at c.args.top c.args.line.now (suc c.args.column) c.requires.numbers c.requires.column in
    subst (IsWithin c.args.top) (sym c.entry-own.ensures) own_is.within

pub returns-in_err-multiple-clause-passes : goal.returns-in_err-multiple-clause-passes
returns-in_err-multiple-clause-passes c =
    let p = err_from_is_err_and c.from_residual.result c.from_residual.ensures.1 in
    rw (p.1, p.2) (subst (IsPassing c.args.top) (sym c.in_err-multiple.ensures.wide.named) c.in_err-multiple.ensures.wide.passes)

pub returns-then-lacks-2-clause-order : goal.returns-then-lacks-2-clause-order
returns-then-lacks-2-clause-order c =
    let fs = c.args.line.now in
    let q = c.args.quotient in
    let own : entry fs (suc c.args.column) ≡ nothing = c.lacks.ensures c.if-lacks.true in
    let others : entry fs (suc c.args.other) ≡ nothing = c.lacks-then-lacks.ensures c.if-lacks-2.true in
    sym
    (ap (λ (p : Fraction). order p (times (entry fs (suc c.args.column)) q)) others
    ∙ ap (λ (p : Fraction). order nothing (times p q)) own
    ∙ ap (order nothing) (nothing_times q c.requires.lowest.positive))

pub returns-then-is_zero-2-clause-order : goal.returns-then-is_zero-2-clause-order
returns-then-is_zero-2-clause-order c =
    let fs = c.args.line.now in
    let q = c.args.quotient in
    let own_is = number_at c.args.top fs (suc c.args.column) c.requires.numbers c.requires.column in
    let others_is = number_at c.args.top fs (suc c.args.other) c.requires.numbers c.requires.other in
    let own : entry fs (suc c.args.column) ≡ nothing =
    lowest_zero (entry fs (suc c.args.column)) own_is.lowest
    (ap (λ (p : Fraction). p.numerator) (sym c.entry-own.ensures) ∙ c.is_zero.ensures.0 c.if-is_zero.true) in
    let others : entry fs (suc c.args.other) ≡ nothing =
    lowest_zero (entry fs (suc c.args.other)) others_is.lowest
    (ap (λ (p : Fraction). p.numerator) (sym c.entry-others.ensures)
    ∙ c.is_zero-then-is_zero.ensures.0 c.if-is_zero-2.true) in
    sym
    (ap (λ (p : Fraction). order p (times (entry fs (suc c.args.column)) q)) others
    ∙ ap (λ (p : Fraction). order nothing (times p q)) own
    ∙ ap (order nothing) (nothing_times q c.requires.lowest.positive))
