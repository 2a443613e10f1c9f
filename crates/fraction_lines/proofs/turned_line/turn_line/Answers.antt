-- The line is crossed with the quotients, and gets its new entry at the pivot's column.
use Rattle.std.proofs.Common.{rules, ◌≡◌, Err, suc, ◌∙◌, ap, sym, subst, List}
use Rattle.std.specs.Prelude.{IsTrue}
use Rattle.std.proofs.lemmas.Bool.{false≢true}
use Rattle.std.proofs.lemmas.Result.{err_from_is_err_and}
use Rattle.cost_base.specs.declared.StepName.TheVariants.{Mul}
use Rattle.whole_numbers.specs.Fractions.{Fraction}
use Rattle.wide_fraction.specs.declared.steps.Wide.{Wide}
use Rattle.design_problem.specs.Basis.{entry}
use Rattle.fraction_lines.specs.TableLines.{AreTableNumbers, IsCrossStep, IsTableNumber, nothing}
use Rattle.fraction_lines.specs.Turns.{IsTurnStep}
use Rattle.fraction_lines.specs.Turns.IsTurnStep.{crossing, entering}
use Rattle.fraction_lines.proofs.NamedSteps.{named_passes}
use Rattle.fraction_lines.proofs.TableLineLaws.{number_at, written_numbers, crossed_keeps, times_not_zero, times_number}
use Rattle.fraction_lines.proofs.turned_line.turn_line.Goals.{After-entry-own}
use Rattle.fraction_lines.proofs.turned_line.turn_line.Goals as goal

-- the line's own entry is a number of the table
own_is : (c : After-entry-own) → IsTableNumber c.args.top c.entry-own.result
own_is c = subst (IsTableNumber c.args.top) (sym c.entry-own.ensures) (number_at c.args.top c.args.line.now (suc c.args.pivot.now.column) c.requires.numbers
    c.requires.pivot.place_in)

pub cross-requires-clause-factor : goal.cross-requires-clause-factor
cross-requires-clause-factor c = own_is (goal.at.cross-requires-clause-factor c).After-entry-own

pub returns-in_err-cross-clause-wide : goal.returns-in_err-cross-clause-wide
returns-in_err-cross-clause-wide c =
    let p = err_from_is_err_and c.from_residual.result c.from_residual.ensures.1 in
    let wide = c.in_err-cross.field-0.0 in
    let told = c.in_err-cross.ensures.wide in
    rw (p.1, p.2) (
      crossing wide.step wide.left wide.right
          (subst (λ (q : Fraction). IsCrossStep q c.args.line.now c.args.quotients.now wide.step wide.left wide.right)
          c.entry-own.ensures told.0),
      told.1,
    )

pub mul-requires-clause-left_within : goal.mul-requires-clause-left_within
mul-requires-clause-left_within c = (own_is (goal.at.mul-requires-clause-left_within c).After-entry-own).within

pub returns-in_err-entered-clause-wide : goal.returns-in_err-entered-clause-wide
returns-in_err-entered-clause-wide c =
    let p = err_from_is_err_and c.from_residual-in_err-entered.result c.from_residual-in_err-entered.ensures.1 in
    let wide = c.in_err-entered.field-0.0 in
    let refused = c.in_err-entered.ensures.wide in
    let fs = c.args.line.now in
    let ts = c.args.quotients.now in
    rw (p.1, p.2) (
      subst (λ (w : Wide). IsTurnStep fs ts (suc c.args.pivot.now.column) c.args.pivot.now.inverse w.step w.left w.right) (sym refused.named)
          (subst (λ (q : Fraction). IsTurnStep fs ts (suc c.args.pivot.now.column) c.args.pivot.now.inverse Mul q c.args.pivot.now.inverse)
          (sym c.entry-own.ensures) entering),
      named_passes {X = Fraction} (Err wide) c.args.top Mul c.entry-own.result c.args.pivot.now.inverse refused,
    )

pub replace-requires-clause-before : goal.replace-requires-clause-before
replace-requires-clause-before c none =
    let own_at = number_at c.args.top c.args.line.now (suc c.args.pivot.now.column) c.requires.numbers c.requires.pivot.place_in in
    let own = own_is (goal.at.replace-requires-clause-before c).After-entry-own in
    let kept = crossed_keeps c.entry-own.result c.args.line.now c.args.quotients.now (suc c.args.pivot.now.column) c.args.top
    c.requires.pivot.line.counted c.requires.pivot.place_in own_at own.lowest.positive c.requires.pivot.none_there in
    let own_none : c.entry-own.result ≡ nothing = c.entry-own.ensures ∙ sym kept
    ∙ ap (λ (l : List Fraction). entry l (suc c.args.pivot.now.column)) (sym c.in_ok-cross.ensures.crossed) ∙ none in
    false≢true (subst IsTrue c.if-is_zero.false (c.is_zero.ensures.1 (ap (λ (q : Fraction). q.numerator) own_none)))

pub replace-requires-clause-not_zero : goal.replace-requires-clause-not_zero
replace-requires-clause-not_zero c zero_is =
    let own = own_is (goal.at.replace-requires-clause-not_zero c).After-entry-own in
    times_not_zero c.entry-own.result c.args.pivot.now.inverse own.lowest.positive c.requires.pivot.inverse_number.lowest.positive
    (λ e. false≢true (subst IsTrue c.if-is_zero.false (c.is_zero.ensures.1 e))) c.requires.pivot.not_zero
    (ap (λ (q : Fraction). q.numerator) (sym c.in_ok-entered.ensures.exact) ∙ zero_is)

pub returns-clause-numbers : goal.returns-clause-numbers
returns-clause-numbers c =
    let own = own_is (goal.at.returns-clause-numbers c).After-entry-own in
    let entered_is = times_number c.args.top c.entry-own.result c.args.pivot.now.inverse c.in_ok-entered.entered
    own.lowest.positive c.requires.pivot.inverse_number.lowest.positive c.in_ok-entered.ensures.exact
    c.in_ok-entered.ensures.within in
    subst (AreTableNumbers c.args.top) (sym (c.swap.ensures.x_after ∙ c.replace.ensures))
    (written_numbers c.args.top c.cross.new.into (suc c.args.pivot.now.column) c.in_ok-entered.entered c.in_ok-cross.ensures.numbers entered_is)

pub returns-then-is_zero-clause-turned : goal.returns-then-is_zero-clause-turned
returns-then-is_zero-clause-turned c = search rules
