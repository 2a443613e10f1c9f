-- The line is divided by its entry, and the inverse is 1 over it.
use Rattle.std.proofs.Common.{◌≡◌, ℕ, Ok, Err, suc, ◌∙◌, ap, sym, subst, List, arith}
use Rattle.std.specs.Prelude.{pos, Result, IfErr, IfOk}
use Rattle.std.proofs.lemmas.Result.{err_from_is_err_and}
use Rattle.cost_base.specs.declared.StepName.TheVariants.{Div}
use Rattle.whole_numbers.specs.Fractions.{Fraction, divided, whole}
use Rattle.wide_fraction.specs.declared.steps.Wide.{Wide}
use Rattle.wide_fraction.specs.Widths.{IsWithin}
use Rattle.wide_fraction.specs.WideSteps.{IsTooWide}
use Rattle.design_problem.specs.Basis.{entry}
use Rattle.fraction_lines.specs.TableLines.{AreTableNumbers, IsDivideStep, IsTableNumber, IsWideStep, divided_without}
use Rattle.fraction_lines.specs.Turns.{IsPivotDivided, IsQuotientStepOf}
use Rattle.fraction_lines.specs.Turns.IsQuotientStepOf.{dividing, inverting}
use Rattle.fraction_lines.proofs.ZeroFractions.{divided_number}
use Rattle.fraction_lines.proofs.NamedSteps.{named_passes}
use Rattle.fraction_lines.proofs.TableLineLaws.{number_at, one_within}
use Rattle.fraction_lines.proofs.turned_line.take_quotients.Goals as goal

pub divide-requires-clause-divisor : goal.divide-requires-clause-divisor
divide-requires-clause-divisor c =
    subst (IsTableNumber c.args.top) (sym c.entry-divisor.ensures) (number_at c.args.top c.args.line.now (suc c.args.column) c.requires.numbers
    c.requires.column)

pub divide-requires-clause-not_zero : goal.divide-requires-clause-not_zero
divide-requires-clause-not_zero c zero_is = c.requires.not_zero (ap (λ (q : Fraction). q.numerator) (sym c.entry-divisor.ensures) ∙ zero_is)

pub returns-in_err-divide-clause-wide : goal.returns-in_err-divide-clause-wide
returns-in_err-divide-clause-wide c =
    let p = err_from_is_err_and c.from_residual.result c.from_residual.ensures.1 in
    let wide = c.in_err-divide.field-0.0 in
    let told = c.in_err-divide.ensures.wide in
    rw (p.1, p.2) (
      dividing wide.step wide.left wide.right
          (subst (λ (q : Fraction). IsDivideStep q c.args.line.now wide.step wide.left wide.right)
          c.entry-divisor.ensures told.0),
      told.1,
    )

pub div-requires-clause-left_within : goal.div-requires-clause-left_within
div-requires-clause-left_within c =
    subst (IsWithin c.args.top) (sym c.whole.ensures)
    (one_within c.args.top (entry c.args.line.now (suc c.args.column))
    (number_at c.args.top c.args.line.now (suc c.args.column) c.requires.numbers c.requires.column))

pub div-requires-clause-right_within : goal.div-requires-clause-right_within
div-requires-clause-right_within c =
    let own_is = subst (IsTableNumber c.args.top) (sym c.entry-divisor.ensures)
    (number_at c.args.top c.args.line.now (suc c.args.column) c.requires.numbers c.requires.column) in
    own_is.within

pub div-requires-clause-not_zero : goal.div-requires-clause-not_zero
div-requires-clause-not_zero c zero_is = c.requires.not_zero (ap (λ (q : Fraction). q.numerator) (sym c.entry-divisor.ensures) ∙ zero_is)

seen_quotient : (x p q first second : Fraction) → p ≡ first → q ≡ second → x ≡ divided p q → x ≡ divided first second
seen_quotient x p q first second p_is q_is exact = exact ∙ ap (λ (f : Fraction). divided f q) p_is ∙ ap (λ (f : Fraction). divided first f) q_is

-- the quotients and the inverse, with the pivot's line's entry as it was read
divided_pivot : (r : Result Fraction Wide) (top place : ℕ) (rs ts : List Fraction) (p d : Fraction) →
    p ≡ whole (pos 1) → d ≡ entry rs place → ts ≡ divided_without place d rs 0 → AreTableNumbers top ts →
    IfOk r (λ x. x ≡ divided p d) → IfOk r (λ x. IsWithin top x) → IfOk r (IsPivotDivided top place rs ts)
divided_pivot (Ok x) top place rs ts p d p_is d_is made numbers exact within =
    let is : x ≡ divided (whole (pos 1)) (entry rs place) = seen_quotient x p d (whole (pos 1)) (entry rs place) p_is d_is exact in
    record {
      quotients_are = made ∙ ap (λ (q : Fraction). divided_without place q rs 0) d_is;
      numbers = numbers;
      inverse_is = is;
      inverse_number = divided_number top (whole (pos 1)) (entry rs place) x (omega arith) is within;
    }
divided_pivot (Err wide) top place rs ts p d p_is d_is made numbers exact within = tt

pub returns-clause-divided : goal.returns-clause-divided
returns-clause-divided c =
    divided_pivot c.div.result c.args.top (suc c.args.column) c.args.line.now c.divide.new.into c.whole.result
    c.entry-divisor.result c.whole.ensures c.entry-divisor.ensures c.in_ok-divide.ensures.divided
    c.in_ok-divide.ensures.numbers c.div.ensures.exact c.div.ensures.within

inverse_wide : (r : Result Fraction Wide) (top : ℕ) (fs : List Fraction) (place : ℕ) (p d : Fraction) →
    p ≡ whole (pos 1) → d ≡ entry fs place → IfErr r (IsTooWide top Div p d) →
    IfErr r (λ wide. IsWideStep top (IsQuotientStepOf fs place) wide.step wide.left wide.right)
inverse_wide (Ok x) top fs place p d p_is d_is refused = tt
inverse_wide (Err wide) top fs place p d p_is d_is refused = (
  subst (λ (w : Wide). IsQuotientStepOf fs place w.step w.left w.right) (sym refused.named)
      (subst (λ (q : Fraction). IsQuotientStepOf fs place Div p q) (sym d_is)
      (subst (λ (q : Fraction). IsQuotientStepOf fs place Div q (entry fs place)) (sym p_is) inverting)),
  named_passes {X = Fraction} (Err wide) top Div p d refused,
)

pub returns-clause-wide : goal.returns-clause-wide
returns-clause-wide c =
    inverse_wide c.div.result c.args.top c.args.line.now (suc c.args.column) c.whole.result c.entry-divisor.result
    c.whole.ensures c.entry-divisor.ensures c.div.ensures.wide
