-- The constant rises by one product.
use Rattle.std.proofs.Common.{◌≡◌, ◌∙◌, ap, sym, subst, suc, arith, Err}
use Rattle.std.proofs.lemmas.Result.{err_from_is_err_and}
use Rattle.cost_base.specs.declared.StepName.TheVariants.{Add, Mul}
use Rattle.whole_numbers.specs.Fractions.{Fraction, times}
use Rattle.wide_fraction.specs.declared.steps.Wide.{Wide}
use Rattle.design_problem.specs.Basis.{entry}
use Rattle.fraction_lines.specs.TableLines.{IsTableNumber}
use Rattle.fraction_table.specs.Moves.{IsRaiseStep}
use Rattle.fraction_table.specs.Moves.IsRaiseStep.{product, sum}
use Rattle.fraction_lines.proofs.TableLineLaws.{number_at}
use Rattle.fraction_lines.proofs.NamedSteps.{named_passes}
use Rattle.fraction_table.proofs.MoveLines.{none_raised, raised_is, raised_numbers}
use Rattle.fraction_table.proofs.moves.raise_constant.Goals as goal

pub returns-then-is_zero-clause-raised : goal.returns-then-is_zero-clause-raised
returns-then-is_zero-clause-raised c =
    none_raised c.args.top c.args.line.now c.args.column c.args.fall c.entry-entry.result c.requires.column
    c.requires.numbers c.requires.fall c.entry-entry.ensures (c.is_zero.ensures.0 c.if-is_zero.true)

pub mul-requires-clause-left_within : goal.mul-requires-clause-left_within
mul-requires-clause-left_within c =
    let here = subst (IsTableNumber c.args.top) (sym c.entry-entry.ensures)
    (number_at c.args.top c.args.line.now (suc c.args.column) c.requires.numbers c.requires.column) in
    here.within

pub add-requires-clause-left_within : goal.add-requires-clause-left_within
add-requires-clause-left_within c =
    let here = subst (IsTableNumber c.args.top) (sym c.constant.ensures)
    (number_at c.args.top c.args.line.now 0 c.requires.numbers (omega (arith, c.requires.column))) in
    here.within

pub returns-in_err-product-clause-wide : goal.returns-in_err-product-clause-wide
returns-in_err-product-clause-wide c =
    let p = err_from_is_err_and c.from_residual.result c.from_residual.ensures.1 in
    let wide = c.in_err-product.field-0.0 in
    let refused = c.in_err-product.ensures.wide in
    rw (p.1, p.2) (
      subst (λ (w : Wide). IsRaiseStep c.args.line.now c.args.column c.args.fall w.step w.left w.right) (sym refused.named)
          (subst (λ (q : Fraction). IsRaiseStep c.args.line.now c.args.column c.args.fall Mul q c.args.fall) (sym c.entry-entry.ensures) product),
      named_passes {X = Fraction} (Err wide) c.args.top Mul c.entry-entry.result c.args.fall refused,
    )

pub returns-in_err-raised-clause-wide : goal.returns-in_err-raised-clause-wide
returns-in_err-raised-clause-wide c =
    let p = err_from_is_err_and c.from_residual-in_err-raised.result c.from_residual-in_err-raised.ensures.1 in
    let wide = c.in_err-raised.field-0.0 in
    let refused = c.in_err-raised.ensures.wide in
    let product_is : c.in_ok-product.product ≡ times (entry c.args.line.now (suc c.args.column)) c.args.fall =
    c.in_ok-product.ensures.exact ∙ ap (λ (q : Fraction). times q c.args.fall) c.entry-entry.ensures in
    rw (p.1, p.2) (
      subst (λ (w : Wide). IsRaiseStep c.args.line.now c.args.column c.args.fall w.step w.left w.right) (sym refused.named)
          (subst (λ (q : Fraction). IsRaiseStep c.args.line.now c.args.column c.args.fall Add q c.in_ok-product.product) (sym c.constant.ensures)
          (subst (λ (q : Fraction). IsRaiseStep c.args.line.now c.args.column c.args.fall Add (entry c.args.line.now 0) q) (sym product_is) sum)),
      named_passes {X = Fraction} (Err wide) c.args.top Add c.constant.result c.in_ok-product.product refused,
    )

pub returns-clause-raised : goal.returns-clause-raised
returns-clause-raised c =
    raised_is c.args.line.now c.set_constant.new.self c.args.column c.args.fall c.entry-entry.result c.constant.result
    c.in_ok-product.product c.in_ok-raised.raised
    c.entry-entry.ensures c.constant.ensures c.in_ok-product.ensures.exact c.in_ok-raised.ensures.exact c.set_constant.ensures

pub returns-clause-numbers : goal.returns-clause-numbers
returns-clause-numbers c =
    let here = subst (IsTableNumber c.args.top) (sym c.entry-entry.ensures)
    (number_at c.args.top c.args.line.now (suc c.args.column) c.requires.numbers c.requires.column) in
    let first = subst (IsTableNumber c.args.top) (sym c.constant.ensures)
    (number_at c.args.top c.args.line.now 0 c.requires.numbers (omega (arith, c.requires.column))) in
    raised_numbers c.args.top c.args.line.now c.set_constant.new.self c.args.fall c.entry-entry.result c.constant.result
    c.in_ok-product.product c.in_ok-raised.raised
    c.requires.numbers first here c.requires.fall c.in_ok-product.ensures.exact c.in_ok-raised.ensures.exact
    c.in_ok-raised.ensures.within c.set_constant.ensures
