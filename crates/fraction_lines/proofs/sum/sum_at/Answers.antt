-- Each step puts one more term to the sum.
use Rattle.std.proofs.Common.{◌^◌, ◌≤◌, refl, sym, ap, subst, List, arith}
use Rattle.std.specs.Prelude.{ℤ, nat_abs}
use Rattle.std.proofs.lemmas.Result.{err_from_is_err_and}
use Rattle.whole_numbers.specs.Fractions.{Fraction}
use Rattle.design_problem.specs.Basis.{entry}
use Rattle.design_problem.proofs.TermLaws.{small_read}
use Rattle.fraction_lines.proofs.TermSums.{IsLineOf, line_read, sum_next, sum_whole, sum_wide, term_in}
use Rattle.fraction_lines.proofs.sum.sum_at.Goals.{After-index-lines-var}
use Rattle.fraction_lines.proofs.sum.sum_at.Goals as goal

pub loop-term-init : goal.loop-term-init
loop-term-init c = record { so_far = refl; number = c.requires.start }

pub returns-clause-exact : goal.returns-clause-exact
returns-clause-exact c =
    sum_whole c.args.start c.loop-term.sum c.args.form.now.coefficients c.args.lines.now c.args.place
    c.terms-terms.result.now c.loop-term.term-index c.terms-terms.ensures.terms c.requires.many
    (omega (arith, c.loop-term-test.false)) c.loop-term.invariant.so_far

pub returns-clause-number : goal.returns-clause-number
returns-clause-number c = c.loop-term.invariant.number

-- what is known of the term at the counter, and of the line of its variable
known : (c : After-index-lines-var) →
    IsLineOf c.args.top c.requires.lines.0 c.args.lines.now (term_in c.terms-terms.result.now c.loop-term.term-index) c.index-lines-var.result
known c =
    line_read c.args.top c.requires.lines.0 c.args.form.now.coefficients c.args.lines.now
    c.terms-terms.result.now c.loop-term.term-index c.index-lines-var.result c.terms-terms.ensures.terms
    c.requires.small c.requires.lines.2 c.requires.many c.loop-term-test.true c.index-lines-var.is

pub add_term-requires-clause-line : goal.add_term-requires-clause-line
add_term-requires-clause-line c = (known (goal.at.add_term-requires-clause-line c).After-index-lines-var).numbers

pub add_term-requires-clause-place : goal.add_term-requires-clause-place
add_term-requires-clause-place c =
    omega (arith, (known (goal.at.add_term-requires-clause-place c).After-index-lines-var).counted, c.requires.lines.1)

pub add_term-requires-clause-small : goal.add_term-requires-clause-small
add_term-requires-clause-small c =
    let here = known (goal.at.add_term-requires-clause-small c).After-index-lines-var in
    let t = term_in c.terms-terms.result.now c.loop-term.term-index in
    subst (λ (z : ℤ). nat_abs z ≤ 2 ^ 26) (sym (small_read t.coefficient here.small)) here.small

pub returns-in_err-sum-clause-step : goal.returns-in_err-sum-clause-step
returns-in_err-sum-clause-step c =
    let p = err_from_is_err_and c.from_residual.result c.from_residual.ensures.1 in
    let ts = c.terms-terms.result.now in
    let t = term_in ts c.loop-term.term-index in
    let here = known (goal.at.returns-in_err-sum-clause-step c).After-index-lines-var in
    rw (p.1, p.2)
    (sum_wide c.args.start c.loop-term.sum (entry c.index-lines-var.result c.args.place) _ c.args.form.now.coefficients
    c.args.lines.now c.args.place ts c.loop-term.term-index c.in_err-sum.field-0.0
    c.terms-terms.ensures.terms c.requires.many c.loop-term-test.true (small_read t.coefficient here.small)
    (ap (λ (qs : List Fraction). entry qs c.args.place) here.line_is) c.loop-term.invariant.so_far c.in_err-sum.ensures.step)

pub loop-term-preserved : goal.loop-term-preserved
loop-term-preserved c =
    let ts = c.terms-terms.result.now in
    let t = term_in ts c.loop-term.term-index in
    let here = known (goal.at.loop-term-preserved c).After-index-lines-var in
    record {
      so_far = sum_next c.args.start c.loop-term.sum c.in_ok-sum.sum (entry c.index-lines-var.result c.args.place) _
          c.args.form.now.coefficients c.args.lines.now c.args.place ts c.loop-term.term-index
          c.terms-terms.ensures.terms c.requires.many c.loop-term-test.true (small_read t.coefficient here.small)
          (ap (λ (qs : List Fraction). entry qs c.args.place) here.line_is) c.loop-term.invariant.so_far c.in_ok-sum.ensures.exact;
      number = c.in_ok-sum.ensures.number;
    }
