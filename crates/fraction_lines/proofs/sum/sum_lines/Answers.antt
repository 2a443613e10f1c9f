-- Each step puts one more term, at all places.
use Rattle.std.proofs.Common.{◌^◌, ◌≤◌, sym, ◌∙◌, ap, subst, List, length, arith}
use Rattle.std.specs.Prelude.{ℤ, nat_abs}
use Rattle.whole_numbers.specs.Fractions.{Fraction}
use Rattle.design_problem.specs.Basis.{entry}
use Rattle.design_problem.proofs.TermLaws.{small_read}
use Rattle.fraction_lines.proofs.TermSums.{IsLineOf, line_read, sum_next, sum_whole, term_in}
use Rattle.fraction_lines.proofs.sum.sum_lines.Goals.{After-index-lines-var}
use Rattle.fraction_lines.proofs.sum.sum_lines.Goals as goal

-- what is known of the term at the counter, and of the line of its variable
known : (c : After-index-lines-var) →
    IsLineOf c.args.top (length c.args.sum.now) c.args.lines.now (term_in c.terms-terms.result.now c.loop-term.term-index) c.index-lines-var.result
known c =
    line_read c.args.top (length c.args.sum.now) c.args.form.now.coefficients c.args.lines.now
    c.terms-terms.result.now c.loop-term.term-index c.index-lines-var.result c.terms-terms.ensures.terms
    c.requires.small c.requires.lines.fit c.requires.lines.many c.loop-term-test.true c.index-lines-var.is

pub put_line-requires-clause-line : goal.put_line-requires-clause-line
put_line-requires-clause-line c =
    let here = known (goal.at.put_line-requires-clause-line c).After-index-lines-var in
    record { counted = here.counted ∙ sym c.loop-term.invariant.width; numbers = here.numbers }

pub put_line-requires-clause-small : goal.put_line-requires-clause-small
put_line-requires-clause-small c =
    let here = known (goal.at.put_line-requires-clause-small c).After-index-lines-var in
    let t = term_in c.terms-terms.result.now c.loop-term.term-index in
    subst (λ (z : ℤ). nat_abs z ≤ 2 ^ 26) (sym (small_read t.coefficient here.small)) here.small

pub loop-term-preserved : goal.loop-term-preserved
loop-term-preserved c =
    let ts = c.terms-terms.result.now in
    let t = term_in ts c.loop-term.term-index in
    let here = known (goal.at.loop-term-preserved c).After-index-lines-var in
    record {
      sums = λ place place_in.
          sum_next (entry c.args.sum.now place) (entry c.loop-term.sum place) (entry c.put_line.new.sum place)
          (entry c.index-lines-var.result place) _ c.args.form.now.coefficients c.args.lines.now place ts
          c.loop-term.term-index
          c.terms-terms.ensures.terms c.requires.lines.many c.loop-term-test.true (small_read t.coefficient here.small)
          (ap (λ (qs : List Fraction). entry qs place) here.line_is) (c.loop-term.invariant.sums place place_in)
          (c.in_ok-put_line.ensures.sums place (omega (arith, place_in, c.loop-term.invariant.width)));
      numbers = c.in_ok-put_line.ensures.numbers;
      width = c.put_line.ensures.width ∙ c.loop-term.invariant.width;
      scratch = c.put_line.ensures.scratch_width ∙ c.loop-term.invariant.scratch;
    }

pub returns-clause-sums : goal.returns-clause-sums
returns-clause-sums c place place_in =
    sum_whole (entry c.args.sum.now place) (entry c.loop-term.sum place) c.args.form.now.coefficients c.args.lines.now
    place c.terms-terms.result.now c.loop-term.term-index c.terms-terms.ensures.terms c.requires.lines.many
    (omega (arith, c.loop-term-test.false)) (c.loop-term.invariant.sums place place_in)
