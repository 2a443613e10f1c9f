-- One more term is put.
use Rattle.std.proofs.Common.{◌<◌, ◌≤◌, ◌^◌, suc, sym, subst, ◌∙◌, ap, length, arith}
use Rattle.std.specs.Prelude.{nat_abs}
use Rattle.std.proofs.lemmas.List.Elements.{All-same}
use Rattle.whole_numbers.specs.Fractions.{whole}
use Rattle.design_problem.specs.declared.form.Term.{Term}
use Rattle.design_problem.specs.Forms.{terms_of, value_for_costs, no_term}
use Rattle.design_problem.proofs.TermLaws.{each_term, small_read}
use Rattle.fraction_lines.proofs.TermSums.{term_in}
use Rattle.fraction_table.proofs.Restarts.{form_numbers, put_all, put_first, put_next}
use Rattle.fraction_table.proofs.Shifts.{kept_number}
use Rattle.fraction_table.proofs.restart.put_form_line.Goals as goal

pub push-requires-clause-within : goal.push-requires-clause-within
push-requires-clause-within c =
    let inside : (term_in c.terms-terms.result.now c.loop-term.term-index).var < length c.args.form.now.coefficients =
    c.terms-terms.ensures.known c.loop-term.term-index no_term c.loop-term-test.true in
    omega (arith, inside, c.loop-term.invariant.long)

pub push-requires-clause-last : goal.push-requires-clause-last
push-requires-clause-last c later from later_in = c.loop-term.invariant.blank later c.loop-term-test.true from

pub loop-term-init : goal.loop-term-init
loop-term-init c =
    let f = c.args.form.now in
    put_first (value_for_costs f c.args.costs.now.low) f.coefficients c.terms-terms.result.now c.args.line.now c.clear.new.self
    c.set_constant.new.self c.whole.result c.terms-terms.ensures.terms (c.requires.width
    ∙ ap suc (sym c.requires.fits.count)) c.clear.ensures
    (c.whole.ensures ∙ ap whole (kept_number c.corner_value.result
    (subst (λ z. nat_abs z < 2 ^ 27) (sym c.corner_value.ensures) c.requires.fits.corner)
    ∙ c.corner_value.ensures)) c.set_constant.ensures

pub loop-term-preserved : goal.loop-term-preserved
loop-term-preserved c =
    let f = c.args.form.now in
    let ts = c.terms-terms.result.now in
    let t = term_in ts c.loop-term.term-index in
    let small : nat_abs t.coefficient ≤ 2 ^ 26 =
    All-same (λ (u : Term). nat_abs u.coefficient ≤ 2 ^ 26) ts (terms_of f) c.terms-terms.ensures.terms
    (each_term (λ z. nat_abs z ≤ 2 ^ 26) 0 f.coefficients c.requires.fits.sizes) c.loop-term.term-index no_term
    c.loop-term-test.true in
    put_next (value_for_costs f c.args.costs.now.low) f.coefficients ts c.loop-term.term-index c.loop-term.line c.push.new.self
    c.whole-in-loop-term.result c.terms-terms.ensures.terms c.loop-term-test.true
    (c.whole-in-loop-term.ensures ∙ ap whole (small_read t.coefficient small)) c.push.ensures c.loop-term.invariant

pub returns-clause-line : goal.returns-clause-line
returns-clause-line c =
    let f = c.args.form.now in
    put_all (value_for_costs f c.args.costs.now.low) f.coefficients c.terms-terms.result.now c.loop-term.term-index
    c.loop-term.line c.loop-term.invariant (omega (arith, c.loop-term-test.false))

pub returns-clause-numbers : goal.returns-clause-numbers
returns-clause-numbers c =
    let f = c.args.form.now in
    form_numbers c.args.top c.args.costs.now f c.loop-term.line c.value.ensures.width c.requires.fits
    (put_all (value_for_costs f c.args.costs.now.low) f.coefficients c.terms-terms.result.now c.loop-term.term-index
    c.loop-term.line c.loop-term.invariant (omega (arith, c.loop-term-test.false)))
