use Rattle.std.proofs.Common.{◌∙◌, ap, rules, arith, length, subst, sym, List, SFits, w64, All, ◌<◌}
use Rattle.std.proofs.lemmas.Int.{to_z-of_z}
use Rattle.design_problem.specs.declared.payments.Payment.{Payment}
use Rattle.design_problem.specs.Payments.{balance_of}
use Rattle.design_problem.proofs.PaymentLaws.{form_balanced, sorted_few, sorted_known}
use Rattle.design_problem.proofs.row_form.form_of_paths.Goals as goal

pub terms_of_payments-requires-clause-known : goal.terms_of_payments-requires-clause-known
terms_of_payments-requires-clause-known c =
    subst (λ (ps : List Payment). All (λ p. p.var < c.args.variables) ps) (sym c.as_slice.ensures.value)
    (sorted_known c.args.graph.now c.args.variables c.args.rival.now c.args.wanted.now c.in_ok-payments.payments.items
    c.in_ok-payments.ensures.same c.requires.priced c.requires.rival_known c.requires.wanted_known)

pub terms_of_payments-requires-clause-short : goal.terms_of_payments-requires-clause-short
terms_of_payments-requires-clause-short c =
    let few = sorted_few c.args.graph.now c.args.rival.now c.args.wanted.now c.in_ok-payments.payments.items c.in_ok-payments.ensures.same in
    let same = ap length c.as_slice.ensures.value in
    omega (arith, few, same, c.requires.rival_short, c.requires.wanted_short)

pub returns : goal.returns
returns c =
    let fits : SFits w64 c.constant_of-constant.result = search rules in
    c.from_terms.ensures
    ∙ form_balanced c.args.graph.now c.args.variables _ c.args.wanted.now c.args.rival.now
    c.in_ok-payments.payments.items c.in_ok-terms.terms.items c.in_ok-payments.ensures.same
    (λ v. c.in_ok-terms.ensures.balances v ∙ ap (λ (ps : List Payment). balance_of ps v) c.as_slice.ensures.value)
    (to_z-of_z w64 c.constant_of-constant.result fits ∙ c.constant_of-constant.ensures)
