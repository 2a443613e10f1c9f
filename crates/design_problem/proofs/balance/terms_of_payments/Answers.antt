use Rattle.std.proofs.Common.{◌∙◌, ◌++◌, SFits, w64, ap, subst, sym, List, rules, arith}
use Rattle.std.specs.Prelude.{ℤ}
use Rattle.std.proofs.lemmas.Int.{to_z-of_z}
use Rattle.std.proofs.lemmas.List.{take_all}
use Rattle.design_problem.specs.declared.form.Term.{Term}
use Rattle.design_problem.specs.declared.payments.Payment.{Payment}
use Rattle.design_problem.specs.Forms.{AreTerms, coefficient_of, term_of}
use Rattle.design_problem.specs.Payments.{balance_of}
use Rattle.design_problem.proofs.PaymentLaws.{balanced_turn, before_later, more_terms}
use Rattle.design_problem.proofs.balance.terms_of_payments.Goals as goal

pub loop-payment-preserved : goal.loop-payment-preserved
loop-payment-preserved c =
    let ps = c.args.payments.now in
    let i = c.loop-payment.payment-index in
    record {
      balanced = balanced_turn c.args.variables c.loop-payment.terms.items c.turn.new.terms.items c.loop-payment.balance
          c.in_ok-turned.turned c.with_payment-balance.result ps i _ c.loop-payment-test.true
          c.loop-payment.invariant.balanced c.in_ok-turned.ensures c.with_payment-balance.ensures.var
          c.with_payment-balance.ensures.sum (c.loop-payment.invariant.before i _ (omega arith) c.loop-payment-test.true)
          (c.requires.known i _ c.loop-payment-test.true);
      before = before_later c.loop-payment.balance c.in_ok-turned.turned c.with_payment-balance.result
          c.loop-payment.terms.items c.turn.new.terms.items ps i _ c.loop-payment-test.true c.requires.rising
          c.in_ok-turned.ensures c.with_payment-balance.ensures.var;
    }

pub returns-clause-terms : goal.returns-clause-terms
returns-clause-terms c =
    let are = c.loop-payment.invariant.balanced in
    let sum = c.loop-payment.balance.sum in
    let fits : SFits w64 sum = search rules in
    subst (AreTerms c.args.variables) (sym (c.in_ok-push_term.ensures
    ∙ ap (λ (z : ℤ). c.loop-payment.terms.items ++ term_of c.loop-payment.balance.var z) (to_z-of_z w64 sum fits)))
    (more_terms c.args.variables c.loop-payment.balance.var sum c.loop-payment.terms.items are.terms are.within are.known)

pub returns-clause-balances : goal.returns-clause-balances
returns-clause-balances c = λ v.
    let sum = c.loop-payment.balance.sum in
    let fits : SFits w64 sum = search rules in
    ap (λ (ts : List Term). coefficient_of ts v) (c.in_ok-push_term.ensures
    ∙ ap (λ (z : ℤ). c.loop-payment.terms.items ++ term_of c.loop-payment.balance.var z) (to_z-of_z w64 sum fits))
    ∙ c.loop-payment.invariant.balanced.told v
    ∙ ap (λ (ps : List Payment). balance_of ps v) (take_all c.loop-payment.payment-index c.args.payments.now
    (let past = c.loop-payment-test.false in omega arith))
