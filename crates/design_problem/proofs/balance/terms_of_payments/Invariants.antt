use Rattle.std.proofs.Common.{◌≤◌, ◌<◌, ℕ, get_or, length, take}
use Rattle.design_problem.specs.declared.payments.Payment.{Payment}
use Rattle.design_problem.proofs.PaymentLaws.{AreBalanced}
use Rattle.design_problem.proofs.balance.terms_of_payments.Given as goal

abbrev pub invariant-loop-payment : goal.invariant-loop-payment
invariant-loop-payment l = record {
  balanced : AreBalanced l.variables l.terms.items l.balance (take l.payment-index l.payments);
  before : (k : ℕ) (d : Payment) → l.payment-index ≤ k → k < length l.payments → l.balance.var ≤ (get_or l.payments k d).var;
}
