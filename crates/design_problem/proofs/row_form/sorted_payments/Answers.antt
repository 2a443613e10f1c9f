use Rattle.std.proofs.Common.{rules}
use Rattle.std.proofs.lemmas.List.Sorted.{IsNonDecreasingBy-from_sort_by_key}
use Rattle.design_problem.specs.declared.payments.Payment.{Payment}
use Rattle.design_problem.proofs.row_form.sorted_payments.Goals as goal

pub returns-clause-rising : goal.returns-clause-rising
returns-clause-rising c =
    IsNonDecreasingBy-from_sort_by_key (λ (p : Payment). p.var) _ c.sort_unstable_by_key.ensures.sorted (λ a r q k. search rules)
