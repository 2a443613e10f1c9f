-- One more variable is put.
use Rattle.std.proofs.Common.{ℕ, ◌++◌, [], ◌∷◌, ◌∙◌, ap, sym, zero-add}
use Rattle.cost_base.specs.Lists.{numbers_from}
use Rattle.cost_base.proofs.ListLemmas.{numbers_from-push}
use Rattle.integer_pivots.proofs.first_lines.unit_leads.Goals as goal

pub loop-var-preserved : goal.loop-var-preserved
loop-var-preserved c =
    let var = c.loop-var.var in
    c.in_ok-push.ensures.items
    ∙ ap (λ vs. vs ++ var ∷ []) c.loop-var.invariant
    ∙ ap (λ (v : ℕ). numbers_from 0 var ++ v ∷ []) (sym (zero-add var))
    ∙ sym (numbers_from-push 0 var)
