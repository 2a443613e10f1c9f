use Rattle.std.proofs.Common.{refl, inl, inr, length, ap, ◌∙◌, arith}
use Rattle.std.proofs.lemmas.Result.{err_from_is_err_and}
use Rattle.design_problem.specs.OpenPlaces.{Growing}
use Rattle.form_search.proofs.AdvisorLaws.{told_entry, told_forms}
use Rattle.form_search.proofs.GrowingTrees.{after_round_full}
use Rattle.form_search.proofs.searching.round.Goals as goal

pub returns-then-entries-nodes-clause-outcome : goal.returns-then-entries-nodes-clause-outcome
returns-then-entries-nodes-clause-outcome g c =
    after_round_full c.args.nodes c.args.tree c.in-Entry.entry c.args.next c.into_tree.result c.in-Entry.is
    (omega (arith, c.if-entries-nodes.true, ap length c.entries.ensures))
    (c.into_tree.ensures ∙ ap (λ (tree : Growing). tree.entries) c.in_ok-undone-in-Entry.ensures)

pub returns-in_err-undone-in-Entry-clause-told : goal.returns-in_err-undone-in-Entry-clause-told
returns-in_err-undone-in-Entry-clause-told g c =
    let p = err_from_is_err_and c.from_residual.result c.from_residual.ensures.1 in
    rw p.1 (inl refl)

pub returns-then-entries-nodes-clause-told : goal.returns-then-entries-nodes-clause-told
returns-then-entries-nodes-clause-told g c = refl

pub returns-in_err-with_told-in-Entry-clause-told : goal.returns-in_err-with_told-in-Entry-clause-told
returns-in_err-with_told-in-Entry-clause-told g c =
    let p = err_from_is_err_and c.from_residual-in_err-with_told-in-Entry.result c.from_residual-in_err-with_told-in-Entry.ensures.1 in
    rw p.1 (inr (told_entry _ c.args.next c.in-Entry.entry _ _ c.in-Entry.is c.with_told.ensures.told))

pub returns-in_ok-with_told-in-Entry-clause-told : goal.returns-in_ok-with_told-in-Entry-clause-told
returns-in_ok-with_told-in-Entry-clause-told g c = told_entry _ c.args.next c.in-Entry.entry _ _ c.in-Entry.is c.with_told.ensures.told

pub returns-in-Forms-clause-told : goal.returns-in-Forms-clause-told
returns-in-Forms-clause-told g c = told_forms _ c.args.next _ _ c.in-Forms.is refl
