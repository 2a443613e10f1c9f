-- What a further cap tells.
use Rattle.std.proofs.Common.{◌∙◌, ap, subst, sym}
use Rattle.design_problem.specs.Rows.{greatest_cost}
use Rattle.form_search.specs.declared.found.Found.{Found}
use Rattle.form_search.specs.declared.found.Found.TheVariants.{Costs, Refuted, Undecided}
use Rattle.cost_branching.specs.Decisions.{IsDecided}
use Rattle.least_bound.proofs.CapLaws.{after_costs, after_refuted, after_used_up, costs_nearer}
use Rattle.least_bound.specs.AdvisorsAsked.{after_cap}
use Rattle.least_bound.specs.Caps.{caps_of}
use Rattle.least_bound.proofs.Settling.{caps_costs, caps_undecided}
use Rattle.least_bound.proofs.so_far.SoFar.after.Goals as goal

pub returns-in-Costs-clause-holds : goal.returns-in-Costs-clause-holds
returns-in-Costs-clause-holds c = λ p top nodes old new problem pool grows holds decided.
    let found : IsDecided p top nodes c.args.cap new (Costs c.in-Costs.costs) =
    subst (λ (f : Found). IsDecided p top nodes c.args.cap new f) c.in-Costs.is decided in
    after_costs p top nodes old new c.args.self c.in-Costs.costs c.greatest_of.result grows holds found.0
    (c.greatest_of.ensures ∙ ap greatest_cost c.as_slice.ensures)

pub returns-in-Costs-clause-nearer : goal.returns-in-Costs-clause-nearer
returns-in-Costs-clause-nearer c = λ p top nodes pool decided.
    let found : IsDecided p top nodes c.args.cap pool (Costs c.in-Costs.costs) =
    subst (λ (f : Found). IsDecided p top nodes c.args.cap pool f) c.in-Costs.is decided in
    costs_nearer p top nodes c.args.cap pool c.in-Costs.costs c.args.self.least c.args.self.most c.greatest_of.result
    c.requires.below_most (c.greatest_of.ensures ∙ ap greatest_cost c.as_slice.ensures) found

pub returns-in-Refuted-clause-holds : goal.returns-in-Refuted-clause-holds
returns-in-Refuted-clause-holds c = λ p top nodes old new problem pool grows holds decided.
    let found : IsDecided p top nodes c.args.cap new (Refuted c.in-Refuted.tree) =
    subst (λ (f : Found). IsDecided p top nodes c.args.cap new f) c.in-Refuted.is decided in
    after_refuted p top nodes old new c.args.self c.args.cap c.in-Refuted.tree problem pool grows c.requires.from_least c.requires.below_most holds found

pub returns-in-Undecided-clause-holds : goal.returns-in-Undecided-clause-holds
returns-in-Undecided-clause-holds c = λ p top nodes old new problem pool grows holds decided.
    let found : IsDecided p top nodes c.args.cap new (Undecided c.in-Undecided.tree) =
    subst (λ (f : Found). IsDecided p top nodes c.args.cap new f) c.in-Undecided.is decided in
    after_used_up p top nodes old new c.args.self c.args.cap c.undecided_at.result grows c.requires.from_least holds
    (c.undecided_at.ensures.holds p top nodes old new c.args.self.most holds.best grows
    (record { tree = found.0; undone = found.1; used_up = found.2 }) c.requires.below_most)

pub returns-in-Costs-clause-caps : goal.returns-in-Costs-clause-caps
returns-in-Costs-clause-caps c =
    caps_costs c.args.self c.args.cap c.greatest_of.result c.args.found c.in-Costs.costs c.in-Costs.is
    (c.greatest_of.ensures ∙ ap greatest_cost c.as_slice.ensures)

pub returns-in-Refuted-clause-caps : goal.returns-in-Refuted-clause-caps
returns-in-Refuted-clause-caps c = ap (λ (f : Found). after_cap (caps_of c.args.self) c.args.cap f) (sym c.in-Refuted.is)

pub returns-in-Undecided-clause-caps : goal.returns-in-Undecided-clause-caps
returns-in-Undecided-clause-caps c =
    caps_undecided c.args.self c.args.cap c.args.found c.in-Undecided.tree c.undecided_at.result c.in-Undecided.is c.undecided_at.ensures.costs
    c.undecided_at.ensures.undecided
