-- All requests are decided first.
use Rattle.std.proofs.Common.{◌∙◌, refl, sym, subst, [], ◌∷◌}
use Rattle.std.proofs.lemmas.Result.{IfOk-weaker}
use Rattle.form_search.proofs.AdvisorLaws.{left_alike, left_then}
use Rattle.least_conflict.specs.declared.deciding.Decided.{Decided}
use Rattle.least_conflict.specs.declared.deciding.Decided.TheVariants.{Costs, Refuted, Undecided}
use Rattle.least_conflict.specs.Deciding.{IsSetDecided}
use Rattle.least_conflict.proofs.Asking.{asked_as, decision_of}
use Rattle.least_conflict.proofs.Sets.{all_set, fit_all}
use Rattle.least_conflict.proofs.finding.find_conflict.Goals as goal

pub returns-in_err-all-clause-advisors : goal.returns-in_err-all-clause-advisors
returns-in_err-all-clause-advisors g c = left_alike _ _ _ refl

pub decide_set-requires : goal.decide_set-requires
decide_set-requires g c = all_set c.args.problem.now c.in_ok-all.all.items c.in_ok-all.ensures

pub returns-in-Costs-clause-found : goal.returns-in-Costs-clause-found
returns-in-Costs-clause-found g c =
    let p = c.args.problem.now in
    let limits = c.args.limits.now in
    fit_all p c.in_ok-all.all.items c.in-Costs.costs c.in_ok-all.ensures
    (subst (λ (d : Decided). IsSetDecided p limits.top limits.nodes c.in_ok-all.all.items d) c.in-Costs.is c.in_ok-costs.ensures.decided)

pub returns-in-Refuted-clause-advisors : goal.returns-in-Refuted-clause-advisors
returns-in-Refuted-clause-advisors g c = left_then _ _ _ _ c.decide_set.ensures.advisors c.shrink.ensures.advisors

pub returns-in-Undecided-clause-found : goal.returns-in-Undecided-clause-found
returns-in-Undecided-clause-found g c =
    let p = c.args.problem.now in
    let limits = c.args.limits.now in
    let found : IsSetDecided p limits.top limits.nodes c.in_ok-all.all.items (Undecided c.in-Undecided.set) =
    subst (λ (d : Decided). IsSetDecided p limits.top limits.nodes c.in_ok-all.all.items d) c.in-Undecided.is
    c.in_ok-costs.ensures.decided in
    c.undecided.ensures.found limits.top limits.nodes found.1

pub returns-in-Costs-clause-asked : goal.returns-in-Costs-clause-asked
returns-in-Costs-clause-asked g c =
    let limits = c.args.limits.now in
    let costs = c.in-Costs.costs in
    let all = c.in_ok-all.all.items in
    let first = asked_as _ _ _ _ _ c.args.problem.now limits.top limits.nodes all all _ (Costs costs) _ _ refl c.in-Costs.is c.in_ok-costs.ensures.asked in
    (decision_of all first.0 (Costs costs) ∷ [], (c.in_ok-all.ensures, (refl, refl)), (c.decide_set.new.advisors.items, first.1, refl))

pub returns-in-Refuted-clause-asked : goal.returns-in-Refuted-clause-asked
returns-in-Refuted-clause-asked g c =
    let p = c.args.problem.now in
    let limits = c.args.limits.now in
    let t = c.in-Refuted.conflict in
    let all = c.in_ok-all.all.items in
    let found : IsSetDecided p limits.top limits.nodes all (Refuted t) =
    subst (λ (d : Decided). IsSetDecided p limits.top limits.nodes all d) c.in-Refuted.is c.in_ok-costs.ensures.decided in
    let first = asked_as _ _ _ _ _ p limits.top limits.nodes all t.members.items _ (Refuted t) _ _ (sym found.0) c.in-Refuted.is c.in_ok-costs.ensures.asked in
    IfOk-weaker c.shrink.result _ _ (λ end behind. (
      decision_of t.members.items first.0 (Refuted t) ∷ behind.3.0,
      (found.0 ∙ c.in_ok-all.ensures, (behind.0, behind.1, behind.2, behind.3.1)),
      (c.decide_set.new.advisors.items, first.1, behind.3.2),
    ))
    c.shrink.ensures.asked

pub returns-in-Undecided-clause-asked : goal.returns-in-Undecided-clause-asked
returns-in-Undecided-clause-asked g c =
    let p = c.args.problem.now in
    let limits = c.args.limits.now in
    let t = c.in-Undecided.set in
    let all = c.in_ok-all.all.items in
    let found : IsSetDecided p limits.top limits.nodes all (Undecided t) =
    subst (λ (d : Decided). IsSetDecided p limits.top limits.nodes all d) c.in-Undecided.is c.in_ok-costs.ensures.decided in
    let first = asked_as _ _ _ _ _ p limits.top limits.nodes all t.members.items _ (Undecided t) _ _ (sym found.0) c.in-Undecided.is c.in_ok-costs.ensures.asked
    in
    IfOk-weaker c.undecided.result _ _ (λ end told. (
      decision_of t.members.items first.0 (Undecided t) ∷ [],
      (found.0 ∙ c.in_ok-all.ensures, (refl, told)),
      (c.decide_set.new.advisors.items, first.1, refl),
    ))
    c.undecided.ensures.told
