-- The core has no fit costs, so it is refuted again, or the budget is used up.
use Rattle.std.proofs.Common.{◌∙◌, refl, subst, ℕ, List, [], ◌∷◌}
use Rattle.std.proofs.lemmas.Result.{IfOk-weaker}
use Rattle.design_problem.specs.Problems.{restricted}
use Rattle.design_problem.specs.Rows.{IsFit}
use Rattle.form_search.proofs.AdvisorLaws.{left_alike}
use Rattle.least_conflict.specs.declared.deciding.Decided.{Decided}
use Rattle.least_conflict.specs.declared.deciding.Decided.TheVariants.{Refuted, Undecided}
use Rattle.least_conflict.specs.Deciding.{IsSetDecided}
use Rattle.least_conflict.proofs.Asking.{asked_as, decision_of, shown_there, unshown_there}
use Rattle.least_conflict.proofs.finding.finish.Goals as goal

pub returns-in_err-members-clause-advisors : goal.returns-in_err-members-clause-advisors
returns-in_err-members-clause-advisors g c = left_alike _ _ _ refl

pub unreachable-requires : goal.unreachable-requires
unreachable-requires g c =
    let p = c.args.problem.now in
    let found : IsFit (restricted p c.in_ok-members.members.items) c.in-Costs.field-0 =
    subst (λ (d : Decided). IsSetDecided p c.args.limits.now.top c.args.limits.now.nodes c.in_ok-members.members.items d) c.in-Costs.is
    c.in_ok-decide_set.ensures.decided in
    c.requires.shrunk.conflict c.args.shrunk.members c.requires.shrunk.set c.requires.shrunk.of_members c.in-Costs.field-0
    (subst (λ (ms : List ℕ). IsFit (restricted p ms) c.in-Costs.field-0) (c.in_ok-members.ensures.items ∙ c.as_slice.ensures) found)

pub returns-in-Refuted-clause-found : goal.returns-in-Refuted-clause-found
returns-in-Refuted-clause-found g c =
    let p = c.args.problem.now in
    let limits = c.args.limits.now in
    let found : IsSetDecided p limits.top limits.nodes c.in_ok-members.members.items (Refuted c.in-Refuted.conflict) =
    subst (λ (d : Decided). IsSetDecided p limits.top limits.nodes c.in_ok-members.members.items d) c.in-Refuted.is c.in_ok-decide_set.ensures.decided in
    c.least.ensures.found limits.top limits.nodes found.1

pub returns-in-Undecided-clause-found : goal.returns-in-Undecided-clause-found
returns-in-Undecided-clause-found g c =
    let p = c.args.problem.now in
    let limits = c.args.limits.now in
    let found : IsSetDecided p limits.top limits.nodes c.in_ok-members.members.items (Undecided c.in-Undecided.set) =
    subst (λ (d : Decided). IsSetDecided p limits.top limits.nodes c.in_ok-members.members.items d) c.in-Undecided.is c.in_ok-decide_set.ensures.decided in
    c.undecided.ensures.found limits.top limits.nodes found.1

pub returns-in-Refuted-clause-asked : goal.returns-in-Refuted-clause-asked
returns-in-Refuted-clause-asked g c =
    let p = c.args.problem.now in
    let limits = c.args.limits.now in
    let t = c.in-Refuted.conflict in
    let members = c.in_ok-members.members.items in
    let set = c.args.shrunk.members in
    let same = c.in_ok-members.ensures.items ∙ c.as_slice.ensures in
    let found : IsSetDecided p limits.top limits.nodes members (Refuted t) =
    subst (λ (d : Decided). IsSetDecided p limits.top limits.nodes members d) c.in-Refuted.is c.in_ok-decide_set.ensures.decided in
    let asked = asked_as _ _ _ _ _ p limits.top limits.nodes members set _ (Refuted t) _ _ same c.in-Refuted.is c.in_ok-decide_set.ensures.asked in
    IfOk-weaker c.least.result _ _ (λ end told. (
      decision_of set asked.0 (Refuted t) ∷ [],
      shown_there c.args.shrunk t c.requires.ended (found.0 ∙ same) end told,
      (c.decide_set.new.advisors.items, asked.1, refl),
    ))
    c.least.ensures.told

pub returns-in-Undecided-clause-asked : goal.returns-in-Undecided-clause-asked
returns-in-Undecided-clause-asked g c =
    let p = c.args.problem.now in
    let limits = c.args.limits.now in
    let t = c.in-Undecided.set in
    let members = c.in_ok-members.members.items in
    let set = c.args.shrunk.members in
    let same = c.in_ok-members.ensures.items ∙ c.as_slice.ensures in
    let found : IsSetDecided p limits.top limits.nodes members (Undecided t) =
    subst (λ (d : Decided). IsSetDecided p limits.top limits.nodes members d) c.in-Undecided.is c.in_ok-decide_set.ensures.decided in
    let asked = asked_as _ _ _ _ _ p limits.top limits.nodes members set _ (Undecided t) _ _ same c.in-Undecided.is c.in_ok-decide_set.ensures.asked in
    IfOk-weaker c.undecided.result _ _ (λ end told. (
      decision_of set asked.0 (Undecided t) ∷ [],
      unshown_there c.args.shrunk t c.requires.ended (found.0 ∙ same) end told,
      (c.decide_set.new.advisors.items, asked.1, refl),
    ))
    c.undecided.ensures.told
