-- What comes of leaving out the next member.
use Rattle.std.proofs.Common.{◌∙◌, refl, sym, subst, ap, ℕ, List, [], ◌∷◌, length}
use Rattle.std.specs.List.{remove}
use Rattle.design_problem.specs.Problems.{restricted}
use Rattle.design_problem.specs.Rows.{IsFit}
use Rattle.form_search.proofs.AdvisorLaws.{left_alike}
use Rattle.least_conflict.specs.declared.deciding.Decided.{Decided}
use Rattle.least_conflict.specs.declared.deciding.Decided.TheVariants.{Costs, Refuted, Undecided}
use Rattle.least_conflict.specs.declared.shrinking.Shrunk.{Shrunk}
use Rattle.least_conflict.specs.Conflicts.{IsRequestSet}
use Rattle.least_conflict.specs.Deciding.{IsSetDecided}
use Rattle.least_conflict.proofs.Asking.{asked_as, decision_of, needed_before, refuted_before, undecided_there, unused_before}
use Rattle.least_conflict.proofs.Sets.{rest_set}
use Rattle.least_conflict.proofs.ShrinkingLaws.{less_one, more_costs, not_used, refuted_less}
use Rattle.least_conflict.proofs.shrinking.leave_out.Goals as goal

pub returns-in_err-others-clause-advisors : goal.returns-in_err-others-clause-advisors
returns-in_err-others-clause-advisors g c = left_alike _ _ _ refl

pub returns-then-not-uses_next-clause-advisors : goal.returns-then-not-uses_next-clause-advisors
returns-then-not-uses_next-clause-advisors g c = left_alike _ _ _ refl

pub decide_set-requires : goal.decide_set-requires
decide_set-requires g c =
    subst (IsRequestSet c.args.problem.now) (sym c.in_ok-others.ensures)
    (rest_set c.args.problem.now c.args.shrunk.members (length c.args.shrunk.without.items) c.requires.left c.requires.shrunk.set)

pub returns-then-not-uses_next-clause-turned : goal.returns-then-not-uses_next-clause-turned
returns-then-not-uses_next-clause-turned g c =
    not_used c.args.problem.now c.args.shrunk c.with_members.result c.requires.shrunk c.requires.left
    (sym c.uses_next.ensures ∙ c.if-not-uses_next.true)
    (ap (λ (s : Shrunk). s.members) c.with_members.ensures ∙ c.in_ok-others.ensures)
    (ap (λ (s : Shrunk). s.rows) c.with_members.ensures)
    (ap (λ (s : Shrunk). s.without.items) c.with_members.ensures)

pub returns-in_ok-with_costs-in-Costs-clause-turned : goal.returns-in_ok-with_costs-in-Costs-clause-turned
returns-in_ok-with_costs-in-Costs-clause-turned g c =
    let p = c.args.problem.now in
    let found : IsFit (restricted p c.in_ok-others.others.items) c.in-Costs.costs =
    subst (λ (d : Decided). IsSetDecided p c.args.limits.now.top c.args.limits.now.nodes c.in_ok-others.others.items d) c.in-Costs.is
    c.in_ok-costs.ensures.decided in
    let fit = subst (λ (ms : List ℕ). IsFit (restricted p ms) c.in-Costs.costs) c.in_ok-others.ensures found in
    let made = c.in_ok-with_costs-in-Costs in
    more_costs p c.args.shrunk made.field-0 c.in-Costs.costs c.requires.shrunk c.requires.left fit made.ensures.members made.ensures.rows made.ensures.without

pub returns-in_ok-told-in-Refuted-clause-turned : goal.returns-in_ok-told-in-Refuted-clause-turned
returns-in_ok-told-in-Refuted-clause-turned g c =
    let p = c.args.problem.now in
    let top = c.args.limits.now.top in
    let nodes = c.args.limits.now.nodes in
    let found : IsSetDecided p top nodes c.in_ok-others.others.items (Refuted c.in-Refuted.conflict) =
    subst (λ (d : Decided). IsSetDecided p top nodes c.in_ok-others.others.items d) c.in-Refuted.is c.in_ok-costs.ensures.decided in
    refuted_less p top nodes c.in-Refuted.conflict c.in_ok-told-in-Refuted.told c.args.shrunk c.with_told.result c.keeps_problem_on_graph.ensures.problem
    c.requires.shrunk c.requires.left found.1 (found.0 ∙ c.in_ok-others.ensures) (c.in_ok-told-in-Refuted.ensures top nodes found.1.tree)
    (ap (λ (s : Shrunk). s.members) c.with_told.ensures)
    (ap (λ (s : Shrunk). s.rows) c.with_told.ensures)
    (ap (λ (s : Shrunk). s.without.items) c.with_told.ensures)

pub returns-in-Undecided-clause-turned : goal.returns-in-Undecided-clause-turned
returns-in-Undecided-clause-turned g c =
    let p = c.args.problem.now in
    let t = c.in-Undecided.set in
    let found : IsSetDecided p c.args.limits.now.top c.args.limits.now.nodes c.in_ok-others.others.items (Undecided t) =
    subst (λ (d : Decided). IsSetDecided p c.args.limits.now.top c.args.limits.now.nodes c.in_ok-others.others.items d) c.in-Undecided.is
    c.in_ok-costs.ensures.decided in (
      found.1,
      less_one p c.args.shrunk t.members.items (length c.args.shrunk.without.items) c.requires.shrunk c.requires.left (found.0 ∙ c.in_ok-others.ensures),
    )

pub returns-then-not-uses_next-clause-asked : goal.returns-then-not-uses_next-clause-asked
returns-then-not-uses_next-clause-asked g c = (
  [],
  unused_before c.args.shrunk c.with_members.result c.requires.left
      (sym c.uses_next.ensures ∙ c.if-not-uses_next.true)
      (ap (λ (s : Shrunk). s.members) c.with_members.ensures ∙ c.in_ok-others.ensures)
      (ap (λ (s : Shrunk). s.rows) c.with_members.ensures)
      (ap (λ (s : Shrunk). s.without.items) c.with_members.ensures),
  refl,
)

pub returns-in_ok-with_costs-in-Costs-clause-asked : goal.returns-in_ok-with_costs-in-Costs-clause-asked
returns-in_ok-with_costs-in-Costs-clause-asked g c =
    let limits = c.args.limits.now in
    let costs = c.in-Costs.costs in
    let made = c.in_ok-with_costs-in-Costs in
    let rest = remove c.args.shrunk.members (length c.args.shrunk.without.items) in
    let asked = asked_as _ _ _ _ _ c.args.problem.now limits.top limits.nodes c.in_ok-others.others.items rest _ (Costs costs) _ _
    c.in_ok-others.ensures c.in-Costs.is c.in_ok-costs.ensures.asked in (
      decision_of rest asked.0 (Costs costs) ∷ [],
      needed_before c.args.shrunk made.field-0 asked.0 costs c.requires.left (sym c.uses_next.ensures ∙ c.if-not-uses_next.false)
          made.ensures.members made.ensures.rows made.ensures.without,
      (c.decide_set.new.advisors.items, asked.1, refl),
    )

pub returns-in_ok-told-in-Refuted-clause-asked : goal.returns-in_ok-told-in-Refuted-clause-asked
returns-in_ok-told-in-Refuted-clause-asked g c =
    let p = c.args.problem.now in
    let limits = c.args.limits.now in
    let t = c.in-Refuted.conflict in
    let others = c.in_ok-others.others.items in
    let found : IsSetDecided p limits.top limits.nodes others (Refuted t) =
    subst (λ (d : Decided). IsSetDecided p limits.top limits.nodes others d) c.in-Refuted.is c.in_ok-costs.ensures.decided in
    let rest = remove c.args.shrunk.members (length c.args.shrunk.without.items) in
    let asked = asked_as _ _ _ _ _ p limits.top limits.nodes others rest _ (Refuted t) _ _
    c.in_ok-others.ensures c.in-Refuted.is c.in_ok-costs.ensures.asked in (
      decision_of rest asked.0 (Refuted t) ∷ [],
      refuted_before p limits.top limits.nodes t c.in_ok-told-in-Refuted.told c.args.shrunk c.with_told.result c.requires.left
          (sym c.uses_next.ensures ∙ c.if-not-uses_next.false) (found.0 ∙ c.in_ok-others.ensures)
          (c.in_ok-told-in-Refuted.ensures limits.top limits.nodes found.1.tree)
          (ap (λ (s : Shrunk). s.members) c.with_told.ensures)
          (ap (λ (s : Shrunk). s.rows) c.with_told.ensures)
          (ap (λ (s : Shrunk). s.without.items) c.with_told.ensures),
      (c.decide_set.new.advisors.items, asked.1, refl),
    )

pub returns-in-Undecided-clause-asked : goal.returns-in-Undecided-clause-asked
returns-in-Undecided-clause-asked g c =
    let p = c.args.problem.now in
    let limits = c.args.limits.now in
    let t = c.in-Undecided.set in
    let others = c.in_ok-others.others.items in
    let found : IsSetDecided p limits.top limits.nodes others (Undecided t) =
    subst (λ (d : Decided). IsSetDecided p limits.top limits.nodes others d) c.in-Undecided.is c.in_ok-costs.ensures.decided in
    let rest = remove c.args.shrunk.members (length c.args.shrunk.without.items) in
    let asked = asked_as _ _ _ _ _ p limits.top limits.nodes others rest _ (Undecided t) _ _
    c.in_ok-others.ensures c.in-Undecided.is c.in_ok-costs.ensures.asked in (
      decision_of rest asked.0 (Undecided t) ∷ [],
      undecided_there c.args.shrunk t c.requires.left (sym c.uses_next.ensures ∙ c.if-not-uses_next.false) (found.0 ∙ c.in_ok-others.ensures),
      (c.decide_set.new.advisors.items, asked.1, refl),
    )
