-- The cap is the greatest bound of the restricted problem, which is that of the whole one.
use Rattle.std.proofs.Common.{◌≡◌, ◌∙◌, ℕ, refl, sym, ap, subst}
use Rattle.design_problem.specs.Problems.{DesignProblem, restricted}
use Rattle.design_problem.specs.Rows.{greatest_cost}
use Rattle.design_problem.specs.Answers.{greatest_bound}
use Rattle.form_search.proofs.AdvisorLaws.{left_alike}
use Rattle.cost_branching.specs.Pools.{IsRowPool}
use Rattle.least_conflict.proofs.Asking.{asked_of, both_ok, decided_of}
use Rattle.least_conflict.proofs.Sets.{cap_above}
use Rattle.least_conflict.proofs.deciding.search_set.Goals as goal

pub returns-in_err-part-clause-advisors : goal.returns-in_err-part-clause-advisors
returns-in_err-part-clause-advisors g c = left_alike _ _ _ refl

pub decide-requires-clause-cap : goal.decide-requires-clause-cap
decide-requires-clause-cap g c =
    let q = c.in_ok-part.part in
    let cap_is : c.greatest_of-cap.result ≡ greatest_bound q = c.greatest_of-cap.ensures
    ∙ ap greatest_cost (c.as_slice.ensures ∙ ap (λ (r : DesignProblem). r.high) c.part.view_is) in
    cap_above c.args.problem.now q c.args.members.now c.args.members.now c.greatest_of-cap.result
    c.keeps_problem_on_graph.ensures.problem c.requires.set refl c.in_ok-part.ensures cap_is

pub decide-requires-clause-pool : goal.decide-requires-clause-pool
decide-requires-clause-pool g c = subst (λ (q : DesignProblem). IsRowPool q c.args.pool.now) (sym c.in_ok-part.ensures) c.requires.pool

pub returns-clause-pool : goal.returns-clause-pool
returns-clause-pool g c = subst (λ (q : DesignProblem). IsRowPool q c.decide.new.pool) c.in_ok-part.ensures c.decide.ensures.pool

pub returns-clause-decided : goal.returns-clause-decided
returns-clause-decided g c =
    let q = c.in_ok-part.part in
    let cap_is : c.greatest_of-cap.result ≡ greatest_bound q = c.greatest_of-cap.ensures
    ∙ ap greatest_cost (c.as_slice.ensures ∙ ap (λ (r : DesignProblem). r.high) c.part.view_is) in
    decided_of c.args.problem.now q c.args.members.now c.args.limits.now.top c.args.limits.now.nodes c.greatest_of-cap.result c.decide.new.pool
    c.decide.result c.in_ok-part.ensures cap_is c.decide.ensures.decided

pub returns-clause-asked : goal.returns-clause-asked
returns-clause-asked g c =
    let q = c.in_ok-part.part in
    let cap_is : c.greatest_of-cap.result ≡ greatest_bound q = c.greatest_of-cap.ensures
    ∙ ap greatest_cost (c.as_slice.ensures ∙ ap (λ (r : DesignProblem). r.high) c.part.view_is) in
    let asked = c.decide.ensures.asked in
    both_ok c.decide.result _ _ _
    (λ found decided is_tree. asked_of _ _ _ _ _ c.args.problem.now q c.args.members.now c.args.members.now c.args.limits.now.top c.args.limits.now.nodes
    c.greatest_of-cap.result c.decide.new.pool found found asked.tree _ _ refl c.in_ok-part.ensures
    cap_is c.requires.set refl decided is_tree asked.calls)
    c.decide.ensures.decided asked.is_tree
