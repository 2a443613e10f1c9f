-- At the greatest bound no costs are fit, costs are found, or the budget is used up.
use Rattle.std.proofs.Common.{◌≡◌, ◌≤◌, ℕ, [], ◌∷◌, refl, sym, ◌∙◌, ap, subst, arith}
use Rattle.std.specs.Prelude.{Some}
use Rattle.std.proofs.lemmas.Result.{IfOk-weaker}
use Rattle.design_problem.specs.Problems.{DesignProblem}
use Rattle.design_problem.specs.Rows.{greatest_cost}
use Rattle.design_problem.specs.Answers.{greatest_bound}
use Rattle.form_search.specs.declared.found.Found.{Found}
use Rattle.form_search.specs.declared.found.Found.TheVariants.{Costs, Refuted, Undecided}
use Rattle.form_search.proofs.AdvisorLaws.{left_then}
use Rattle.cost_branching.specs.Decisions.{IsDecided}
use Rattle.printed_rows.proofs.CapBoxes.{low_below_greatest_bound, no_low_above}
use Rattle.least_bound.specs.AdvisorsAsked.{after_greatest_bound}
use Rattle.least_bound.specs.Caps.{caps_of}
use Rattle.least_bound.proofs.CapLaws.{lowest_cap_below}
use Rattle.least_bound.proofs.Settling.{decision, settled_by_costs, settled_refuted, settled_undecided}
use Rattle.least_bound.proofs.least_cap.least.Goals as goal

pub decide-requires-clause-cap : goal.decide-requires-clause-cap
decide-requires-clause-cap g c =
    let p = c.args.problem.now in
    let cap_is : c.greatest_of-cap.result ≡ greatest_bound p = c.greatest_of-cap.ensures
    ∙ ap greatest_cost (c.as_slice.ensures ∙ ap (λ (q : DesignProblem). q.high) c.problem.view_is) in
    let above : greatest_cost p.low ≤ c.greatest_of-cap.result = omega (arith, cap_is, low_below_greatest_bound p c.keeps_problem_on_graph.ensures.problem) in
    no_low_above p.low c.greatest_of-cap.result above

pub impossible-requires-clause-refuted : goal.impossible-requires-clause-refuted
impossible-requires-clause-refuted g c =
    let p = c.args.problem.now in
    let limits = c.args.limits.now in
    let found : IsDecided p limits.top limits.nodes c.greatest_of-cap.result c.decide.new.pool (Refuted c.in-Refuted.tree) =
    subst (λ (f : Found). IsDecided p limits.top limits.nodes c.greatest_of-cap.result c.decide.new.pool f) c.in-Refuted.is c.in_ok-tree.ensures.decided in
    (limits.top, limits.nodes, limits.budget_end, record { tree = found.0; closed = found.1; few = found.2 })

pub start-so_far-requires : goal.start-so_far-requires
start-so_far-requires g c =
    let p = c.args.problem.now in
    let limits = c.args.limits.now in
    let found : IsDecided p limits.top limits.nodes c.greatest_of-cap.result c.decide.new.pool (Costs c.in-Costs.costs) =
    subst (λ (f : Found). IsDecided p limits.top limits.nodes c.greatest_of-cap.result c.decide.new.pool f) c.in-Costs.is c.in_ok-tree.ensures.decided in
    let most_is : c.greatest_of-most.result ≡ greatest_cost c.in-Costs.costs = c.greatest_of-most.ensures ∙ ap greatest_cost c.as_slice-in-Costs.ensures in
    subst (λ (k : ℕ). greatest_cost p.low ≤ k) (sym most_is) (lowest_cap_below p c.in-Costs.costs found.0)

pub narrowed-requires-clause-so_far : goal.narrowed-requires-clause-so_far
narrowed-requires-clause-so_far g c =
    let p = c.args.problem.now in
    let limits = c.args.limits.now in
    let found : IsDecided p limits.top limits.nodes c.greatest_of-cap.result c.decide.new.pool (Costs c.in-Costs.costs) =
    subst (λ (f : Found). IsDecided p limits.top limits.nodes c.greatest_of-cap.result c.decide.new.pool f) c.in-Costs.is c.in_ok-tree.ensures.decided in
    let most_is : c.greatest_of-most.result ≡ greatest_cost c.in-Costs.costs = c.greatest_of-most.ensures ∙ ap greatest_cost c.as_slice-in-Costs.ensures in
    c.start-so_far.ensures.holds limits.top limits.nodes c.decide.new.pool (found.0, sym most_is)

pub start-so_far-requires-in-Undecided : goal.start-so_far-requires-in-Undecided
start-so_far-requires-in-Undecided g c =
    let p = c.args.problem.now in
    let cap_is : c.greatest_of-cap.result ≡ greatest_bound p = c.greatest_of-cap.ensures
    ∙ ap greatest_cost (c.as_slice.ensures ∙ ap (λ (q : DesignProblem). q.high) c.problem.view_is) in
    subst (λ (k : ℕ). greatest_cost p.low ≤ k) (sym cap_is) (low_below_greatest_bound p c.keeps_problem_on_graph.ensures.problem)

pub narrowed-requires-in-Undecided-clause-so_far : goal.narrowed-requires-in-Undecided-clause-so_far
narrowed-requires-in-Undecided-clause-so_far g c =
    let p = c.args.problem.now in
    let limits = c.args.limits.now in
    let cap_is : c.greatest_of-cap.result ≡ greatest_bound p = c.greatest_of-cap.ensures
    ∙ ap greatest_cost (c.as_slice.ensures ∙ ap (λ (q : DesignProblem). q.high) c.problem.view_is) in
    let found : IsDecided p limits.top limits.nodes c.greatest_of-cap.result c.decide.new.pool (Undecided c.in-Undecided.tree) =
    subst (λ (f : Found). IsDecided p limits.top limits.nodes c.greatest_of-cap.result c.decide.new.pool f) c.in-Undecided.is c.in_ok-tree.ensures.decided in
    let same : c.greatest_of-cap.result ≤ c.greatest_of-cap.result = omega arith in
    c.start-so_far-in-Undecided.ensures.holds limits.top limits.nodes c.decide.new.pool (
      cap_is,
      same,
      record
          { tree = found.0; undone = found.1; used_up = found.2 },
    )

pub returns-in-Costs-clause-advisors : goal.returns-in-Costs-clause-advisors
returns-in-Costs-clause-advisors g c = left_then _ _ _ _ c.decide.ensures.advisors c.narrowed.ensures.advisors

pub returns-in-Undecided-clause-advisors : goal.returns-in-Undecided-clause-advisors
returns-in-Undecided-clause-advisors g c = left_then _ _ _ _ c.decide.ensures.advisors c.narrowed-in-Undecided.ensures.advisors

pub returns-in-Refuted-clause-asked : goal.returns-in-Refuted-clause-asked
returns-in-Refuted-clause-asked g c =
    let p = c.args.problem.now in
    let cap = c.greatest_of-cap.result in
    let cap_is : cap ≡ greatest_bound p = c.greatest_of-cap.ensures
    ∙ ap greatest_cost (c.as_slice.ensures ∙ ap (λ (q : DesignProblem). q.high) c.problem.view_is) in
    let pool = c.decide.new.pool in
    let found = c.in_ok-tree.field-0 in
    let decided = c.in_ok-tree.ensures in
    IfOk-weaker c.impossible.result _ _
    (λ a tells. (
      decision cap pool found ∷ [],
      settled_refuted p cap pool found c.in-Refuted.tree a cap_is c.in-Refuted.is tells,
      (
        c.decide.new.advisors.items,
        record { decided = decided.decided; tree = decided.asked.tree; is_tree = decided.asked.is_tree; calls = decided.asked.calls },
        refl,
      ),
    ))
    c.impossible.ensures.tells

pub returns-in-Costs-clause-asked : goal.returns-in-Costs-clause-asked
returns-in-Costs-clause-asked g c =
    let p = c.args.problem.now in
    let cap = c.greatest_of-cap.result in
    let cap_is : cap ≡ greatest_bound p = c.greatest_of-cap.ensures
    ∙ ap greatest_cost (c.as_slice.ensures ∙ ap (λ (q : DesignProblem). q.high) c.problem.view_is) in
    let w = c.in-Costs.costs in
    let most_is : c.greatest_of-most.result ≡ greatest_cost w = c.greatest_of-most.ensures ∙ ap greatest_cost c.as_slice-in-Costs.ensures in
    let pool = c.decide.new.pool in
    let found = c.in_ok-tree.field-0 in
    let decided = c.in_ok-tree.ensures in
    let begun : caps_of c.start-so_far.result ≡ after_greatest_bound p (Costs w) = c.start-so_far.ensures.caps
    ∙ ap (λ (k : ℕ). record (after_greatest_bound p (Costs w)) { most = k }) most_is in
    IfOk-weaker c.narrowed.result _ _
    (λ a rest. (
      decision cap pool found ∷ rest.0,
      settled_by_costs p cap pool found w (caps_of c.start-so_far.result) rest.0 a cap_is c.in-Costs.is begun rest.1,
      (
        c.decide.new.advisors.items,
        record { decided = decided.decided; tree = decided.asked.tree; is_tree = decided.asked.is_tree; calls = decided.asked.calls },
        rest.2,
      ),
    ))
    c.narrowed.ensures.asked

pub returns-in-Undecided-clause-asked : goal.returns-in-Undecided-clause-asked
returns-in-Undecided-clause-asked g c =
    let p = c.args.problem.now in
    let cap = c.greatest_of-cap.result in
    let cap_is : cap ≡ greatest_bound p = c.greatest_of-cap.ensures
    ∙ ap greatest_cost (c.as_slice.ensures ∙ ap (λ (q : DesignProblem). q.high) c.problem.view_is) in
    let tree = c.in-Undecided.tree in
    let pool = c.decide.new.pool in
    let found = c.in_ok-tree.field-0 in
    let decided = c.in_ok-tree.ensures in
    let begun : caps_of c.start-so_far-in-Undecided.result ≡ after_greatest_bound p (Undecided tree) = c.start-so_far-in-Undecided.ensures.caps
    ∙ ap (λ (k : ℕ). record (after_greatest_bound p (Undecided tree)) { most = k; undecided = Some (record { cap = k; tree = tree }) }) cap_is in
    IfOk-weaker c.narrowed-in-Undecided.result _ _
    (λ a rest. (
      decision cap pool found ∷ rest.0,
      settled_undecided p cap pool found tree (caps_of c.start-so_far-in-Undecided.result) rest.0 a cap_is c.in-Undecided.is begun rest.1,
      (
        c.decide.new.advisors.items,
        record { decided = decided.decided; tree = decided.asked.tree; is_tree = decided.asked.is_tree; calls = decided.asked.calls },
        rest.2,
      ),
    ))
    c.narrowed-in-Undecided.ensures.asked
