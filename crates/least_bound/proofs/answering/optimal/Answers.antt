-- Costs of the least greatest cost: the kept tree is printed, or a floor.
use Rattle.std.proofs.Common.{rules, ◌≡◌, ◌≤◌, ℕ, List, length, subst, sym, arith}
use Rattle.std.specs.Option.{option_copied}
use Rattle.std.specs.Prelude.{Option, None, Some}
use Rattle.area_graph.specs.Area.{FitsGraph}
use Rattle.design_problem.specs.declared.answer.CapTree.{CapTree}
use Rattle.design_problem.specs.declared.form.Row.{Row}
use Rattle.design_problem.specs.Problems.{DesignProblem, IsProblem}
use Rattle.design_problem.specs.Rows.{greatest_cost}
use Rattle.printed_rows.specs.NamedRows.{TreeNamesBelow}
use Rattle.printed_rows.specs.NewNumbers.{ArePrinted}
use Rattle.cost_branching.specs.Pools.{Pooled, IsRowPool}
use Rattle.least_bound.specs.Caps.{IsKeptAt}
use Rattle.least_bound.proofs.ValidAnswers.{AreOnSheet, optimal_answered, optimal_kept, kept_below, kept_names, kept_on_sheet, sheet_of}
use Rattle.least_bound.proofs.Settling.{told_found}
use Rattle.least_bound.proofs.answering.optimal.Goals as goal

-- the sheet of the tree that is kept at the cap below the greatest of some costs
at_least : (p : DesignProblem) (top nodes : ℕ) (pool : Pooled) (old : List Row) (w : List ℕ)
    (kept lent : Option CapTree) (rows : List Row) (new_proof new_undecided : Option CapTree) → IsProblem p →
    FitsGraph p.graph → IsRowPool p pool → old ≡ pool.rows → lent ≡ kept →
    IsKeptAt p top nodes pool (greatest_cost w) kept →
    ArePrinted old lent None rows new_proof new_undecided → AreOnSheet p pool kept None rows new_proof new_undecided
at_least p top nodes pool old w kept lent rows new_proof new_undecided problem graph is_pool same lent_is holds =
    let k = greatest_cost w in
    kept_on_sheet p top nodes k pool old kept lent None rows new_proof new_undecided problem graph is_pool same lent_is
    (kept_below p top nodes pool k k kept (omega arith) holds) tt

pub printed_both-requires-clause-proof : goal.printed_both-requires-clause-proof
printed_both-requires-clause-proof c =
    let p = c.args.problem.now in
    let k = greatest_cost c.args.costs.now in
    let same : k ≤ k = omega arith in
    let kept_is : option_copied c.as_ref.result ≡ c.args.kept = search rules in
    subst (λ (kept : Option CapTree). TreeNamesBelow (length c.into_rows.result.items) kept) (sym kept_is)
    (kept_names p c.requires.kept.0 c.requires.kept.1 c.args.pool c.into_rows.result.items k c.args.kept c.into_rows.ensures
    (kept_below p c.requires.kept.0 c.requires.kept.1 c.args.pool k k c.args.kept same c.requires.kept.3))

pub invariant_of-result : goal.invariant_of-result
invariant_of-result c =
    let p = c.args.problem.now in
    let pool = c.args.pool in
    let w = c.args.costs.now in
    let kept = c.args.kept in
    let printed = c.in_ok-printed.printed in
    let lent : option_copied c.as_ref.result ≡ kept = search rules in
    let are = at_least p c.requires.kept.0 c.requires.kept.1 pool c.into_rows.result.items w kept
    (option_copied c.as_ref.result) printed.rows printed.proof printed.undecided c.keeps_problem_on_graph.ensures.problem
    c.keeps_problem_on_graph.ensures.graph c.requires.pool c.into_rows.ensures lent c.requires.kept.3
    c.in_ok-printed.ensures in
    optimal_kept p c.requires.kept.0 c.requires.kept.1 pool (sheet_of kept None printed.rows) w c.in_ok-costs.costs
    c.floor_without-floor.result kept printed.proof printed.undecided are.sheet are.proof_is are.undecided_is
    c.in_ok-costs.ensures c.floor_without-floor.ensures c.requires.kept.2 c.requires.kept.3

pub returns-clause-answered : goal.returns-clause-answered
returns-clause-answered c = λ top nodes holds.
    let p = c.args.problem.now in
    let pool = c.args.pool in
    let w = c.args.costs.now in
    let kept = c.args.kept in
    let printed = c.in_ok-printed.printed in
    let lent : option_copied c.as_ref.result ≡ kept = search rules in
    let are = at_least p top nodes pool c.into_rows.result.items w kept (option_copied c.as_ref.result) printed.rows
    printed.proof printed.undecided c.keeps_problem_on_graph.ensures.problem c.keeps_problem_on_graph.ensures.graph
    c.requires.pool c.into_rows.ensures lent holds c.in_ok-printed.ensures in
    optimal_answered p top nodes pool (sheet_of kept None printed.rows) w c.in_ok-costs.costs
    c.floor_without-floor.result kept printed.proof printed.undecided are.sheet are.proof_is are.undecided_is
    c.requires.fit c.in_ok-costs.ensures c.floor_without-floor.ensures holds are.whole

pub returns-clause-tells : goal.returns-clause-tells
returns-clause-tells c =
    let lent : option_copied c.as_ref.result ≡ c.args.kept = search rules in
    told_found c.args.problem.now (Some c.args.costs.now) c.args.kept _ None _ _ lent c.in_ok-printed.ensures c.in_ok-costs.ensures
