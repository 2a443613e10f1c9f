-- The budget was used up: the kept tree and the undecided one are printed.
use Rattle.std.proofs.Common.{rules, ◌≡◌, ◌≤◌, ℕ, List, length, subst, sym, arith}
use Rattle.std.specs.Option.{option_copied}
use Rattle.std.specs.Prelude.{Option, Some}
use Rattle.area_graph.specs.Area.{FitsGraph}
use Rattle.design_problem.specs.declared.answer.CapTree.{CapTree}
use Rattle.design_problem.specs.declared.form.Row.{Row}
use Rattle.design_problem.specs.Problems.{DesignProblem, IsProblem}
use Rattle.printed_rows.specs.NamedRows.{TreeNamesBelow}
use Rattle.printed_rows.specs.NewNumbers.{ArePrinted}
use Rattle.cost_branching.specs.Pools.{Pooled, IsRowPool}
use Rattle.least_bound.specs.Caps.{IsTreeKeptBelow, IsUndecidedAt}
use Rattle.least_bound.proofs.ValidAnswers.{AreOnSheet, undecided_answered, undecided_kept, kept_names, kept_on_sheet, names_rows, sheet_of}
use Rattle.least_bound.proofs.Settling.{told_found}
use Rattle.least_bound.proofs.answering.undecided.Goals as goal

-- the sheet of a kept tree and of an undecided one
used_up_sheet : (p : DesignProblem) (top nodes : ℕ) (pool : Pooled) (old : List Row) (kept lent : Option CapTree)
    (t : CapTree) (rows : List Row) (new_proof new_undecided : Option CapTree) → IsProblem p → FitsGraph p.graph →
    IsRowPool p pool → old ≡ pool.rows → lent ≡ kept → IsTreeKeptBelow p top nodes pool t.cap kept →
    IsUndecidedAt p top nodes pool t →
    ArePrinted old lent (Some t) rows new_proof new_undecided → AreOnSheet p pool kept (Some t) rows new_proof new_undecided
used_up_sheet p top nodes pool old kept lent t rows new_proof new_undecided problem graph is_pool same lent_is below used_up =
    kept_on_sheet p top nodes t.cap pool old kept lent (Some t) rows new_proof new_undecided problem graph is_pool same
    lent_is below (names_rows p top t.cap pool old t.tree same used_up.tree)

pub printed_both-requires-clause-proof : goal.printed_both-requires-clause-proof
printed_both-requires-clause-proof c =
    let kept_is : option_copied c.as_ref.result ≡ c.args.kept = search rules in
    subst (λ (kept : Option CapTree). TreeNamesBelow (length c.into_rows.result.items) kept) (sym kept_is)
    (kept_names c.args.problem.now c.requires.trees.0 c.requires.trees.1 c.args.pool c.into_rows.result.items
    c.args.undecided.cap c.args.kept c.into_rows.ensures c.requires.trees.3)

pub printed_both-requires-clause-undecided : goal.printed_both-requires-clause-undecided
printed_both-requires-clause-undecided c =
    let used_up = c.requires.trees.4 in
    names_rows c.args.problem.now c.requires.trees.0 c.args.undecided.cap c.args.pool c.into_rows.result.items
    c.args.undecided.tree c.into_rows.ensures used_up.tree

pub invariant_of-result : goal.invariant_of-result
invariant_of-result c =
    let p = c.args.problem.now in
    let top = c.requires.trees.0 in
    let nodes = c.requires.trees.1 in
    let pool = c.args.pool in
    let t = c.args.undecided in
    let kept = c.args.kept in
    let printed = c.in_ok-printed.printed in
    let lent : option_copied c.as_ref.result ≡ kept = search rules in
    let small : t.cap ≤ 65535 = omega (arith, c.cap_of-cap.ensures) in
    let are = used_up_sheet p top nodes pool c.into_rows.result.items kept (option_copied c.as_ref.result) t printed.rows
    printed.proof printed.undecided c.keeps_problem_on_graph.ensures.problem c.keeps_problem_on_graph.ensures.graph
    c.requires.pool c.into_rows.ensures lent c.requires.trees.3 c.requires.trees.4 c.in_ok-printed.ensures in
    let holds =
    undecided_kept p top nodes pool (sheet_of kept (Some t) printed.rows) (option_copied c.args.costs)
    c.in_ok-printed_if_any.field-0 kept printed.proof t printed.undecided are.sheet are.proof_is are.undecided_is
    c.requires.from_lowest_cap small c.requires.trees.2 c.in_ok-printed_if_any.ensures c.requires.trees.3
    c.requires.trees.4 in
    rw c.cap_of-cap.ensures holds

pub returns-clause-answered : goal.returns-clause-answered
returns-clause-answered c = λ top nodes below used_up.
    let p = c.args.problem.now in
    let pool = c.args.pool in
    let t = c.args.undecided in
    let kept = c.args.kept in
    let printed = c.in_ok-printed.printed in
    let lent : option_copied c.as_ref.result ≡ kept = search rules in
    let are = used_up_sheet p top nodes pool c.into_rows.result.items kept (option_copied c.as_ref.result) t printed.rows
    printed.proof printed.undecided c.keeps_problem_on_graph.ensures.problem c.keeps_problem_on_graph.ensures.graph
    c.requires.pool c.into_rows.ensures lent below used_up c.in_ok-printed.ensures in
    let holds =
    undecided_answered p top nodes pool (sheet_of kept (Some t) printed.rows) (option_copied c.args.costs)
    c.in_ok-printed_if_any.field-0 kept printed.proof t printed.undecided are.sheet are.proof_is are.undecided_is
    c.requires.from_lowest_cap c.requires.costs c.in_ok-printed_if_any.ensures below used_up are.whole in
    rw c.cap_of-cap.ensures holds

pub returns-clause-tells : goal.returns-clause-tells
returns-clause-tells c =
    let lent : option_copied c.as_ref.result ≡ c.args.kept = search rules in
    told_found c.args.problem.now (option_copied c.args.costs) c.args.kept _ (Some c.args.undecided) _ _ lent c.in_ok-printed.ensures
    c.in_ok-printed_if_any.ensures
