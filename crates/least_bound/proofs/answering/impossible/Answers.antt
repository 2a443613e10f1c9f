-- No costs are fit: the tree at the greatest bound is printed.
use Rattle.std.proofs.Common.{◌≡◌, ℕ, List, refl, arith}
use Rattle.std.specs.Prelude.{Option, Some, None}
use Rattle.area_graph.specs.Area.{FitsGraph}
use Rattle.design_problem.specs.declared.answer.CapTree.{CapTree}
use Rattle.design_problem.specs.declared.form.Row.{Row}
use Rattle.design_problem.specs.Problems.{DesignProblem, IsProblem}
use Rattle.printed_rows.specs.NewNumbers.{ArePrinted}
use Rattle.cost_branching.specs.Pools.{Pooled, IsRowPool}
use Rattle.least_bound.specs.Caps.{IsRefuted}
use Rattle.least_bound.proofs.ValidAnswers.{AreOnSheet, impossible_answered, impossible_kept, names_rows, on_sheet, sheet_of}
use Rattle.least_bound.proofs.Settling.{told_found}
use Rattle.least_bound.proofs.answering.impossible.Goals as goal

-- the sheet of a closed tree
refuted_sheet : (p : DesignProblem) (top nodes : ℕ) (pool : Pooled) (old : List Row) (t : CapTree) (rows : List Row)
    (new_proof new_undecided : Option CapTree) → IsProblem p → FitsGraph p.graph → IsRowPool p pool → old ≡ pool.rows →
    IsRefuted p top nodes pool t → ArePrinted old (Some t) None rows new_proof new_undecided →
    AreOnSheet p pool (Some t) None rows new_proof new_undecided
refuted_sheet p top nodes pool old t rows new_proof new_undecided problem graph is_pool same refuted =
    on_sheet p pool old (Some t) None rows new_proof new_undecided problem graph is_pool same (names_rows p top t.cap pool old t.tree same refuted.tree) tt

pub printed_both-requires-clause-proof : goal.printed_both-requires-clause-proof
printed_both-requires-clause-proof c =
    let refuted = c.requires.refuted.3 in
    names_rows c.args.problem.now c.requires.refuted.0 c.args.cap c.args.pool c.into_rows.result.items c.args.tree c.into_rows.ensures refuted.tree

pub invariant_of-result : goal.invariant_of-result
invariant_of-result c =
    let p = c.args.problem.now in
    let t : CapTree = record { cap = c.args.cap; tree = c.args.tree } in
    let printed = c.in_ok-printed.printed in
    let refuted = c.requires.refuted.3 in
    let are = refuted_sheet p c.requires.refuted.0 c.requires.refuted.1 c.args.pool c.into_rows.result.items t
    printed.rows printed.proof printed.undecided c.keeps_problem_on_graph.ensures.problem
    c.keeps_problem_on_graph.ensures.graph c.requires.pool c.into_rows.ensures refuted c.in_ok-printed.ensures in
    impossible_kept p c.requires.refuted.0 c.requires.refuted.1 c.args.pool (sheet_of (Some t) None printed.rows) t
    printed.proof printed.undecided are.sheet are.proof_is are.undecided_is c.requires.cap
    (omega arith) c.requires.refuted.2 refuted

pub returns-clause-answered : goal.returns-clause-answered
returns-clause-answered c = λ top nodes refuted.
    let p = c.args.problem.now in
    let t : CapTree = record { cap = c.args.cap; tree = c.args.tree } in
    let printed = c.in_ok-printed.printed in
    let are = refuted_sheet p top nodes c.args.pool c.into_rows.result.items t printed.rows printed.proof
    printed.undecided c.keeps_problem_on_graph.ensures.problem c.keeps_problem_on_graph.ensures.graph c.requires.pool
    c.into_rows.ensures refuted c.in_ok-printed.ensures in
    impossible_answered p top nodes c.args.pool (sheet_of (Some t) None printed.rows) t printed.proof printed.undecided
    are.sheet are.proof_is are.undecided_is c.requires.cap refuted are.whole

pub returns-clause-tells : goal.returns-clause-tells
returns-clause-tells c =
    let t : CapTree = record { cap = c.args.cap; tree = c.args.tree } in
    told_found c.args.problem.now None (Some t) (Some t) None _ _ refl c.in_ok-printed.ensures tt
