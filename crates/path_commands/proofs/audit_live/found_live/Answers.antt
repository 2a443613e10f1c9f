-- A path of which no edge is excluded is audited in what is left.
use Rattle.std.proofs.Common.{rules, sym, subst, ℕ, List}
use Rattle.area_graph.specs.Paths.{Avoids, IsPathOf}
use Rattle.design_problem.specs.declared.problem.Request.{Request}
use Rattle.design_problem.specs.Problems.{request_ends}
use Rattle.path_commands.proofs.LiveAudits.{path_left}
use Rattle.path_commands.proofs.audit_live.found_live.Goals as goal

pub audited-requires-clause-path : goal.audited-requires-clause-path
audited-requires-clause-path c =
    let g = c.args.graph.now in
    let r = c.args.request.now in
    subst (λ (left : Request). IsPathOf g (request_ends left) left.path.edges) (sym c.in_ok-left.ensures)
    (path_left g c.args.exclusion.now r c.requires.path
    (subst (λ (es : List ℕ). Avoids c.args.exclusion.now es) c.as_slice.ensures (c.is_left.ensures.0 c.if-is_left.true)))

pub returns-clause-found : goal.returns-clause-found
returns-clause-found c = search rules
