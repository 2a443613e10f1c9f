-- the items are those of the request file
use Rattle.std.proofs.Common.{◌≡◌, List, [], subst, filter_map, IfOk, IfErr}
use Rattle.cost_base.specs.Lists.{first_of}
use Rattle.design_problem.specs.declared.problem.Request.{Request}
use Rattle.request_reader.specs.declared.DirectiveLine.{DirectiveLine}
use Rattle.wanted_paths.specs.Paths.{request_of, outline}
use Rattle.wanted_paths.specs.LineFaults.{line_faults, TellsResolution}
use Rattle.path_requests.proofs.resolution.resolve_paths.Goals as goal

pub returns-clause-made : goal.returns-clause-made
returns-clause-made c =
    let d = c.args.names.now in
    subst (λ (items : List DirectiveLine). IfOk c.resolve_lines.result (λ made. (line_faults d items ≡ []) ×
    (made.items ≡ filter_map {X = DirectiveLine} {Y = Request} (λ item. request_of d (outline d) item.what) items)))
    c.items.ensures.value c.resolve_lines.ensures.made

pub returns-clause-refused : goal.returns-clause-refused
returns-clause-refused c =
    subst (λ (items : List DirectiveLine). IfErr c.resolve_lines.result (TellsResolution (first_of (line_faults c.args.names.now items))))
    c.items.ensures.value c.resolve_lines.ensures.refused
