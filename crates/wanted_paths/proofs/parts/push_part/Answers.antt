use Rattle.std.proofs.Common.{ap, length, arith}
use Rattle.area_graph.specs.Area.{Area}
use Rattle.wanted_paths.specs.Resolution.{knows_router}
use Rattle.wanted_paths.proofs.LookUps.{vertices_count}
use Rattle.wanted_paths.proofs.RouteLaws.{router_known}
use Rattle.wanted_paths.proofs.Walks.{well_from}
use Rattle.wanted_paths.specs.declared.fault.ResolutionFault.TheVariants.{UnknownRouter}
use Rattle.wanted_paths.proofs.parts.push_part.Goals as goal

pub push_router-requires : goal.push_router-requires
push_router-requires c =
    let d = c.args.names.now in
    let name = c.as_bytes.result.now in
    let known = c.in_ok-router-in-Router.ensures.made in
    let within = (router_known d name (well_from (knows_router d name) (UnknownRouter c.args.line) known.0)).0 in
    omega (arith, within, known.1, ap (λ (g : Area). length g.vertices) c.requires, vertices_count d)
