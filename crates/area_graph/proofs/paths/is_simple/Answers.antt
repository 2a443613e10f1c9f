use Rattle.std.proofs.Common.{rules}
use Rattle.area_graph.specs.Paths.{Joins}
use Rattle.area_graph.proofs.Visits.{joined_known}
use Rattle.area_graph.proofs.paths.is_simple.Goals as goal

pub has_none_twice-requires : goal.has_none_twice-requires
has_none_twice-requires c =
    let joins : Joins c.args.graph.now c.args.path.now.start c.as_slice-edges.result.now c.args.end = search rules in
    joined_known c.args.graph.now c.args.path.now.start c.as_slice-edges.result.now c.args.end joins

pub returns-then-path-vertices : goal.returns-then-path-vertices
returns-then-path-vertices c = search rules
