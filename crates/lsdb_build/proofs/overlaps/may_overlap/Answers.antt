use Rattle.std.proofs.Common.{ap, ◌∙◌}
use Rattle.indexmap.specs.IndexMap.{get}
use Rattle.lsdb_build.specs.declared.port.Subnet.{Subnet}
use Rattle.lsdb_build.specs.Neighbours.{Port}
use Rattle.lsdb_build.specs.Tallies.{same_subnet, subnet_of}
use Rattle.lsdb_build.specs.Owners.{has_other}
use Rattle.lsdb_build.proofs.NoOverlap.{overlap_found}
use Rattle.lsdb_build.proofs.overlaps.may_overlap.Goals as goal

pub returns-else-is_inside : goal.returns-else-is_inside
returns-else-is_inside c = λ before seen noted does.
    let enclosing = c.args.enclosing.now.by_prefix in
    c.has_other.ensures
    ∙ ap (λ (s : Subnet). has_other (get same_subnet enclosing s) c.port.inside.router) c.subnet_of.ensures
    ∙ ap (λ (p : Port). has_other (get same_subnet enclosing (subnet_of c.args.port.now)) p.router) c.port.view_is
    ∙ overlap_found c.args.seen.now.by_prefix enclosing before c.args.port.now seen noted (c.is_inside.ensures c.if-is_inside.false) does
