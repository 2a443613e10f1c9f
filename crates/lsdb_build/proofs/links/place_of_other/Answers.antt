use Rattle.std.proofs.Common.{ap, sym, ◌∙◌}
use Rattle.lsdb_build.specs.Neighbours.{is_other}
use Rattle.lsdb_build.proofs.Placing.{first_passing, other_first}
use Rattle.lsdb_build.proofs.links.place_of_other.Goals as goal

pub loop-place-init : goal.loop-place-init
loop-place-init c =
    let p = c.args.port.now in
    let links = c.args.links.now in
    sym (ap (first_passing (is_other p) links) (c.on-members.ensures ∙ c.requires p) ∙ other_first p links)
